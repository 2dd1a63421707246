-- An address, a comma and a size make a lackey line of a label.
use Rattle.std.proofs.Common.{rules, tests, ◌≡◌, ◌∙◌, ◌-◌, ◌++◌, ◌∷◌, get_or, sym, ap, take, drop}
use Rattle.std.proofs.Common.{length, Some, refl, arith}
use Rattle.std.proofs.lemmas.List.{length-take-le, length-drop}
use Rattle.trace_core.specs.Line.{lackey_op}
use Rattle.trace_core.specs.declared.line.Format.TheVariants.{Lackey}
use Rattle.trace_core.proofs.Fronts.{one-front}
use Rattle.trace_core.proofs.FastLines.{lackey-front, begins-at}
use Rattle.trace_core.proofs.fast_line.read_lackey_item.Goals as goal

pub returns-in-Some-clause-begins : goal.returns-in-Some-clause-begins
returns-in-Some-clause-begins c =
    let text = c.args.text.now in
    let address = c.in_ok-addr.ensures.parts in
    let size = c.in-Some.ensures.parts in
    let rest = c.in_ok-addr.after.now in
    let more = take (length rest - 1) (drop 1 rest) in
    let comma : get_or rest 0 0 ≡ 44 = search (rules, tests) in
    let op : lackey_op c.args.label ≡ Some c.in_ok-op.op = sym c.in_ok-op.ensures in
    let back : length more ≡ length rest - 1 =
    length-take-le (length rest - 1) (drop 1 rest) (omega (arith, length-drop 1 rest)) in
    begins-at Lackey text _ _ _ (lackey-front text c.args.rest.now more address.0
    size.0 _ c.args.label c.in_ok-addr.addr c.in-Some.size c.in_ok-op.op
    c.requires.begun op (address.1 ∙ ap (λ xs. address.0 ++ xs) (one-front rest
    c.in-44.len_at_least ∙ ap (λ b. b ∷ more) comma)) address.2 size.1 size.2)
    (omega (
      arith,
      c.in_ok-addr.ensures.many.0,
      c.in-Some.ensures.near,
      back,
      c.in-44.len_at_least,
      c.requires.within,
    ))

pub returns-clause-begins : goal.returns-clause-begins
returns-clause-begins c =
    let text = c.args.text.now in
    let address = c.in_ok-addr.ensures.parts in
    let size = c.in_ok-size.ensures.parts in
    let rest = c.in_ok-addr.after.now in
    let more = take (length rest - 1) (drop 1 rest) in
    let comma : get_or rest 0 0 ≡ 44 = search (rules, tests) in
    let op : lackey_op c.args.label ≡ Some c.in_ok-op.op = sym c.in_ok-op.ensures in
    begins-at Lackey text c.in_ok-size.rest.now _ _ (lackey-front text c.args.rest.now more
    address.0 size.0 c.in_ok-size.rest.now c.args.label c.in_ok-addr.addr c.in_ok-size.size
    c.in_ok-op.op c.requires.begun op (address.1 ∙ ap (λ xs. address.0 ++ xs) (one-front rest
    c.in-44.len_at_least ∙ ap (λ b. b ∷ more) comma)) address.2 size.1 size.2) refl
