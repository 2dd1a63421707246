-- A label and the spaces beside it.
use Rattle.std.proofs.Common.{◌≡◌, ◌∙◌, sym, get_or, drop, ap, arith, rules, tests}
use Rattle.trace_core.specs.Line.{lackey_op}
use Rattle.trace_core.proofs.PlainLines.{blank-begun, doubled-begun, two-bytes, some-op}
use Rattle.trace_core.proofs.plain_line.plain_lackey_op.Goals as goal

pub returns-then-two_bytes-eq8265 : goal.returns-then-two_bytes-eq8265
returns-then-two_bytes-eq8265 c =
    let text = c.args.text.now in
    let last : get_or text 2 0 ≡ 32 = search (rules, tests) in
    let is : c.two_bytes.result ≡ 8265 = search (rules, tests) in
    let both = two-bytes 73 32 _ _ (c.type_inv.text 0).fits (c.type_inv.text 1).fits (omega arith)
    (sym c.two_bytes.ensures ∙ is) in
    (get_or text 0 0, doubled-begun text c.requires.room both.1 last, ap lackey_op both.0)

pub returns : goal.returns
returns c =
    let text = c.args.text.now in
    let last : get_or text 2 0 ≡ 32 = search (rules, tests) in
    let first : get_or text 0 0 ≡ 32 = search (rules, tests) in
    some-op text (drop 3 text) c.lackey_op.result (get_or text 1 0) c.lackey_op.ensures
    (blank-begun text c.requires.room first last)
