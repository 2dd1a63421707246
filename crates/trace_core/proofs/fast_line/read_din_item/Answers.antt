-- An address makes a din line of a label.
use Rattle.std.proofs.Common.{sym, ◌∙◌, arith}
use Rattle.trace_core.specs.declared.line.Format.TheVariants.{Din}
use Rattle.trace_core.proofs.FastLines.{din-front, begins-at}
use Rattle.trace_core.proofs.fast_line.read_din_item.Goals as goal

pub returns-in-Some-clause-begins : goal.returns-in-Some-clause-begins
returns-in-Some-clause-begins c =
    let text = c.args.text.now in
    let found = c.in_ok-addr.ensures in
    begins-at Din text _ _ _ (din-front text c.args.rest.now found.parts.0 _ c.args.label
    c.in_ok-addr.addr c.in_ok-op.op (sym c.in_ok-op.ensures) c.requires.begun
    (c.in-Some.ensures.value ∙ found.parts.1) found.parts.2)
    (omega (arith, found.many.0, c.in-Some.ensures.near.1, c.requires.within))

pub returns-clause-begins : goal.returns-clause-begins
returns-clause-begins c =
    let text = c.args.text.now in
    let found = c.in_ok-addr-2.ensures in
    begins-at Din text _ _ _ (din-front text c.args.rest.now found.parts.0 _ c.args.label
    c.in_ok-addr-2.addr c.in_ok-op.op (sym c.in_ok-op.ensures) c.requires.begun
    (c.in_default.ensures.value ∙ found.parts.1) found.parts.2)
    (omega (arith, found.many.0, c.requires.within))
