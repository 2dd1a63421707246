-- The digits of a size, and the end of its line.
use Rattle.std.proofs.Common.{◌∙◌, sym, arith}
use Rattle.trace_core.proofs.PlainLines.{late-size}
use Rattle.trace_core.proofs.plain_line.late_size.Goals as goal

pub returns-clause-line : goal.returns-clause-line
returns-clause-line c =
    let size = c.in_ok-size.ensures.parts in
    let end = c.in_ok-late_len.ensures in
    late-size c.args.text.now c.args.at c.in_ok-size.size c.in_ok-late_len.field-0 size.0
    c.in_ok-size.rest.now (omega (arith, c.requires.room, c.requires.within))
    (sym c.split_at.ensures.back ∙ size.1) size.2 end.some end.line
