-- A label and a space, in one number.
use Rattle.std.proofs.Common.{◌∙◌, sym, get_or, ap, arith}
use Rattle.trace_core.specs.Line.{din_op}
use Rattle.trace_core.proofs.PlainLines.{single-begun, two-bytes}
use Rattle.trace_core.proofs.plain_line.plain_din_op.Goals as goal

pub returns-in-8240 : goal.returns-in-8240
returns-in-8240 c =
    let text = c.args.text.now in
    let both = two-bytes 48 32 _ _ (c.type_inv.text 0).fits (c.type_inv.text 1).fits (omega arith)
    (sym c.two_bytes.ensures ∙ c.in-8240.is) in
    (get_or text 0 0, single-begun text c.requires.room both.1, ap din_op both.0)

pub returns-in-8241 : goal.returns-in-8241
returns-in-8241 c =
    let text = c.args.text.now in
    let both = two-bytes 49 32 _ _ (c.type_inv.text 0).fits (c.type_inv.text 1).fits (omega arith)
    (sym c.two_bytes.ensures ∙ c.in-8241.is) in
    (get_or text 0 0, single-begun text c.requires.room both.1, ap din_op both.0)

pub returns-in-8242 : goal.returns-in-8242
returns-in-8242 c =
    let text = c.args.text.now in
    let both = two-bytes 50 32 _ _ (c.type_inv.text 0).fits (c.type_inv.text 1).fits (omega arith)
    (sym c.two_bytes.ensures ∙ c.in-8242.is) in
    (get_or text 0 0, single-begun text c.requires.room both.1, ap din_op both.0)
