-- The digits of an address, and the end of its line.
use Rattle.std.proofs.Common.{◌∙◌, sym, ap, arith, length}
use Rattle.std.proofs.lemmas.List.{length-drop}
use Rattle.trace_core.specs.Fields.{without_0x}
use Rattle.trace_core.proofs.PlainLines.{din-address}
use Rattle.trace_core.proofs.plain_line.late_address.Goals as goal

pub returns-in-Some-clause-line : goal.returns-in-Some-clause-line
returns-in-Some-clause-line c =
    let text = c.args.text.now in
    let found = c.in_ok-addr.ensures in
    let end = c.in_ok-late_len.ensures in
    din-address text found.parts.0 c.in_ok-addr.field-0-1.now c.in_ok-addr.addr _
    c.in_ok-late_len.field-0
    (ap without_0x (sym c.requires.rest) ∙ c.in-Some.ensures.value ∙ found.parts.1) found.parts.2
    (omega (
      arith,
      found.many.0,
      c.in-Some.ensures.near.1,
      ap length c.requires.rest,
      length-drop 2 text,
      c.requires.room,
    )) end.some end.line

pub returns-clause-line : goal.returns-clause-line
returns-clause-line c =
    let text = c.args.text.now in
    let found = c.in_ok-addr-2.ensures in
    let end = c.in_ok-late_len-2.ensures in
    din-address text found.parts.0 c.in_ok-addr-2.field-0-1.now c.in_ok-addr-2.addr _
    c.in_ok-late_len-2.field-0
    (ap without_0x (sym c.requires.rest) ∙ c.in_default.ensures.value ∙ found.parts.1) found.parts.2
    (omega (
      arith,
      found.many.0,
      ap length c.requires.rest,
      length-drop 2 text,
      c.requires.room,
    )) end.some end.line
