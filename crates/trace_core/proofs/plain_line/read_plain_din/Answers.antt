-- A label, a space, an address and an LF are a line, and so is what ends later.
use Rattle.std.proofs.Common.{◌≡◌, ◌+◌, get_or, subst, ap, ◌∙◌, sym, arith}
use Rattle.trace_core.specs.Fields.{WritesNumber}
use Rattle.trace_core.proofs.PlainLines.{short-address}
use Rattle.trace_core.proofs.plain_line.read_plain_din.Goals as goal

pub returns-in-Some-clause-line : goal.returns-in-Some-clause-line
returns-in-Some-clause-line c =
    let text = c.args.text.now in
    let len = c.first_from-len.result + 1 in
    let read = c.in-Some.ensures in
    let place : 3 + c.first_from-len.result ≡ len + 2 = omega arith in
    let byte : get_or text (len + 2) 0 ≡ 10 = ap (λ k. get_or text k 0) (sym place) ∙
    c.first_from-len.ensures.byte (omega (arith, read.most)) in
    let label = c.in_ok-op.ensures in
    short-address text c.in-Some.addr len (subst (λ r. WritesNumber 16 r (c.in-Some.addr, len))
    c.split_at.ensures.back read.value) (omega arith) read.most c.requires.room byte c.in_ok-op.op
    label.0 label.1 label.2

pub returns-clause-line : goal.returns-clause-line
returns-clause-line c =
    let label = c.in_ok-op.ensures in
    c.in_ok-addr.ensures.line c.in_ok-op.op label.0 label.1 label.2
