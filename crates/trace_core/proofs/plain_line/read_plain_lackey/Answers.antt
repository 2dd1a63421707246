-- A label between spaces, an address, a comma, a digit and an LF are a line, and so is what has a
-- longer size or ends later.
use Rattle.std.proofs.Common.{◌≡◌, ◌+◌, ◌-◌, ◌≤◌, get_or, length, subst, arith, ap, ◌∙◌}
use Rattle.std.proofs.Common.{ℕ, List}
use Rattle.trace_core.specs.Fields.{WritesNumber}
use Rattle.trace_core.specs.internal.FastLine.{HoldsSize}
use Rattle.trace_core.proofs.PlainLines.{lackey-line, short-size, digit-and-feed}
use Rattle.trace_core.proofs.plain_line.read_plain_lackey.Goals as goal

comma-at : (text : List ℕ) (n : ℕ) → get_or text (4 + n) 0 ≡ 44 → get_or text (n + 1 + 3) 0 ≡ 44
comma-at text n byte =
    let place : n + 1 + 3 ≡ 4 + n = omega arith in
    ap (λ k. get_or text k 0) place ∙ byte

one-digit : (text : List ℕ) (len : ℕ) → len ≤ 16 → 64 ≤ length text → 48 ≤ get_or text (len + 4) 0
    → get_or text (len + 4) 0 ≤ 57
    → get_or text (len + 4 + 1) 0 ≡ 10
    → HoldsSize text (len + 4) (get_or text (len + 4) 0 - 48) (len + 6)
one-digit text len most room low high byte =
    let total : len + 4 + 2 ≡ len + 6 = omega arith in
    subst (HoldsSize text (len + 4) (get_or text (len + 4) 0 - 48)) total
    (short-size text (len + 4) (omega (arith, most, room)) low high byte)

pub returns-then-size-lt10-clause-line : goal.returns-then-size-lt10-clause-line
returns-then-size-lt10-clause-line c =
    let text = c.args.text.now in
    let len = c.first_from-len.result + 1 in
    let read = c.in_ok-addr.ensures in
    let comma = comma-at text c.first_from-len.result
    (c.first_from-len.ensures.byte (omega (arith, read.most))) in
    let found = digit-and-feed c.two_bytes-size.result _ _ (c.type_inv.text (len + 4)).fits
    (c.type_inv.text (len + 4 + 1)).fits c.two_bytes-size.ensures c.if-size-lt10.true in
    lackey-line text c.in_ok-op.op c.in_ok-addr.addr len _ (len + 6) c.in_ok-op.ensures
    (subst (λ r. WritesNumber 16 r (c.in_ok-addr.addr, len)) c.split_at.ensures.back read.value)
    (omega arith) read.most c.requires.room comma
    (subst (λ size. HoldsSize text (len + 4) size (len + 6)) found.3
    (one-digit text len read.most c.requires.room found.0 found.1 found.2))

pub returns-clause-line : goal.returns-clause-line
returns-clause-line c =
    let text = c.args.text.now in
    let len = c.first_from-len.result + 1 in
    let read = c.in_ok-addr.ensures in
    let comma = comma-at text c.first_from-len.result
    (c.first_from-len.ensures.byte (omega (arith, read.most))) in
    lackey-line text c.in_ok-op.op c.in_ok-addr.addr len c.in_ok-size.size c.in_ok-size.len
    c.in_ok-op.ensures
    (subst (λ r. WritesNumber 16 r (c.in_ok-addr.addr, len)) c.split_at.ensures.back read.value)
    (omega arith) read.most c.requires.room comma c.in_ok-size.ensures.line
