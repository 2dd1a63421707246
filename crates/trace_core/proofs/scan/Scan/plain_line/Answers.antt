-- What a loop does with a line of the plain form.
use Rattle.std.proofs.Common.{arith, ap, ◌∙◌, ◌≡◌, ◌<◌, ◌+◌, ◌-◌, [], drop, take, length}
use Rattle.std.proofs.Common.{refl, sym, subst}
use Rattle.std.proofs.lemmas.List.{length-drop, drop-drop}
use Rattle.trace_core.specs.Reader.{progress_ahead}
use Rattle.trace_core.specs.internal.Scan.{progress}
use Rattle.trace_core.specs.internal.FastLine.{HoldsLine}
use Rattle.trace_core.proofs.Deliveries.{Delivers-none}
use Rattle.trace_core.proofs.PlainLines.{holds-in-front}
use Rattle.trace_core.proofs.Steps.{steps-item, stays-open}
use Rattle.trace_core.proofs.scan.Scan.plain_line.Goals as goal

pub returns-clause-advances : goal.returns-clause-advances
returns-clause-advances c = λ v.
    let s = c.args.self.now in
    let ahead = c.args.ahead.now in
    let len = c.in_ok-item.len in
    let item = c.in_ok-item.item in
    let unread = drop ahead.bytes s.buffer in
    let read = c.in_ok-item.ensures.line in
    let text = c.split_at-2.ensures.front ∙ ap (take 64) (c.split_at.ensures.back ∙
    ap (drop ahead.bytes) c.as_slice.ensures.value) in
    let found = holds-in-front s.format unread 64 item len
    (subst (λ t. HoldsLine s.format t item len) text read) in
    let some : 0 < length s.buffer = omega (
      arith,
      found.line_feed.0.high,
      length-drop ahead.bytes s.buffer,
    ) in
    let place : len ≡ len - 1 + 1 = omega (arith, found.some) in
    let within : ahead.lines + s.lines < s.limit = omega (
      arith,
      c.requires.lines,
      c.if-ahead-self.false,
      s.plain.0,
    ) in (
      [],
      Delivers-none _ _,
      steps-item _ (progress_ahead (progress s) ahead)
          (stays-open s.state s.buffer s.stopped some) unread (len - 1)
          item (progress_ahead (progress s)
          (record { lines = ahead.lines + 1; bytes = ahead.bytes + len })) _ refl
          found.line_feed found.means (omega (arith, c.in_ok-item.ensures.short)) within
          refl (omega arith) (sym (drop-drop len ahead.bytes s.buffer) ∙
          ap (λ k. drop k unread) place) (refl, refl, refl),
    )
