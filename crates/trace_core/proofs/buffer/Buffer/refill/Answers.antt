-- The bytes that came are behind those that waited.
use Rattle.std.proofs.Common.{rules, ◌≡◌, ◌≤◌, ◌+◌, ◌-◌, ◌++◌, take, length, slice_range, ap, ◌∙◌}
use Rattle.std.proofs.lemmas.List.{length-take-le, with_items_is}
use borrow.Rule.Slice.PartMut.{put_mid}
use Rattle.trace_core.proofs.Buffers.{grown}
use Rattle.trace_core.proofs.buffer.Buffer.refill.Goals as goal

pub returns-clause-more : goal.returns-clause-more
returns-clause-more g c =
    let b = c.self.inside in
    let held = b.end - b.start in
    let n = c.in_ok-count.count in
    let into = c.read.new.into in
    let xs = c.deref_mut.result.now in
    let fits : n ≤ length into = c.in_ok-count.ensures.bound in
    let within : held ≤ length xs = search rules in
    let front : take held xs ≡ c.args.self.now = ap (take held) c.deref_mut.ensures.value ∙
    c.shift.ensures.moved ∙ c.self.view_is in
    let whole : length (put_mid held (length xs - held) xs into) ≡ c.shift.new.bytes.len =
    search rules in
    let put = with_items_is c.shift.new.bytes (put_mid held (length xs - held) xs into) whole in
    let kept = grown xs into held (length xs - held) n within fits ∙
    ap (λ w. w ++ take n into) front in (
      take n into,
      length-take-le n into fits,
      ap (λ ws. slice_range ws 0 (held + n)) put ∙ kept,
      c.in_ok-count.ensures.gives.bytes.0,
    )
