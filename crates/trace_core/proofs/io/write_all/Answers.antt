-- One write more takes some bytes of what is left.
use Rattle.std.proofs.Common.{arith, ◌+◌, ap, ◌∙◌, drop, length}
use Rattle.std.proofs.lemmas.List.{drop-drop, length-drop}
use lib.Seq.{take-add}
use Rattle.trace_core.proofs.Written.{Wrote-taken}
use Rattle.trace_core.proofs.io.write_all.Goals as goal

pub loop-rest-preserved : goal.loop-rest-preserved
loop-rest-preserved g c =
    let bytes = c.args.bytes.now in
    let so_far = c.loop-rest.invariant in
    let n = so_far.0 in
    let count = c.in_ok-count.count in
    let more = Wrote-taken so_far.3 c.in_ok-count.ensures.takes in (
      n + count,
      omega (arith, length-drop n bytes, ap length so_far.2, c.in_ok-count.ensures.bound),
      c.split_at.ensures.back ∙ ap (drop count) so_far.2 ∙ drop-drop count n bytes,
      rw (take-add n count bytes, ← so_far.2) more,
    )
