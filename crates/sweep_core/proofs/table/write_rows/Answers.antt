-- The rows of each pair are written.
use Rattle.std.proofs.Common.{ap}
use Rattle.std.specs.Prelude.{flat_map}
use Rattle.std.proofs.lemmas.Result.{err_from_is_err_and}
use Rattle.sweep_core.proofs.Writing.{csv-append, csv-none}
use Rattle.sweep_core.proofs.Writing.{rows-begin, rows-more, rows-failed}
use Rattle.sweep_core.proofs.table.write_rows.Goals as goal

pub loop-rows-init : goal.loop-rows-init
loop-rows-init g c = rw c.into_iter-rows-iterator.ensures.into_iter_gives (
  c.requires,
  rows-begin csv-none (flat_map (λ rows. rows) c.args.pairs) (g.K.Sink.view c.args.sink.now),
)

pub loop-rows-preserved : goal.loop-rows-preserved
loop-rows-preserved g c = (
  (rw c.in-Some.ensures.steps at c.loop-rows.invariant.0).1,
  rows-more csv-append _ _ c.loop-rows.invariant.1
      (ap (flat_map (λ rows. rows)) c.in-Some.ensures.steps)
      c.in_ok-write_pair.ensures,
)

pub returns-in_err-write_pair : goal.returns-in_err-write_pair
returns-in_err-write_pair g c =
    let p = err_from_is_err_and c.from_residual.result c.from_residual.ensures.1 in
    rw p.1 (rows-failed csv-append _ _ c.loop-rows.invariant.1
    (ap (flat_map (λ rows. rows)) c.in-Some.ensures.steps) c.in_err-write_pair.ensures)
