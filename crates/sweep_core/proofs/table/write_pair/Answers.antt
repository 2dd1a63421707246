-- The text of each row is written.
use Rattle.std.proofs.Common.{[], ◌∷◌, ◌∙◌, sym, subst}
use Rattle.std.proofs.lemmas.Result.{err_from_is_err_and}
use Rattle.trace_core.specs.Device.{Wrote, WrotePart}
use Rattle.sweep_core.proofs.Writing.{csv-append, csv-one, csv-none}
use Rattle.sweep_core.proofs.Writing.{rows-begin, rows-more, rows-failed}
use Rattle.sweep_core.proofs.table.write_pair.Goals as goal

pub loop-config-init : goal.loop-config-init
loop-config-init g c = rw c.into_iter-config-iterator.ensures.into_iter_gives (
  c.requires,
  rows-begin csv-none c.args.rows (g.K.Sink.view c.args.sink.now),
)

pub loop-config-preserved : goal.loop-config-preserved
loop-config-preserved g c = (
  (rw c.in-Some.ensures.steps at c.loop-config.invariant.0).1,
  rows-more csv-append (_ ∷ []) _ c.loop-config.invariant.1 c.in-Some.ensures.steps
      (subst (Wrote (g.K.Sink.view c.loop-config.sink) (g.K.Sink.view c.write_all.new.sink))
      (c.as_slice.ensures ∙ c.set.ensures ∙ sym (csv-one _)) c.in_ok-write_all.ensures),
)

pub returns-in_err-write_all : goal.returns-in_err-write_all
returns-in_err-write_all g c =
    let p = err_from_is_err_and c.from_residual.result c.from_residual.ensures.1 in
    rw p.1 (rows-failed csv-append (_ ∷ []) _ c.loop-config.invariant.1 c.in-Some.ensures.steps
    (subst (WrotePart (g.K.Sink.view c.loop-config.sink) (g.K.Sink.view c.write_all.new.sink))
    (c.as_slice.ensures ∙ c.set.ensures ∙ sym (csv-one _)) c.in_err-write_all.ensures))
