-- The rows by pairs are the rows, and their sizes fit.
use Rattle.std.proofs.Common.{subst, sym, ap, ◌∙◌}
use Rattle.std.specs.Prelude.{flat_map}
use Rattle.std.specs.List.{AllByRecursion}
use Rattle.sweep_core.specs.internal.Runs.{counted_profiles}
use Rattle.sweep_core.proofs.Serving.{pairs-sizes, pairs-rows}
use Rattle.sweep_core.proofs.sweep.SweepCounts.pairs.Goals as goal

pub returns-clause-rows : goal.returns-clause-rows
returns-clause-rows c =
    ap (flat_map (λ rows. rows)) c.new.ensures
    ∙ pairs-rows c.self.inside.space.powers c.deref.result.now ∙
    ap (counted_profiles c.self.inside.space.powers) c.deref.ensures.value
    ∙ ap (λ s. s.rows) c.self.view_is

pub returns-clause-sizes : goal.returns-clause-sizes
returns-clause-sizes c = subst (AllByRecursion (AllByRecursion _)) (sym c.new.ensures)
    (pairs-sizes c.self.inside.space.powers c.deref.result.now
    (subst (AllByRecursion _) (sym c.deref.ensures.value) c.self.invariant))
