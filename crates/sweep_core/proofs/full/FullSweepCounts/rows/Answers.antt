-- The sizes of the rows fit.
use Rattle.std.proofs.Common.{subst, sym}
use Rattle.std.specs.List.{AllByRecursion}
use Rattle.sweep_core.proofs.FullServing.{all-sizes}
use Rattle.sweep_core.proofs.full.FullSweepCounts.rows.Goals as goal

pub returns-clause-sizes : goal.returns-clause-sizes
returns-clause-sizes c = subst (AllByRecursion _) (sym c.new.ensures)
    (all-sizes c.self.inside.space.powers c.deref.result.now
    (subst (AllByRecursion _) (sym c.deref.ensures.value) c.self.invariant))
