-- A later pair is outside the ranges.
use Rattle.std.proofs.Common.{◌≡◌, [], arith, subst}
use Rattle.sweep_core.specs.Space.{Ranges, ranges}
use Rattle.sweep_core.specs.internal.Walk.{rows_from}
use Rattle.sweep_core.proofs.Validity.{space-limited}
use Rattle.sweep_core.proofs.Walk.{rows-last}
use Rattle.sweep_core.proofs.space.Space.last_pair.Goals as goal

pub returns-clause-few : goal.returns-clause-few
returns-clause-few c =
    let i = c.self.inside in let limits =
    space-limited (ranges i.bsize i.sets i.assoc i.size i.powers) c.self.invariant in
    omega (arith, c.pair_index.ensures.least 440 limits.bsize.1 limits.sets.1)

pub returns-clause-last : goal.returns-clause-last
returns-clause-last c after k past =
    subst (λ (r : Ranges). rows_from r after k ≡ []) c.self.view_is
    (rows-last _ after k c.pair_index.ensures.greatest past)
