-- The profiles so far were caught up.
use Rattle.std.proofs.Common.{◌≡◌, ◌++◌, map, take, drop}
use Rattle.sweep_core.specs.internal.Feeding.{pair_with_fronts}
use Rattle.sweep_core.proofs.feeding.catch_up.Given as goal

abbrev pub invariant-loop-pair : goal.invariant-loop-pair
invariant-loop-pair l = l.profiles ≡ map (pair_with_fronts l.fed)
    (take l.pair-index l.fn.profiles) ++ drop l.pair-index l.fn.profiles
