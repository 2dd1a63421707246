-- The profiles so far were caught up.
use Rattle.std.proofs.Common.{◌≡◌, ◌++◌, map, take, drop}
use Rattle.sweep_core.specs.internal.Full.{full_pair_ended}
use Rattle.sweep_core.proofs.full.feeding.end_full.Given as goal

abbrev pub invariant-loop-pair : goal.invariant-loop-pair
invariant-loop-pair l = l.profiles ≡ map (full_pair_ended l.fed)
    (take l.pair-index l.fn.profiles) ++ drop l.pair-index l.fn.profiles
