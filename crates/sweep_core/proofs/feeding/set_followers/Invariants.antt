-- The profiles so far say how many followers they have.
use Rattle.std.proofs.Common.{◌≡◌, ◌++◌, take, drop}
use Rattle.sweep_core.specs.internal.Feeding.{with_followers}
use Rattle.sweep_core.proofs.feeding.set_followers.Given as goal

abbrev pub invariant-loop-at : goal.invariant-loop-at
invariant-loop-at l = l.profiles ≡ take l.at (with_followers l.fn.profiles) ++
    drop l.at l.fn.profiles
