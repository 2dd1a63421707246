-- The profiles so far were fed, and the last of them has left these.
use Rattle.std.proofs.Common.{◌-◌, length}
use Rattle.sweep_core.proofs.FullFeeding.{IsFedUpTo}
use Rattle.sweep_core.proofs.full.feeding.feed_full.Given as goal

abbrev pub invariant-loop-at : goal.invariant-loop-at
invariant-loop-at l = IsFedUpTo l.at l.given l.refs l.left l.fn.profiles l.profiles

abbrev pub decreases-loop-at : goal.decreases-loop-at
decreases-loop-at l = length l.initial.profiles - l.at
