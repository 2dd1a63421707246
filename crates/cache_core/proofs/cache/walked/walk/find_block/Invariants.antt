-- No slot before the index holds the block.
use Rattle.std.proofs.Common.{◌-◌, ◌≤◌, length}
use Rattle.cache_core.specs.internal.cache.Order.{NoneBefore}
use Rattle.cache_core.proofs.cache.walked.walk.find_block.Given as goal

abbrev pub invariant-loop-at : goal.invariant-loop-at
invariant-loop-at l = (l.at ≤ length l.slots) × NoneBefore l.block l.slots l.at

abbrev pub decreases-loop-at : goal.decreases-loop-at
decreases-loop-at l = length l.slots - l.at

abbrev pub invariant-loop-at-2 : goal.invariant-loop-at-2
invariant-loop-at-2 l = NoneBefore l.block l.slots l.at

abbrev pub decreases-loop-at-2 : goal.decreases-loop-at-2
decreases-loop-at-2 l = length l.slots - l.at
