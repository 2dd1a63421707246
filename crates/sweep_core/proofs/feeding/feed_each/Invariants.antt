-- The profiles so far were fed the batch.
use Rattle.std.proofs.Common.{◌≤◌, ◌-◌, length}
use Rattle.sweep_core.proofs.FeedingEach.{IsFedUpTo}
use Rattle.sweep_core.proofs.feeding.feed_each.Given as goal

abbrev pub invariant-loop-at : goal.invariant-loop-at
invariant-loop-at l =
    (l.at ≤ length l.fn.profiles) × IsFedUpTo l.at l.count l.led_count l.end l.fn.addrs l.addrs
    l.led l.fn.profiles l.profiles

abbrev pub decreases-loop-at : goal.decreases-loop-at
decreases-loop-at l = length l.initial.profiles - l.at
