-- The profiles so far were fed the reference, where they do not find its block in front.
use Rattle.std.proofs.Common.{◌-◌, ◌≤◌, length}
use Rattle.sweep_core.proofs.FeedingOne.{FedSoFar}
use Rattle.sweep_core.proofs.feeding.feed_at_once.Given as goal

abbrev pub invariant-loop-next : goal.invariant-loop-next
invariant-loop-next l =
    (l.next ≤ length l.fn.profiles) × FedSoFar l.addr l.next l.fn.profiles l.profiles

abbrev pub decreases-loop-next : goal.decreases-loop-next
decreases-loop-next l = length l.initial.profiles - l.next
