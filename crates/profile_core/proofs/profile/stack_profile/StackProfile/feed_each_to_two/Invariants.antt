-- The references so far were fed to both.
use Rattle.profile_core.proofs.profile.Batches.{AreFedTo}
use Rattle.profile_core.proofs.profile.FrontBatches.{fronts}
use Rattle.profile_core.proofs.profile.stack_profile.StackProfile.feed_each_to_two.Given as goal

abbrev pub invariant-loop-at : goal.invariant-loop-at
invariant-loop-at g l =
    AreFedTo fronts l.at l.left l.fn.self l.self l.fn.next l.next l.fn.addrs l.addrs
