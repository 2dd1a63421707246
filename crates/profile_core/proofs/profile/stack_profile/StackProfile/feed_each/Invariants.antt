-- The references so far were fed.
use Rattle.profile_core.proofs.profile.Batches.{IsFedTo}
use Rattle.profile_core.proofs.profile.FrontBatches.{fronts}
use Rattle.profile_core.proofs.profile.stack_profile.StackProfile.feed_each.Given as goal

abbrev pub invariant-loop-at : goal.invariant-loop-at
invariant-loop-at g l =
    IsFedTo fronts l.at l.fed l.fn.self l.self l.fn.addrs l.addrs
