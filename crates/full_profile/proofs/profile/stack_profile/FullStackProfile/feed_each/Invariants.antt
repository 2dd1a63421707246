-- The references so far were fed.
use Rattle.profile_core.proofs.profile.Batches.{IsFedTo}
use Rattle.full_profile.proofs.profile.Batches.{settled}
use Rattle.full_profile.proofs.profile.stack_profile.FullStackProfile.feed_each.Given as goal

abbrev pub invariant-loop-at : goal.invariant-loop-at
invariant-loop-at g l = IsFedTo settled l.at l.fed l.fn.self l.self l.fn.refs l.refs
