-- The references so far were fed to both.
use Rattle.profile_core.proofs.profile.Batches.{AreFedTo}
use Rattle.full_profile.proofs.profile.Batches.{settled}
use Rattle.full_profile.proofs.profile.stack_profile.FullStackProfile.feed_each_to_two.Given as goal

abbrev pub invariant-loop-at : goal.invariant-loop-at
invariant-loop-at g l =
    AreFedTo settled l.at l.left l.fn.self l.self l.fn.next l.next l.fn.refs l.refs
