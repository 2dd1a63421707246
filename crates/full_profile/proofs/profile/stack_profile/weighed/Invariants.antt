-- What was added up, and what is left.
use Rattle.std.proofs.Common.{◌≡◌, ◌+◌, drop}
use Rattle.profile_core.specs.internal.profile.StackProfile.{weighed}
use Rattle.full_profile.proofs.profile.stack_profile.weighed.Given as goal

abbrev pub invariant-loop-index : goal.invariant-loop-index
invariant-loop-index l = l.sum + weighed l.index (drop l.index l.numbers) ≡ weighed 0 l.numbers
