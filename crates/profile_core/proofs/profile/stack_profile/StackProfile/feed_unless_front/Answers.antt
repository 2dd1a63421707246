-- A reference of a batch that is fed is one more.
use Rattle.std.proofs.Common.{ap, arith}
use Rattle.profile_core.specs.profile.State.{fed_of}
use Rattle.profile_core.proofs.profile.Fronts.{fit_inside, reference_fed}
use Rattle.profile_core.proofs.profile.stack_profile.StackProfile.feed_unless_front.Goals as goal

pub returns-clause-more : goal.returns-clause-more
returns-clause-more g c = omega (
  arith,
  ap fed_of c.feed_behind.ensures,
  reference_fed c.args.self.now c.block_of-block.result
      (fit_inside c.self.invariant c.self.view_is),
)
