use Rattle.full_profile.proofs.laws.Settled.{settled_is_refined}
use Rattle.full_profile.proofs.laws.settled_is_refined.Goals as goal

pub returns : goal.returns
returns c = settled_is_refined
