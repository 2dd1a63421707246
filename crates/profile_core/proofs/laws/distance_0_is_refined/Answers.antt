use Rattle.profile_core.proofs.profile.Fronts.{near_refined}
use Rattle.profile_core.proofs.laws.distance_0_is_refined.Goals as goal

pub returns : goal.returns
returns c = near_refined
