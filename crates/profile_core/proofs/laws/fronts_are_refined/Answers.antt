use Rattle.profile_core.proofs.profile.Fronts.{front_refined}
use Rattle.profile_core.proofs.laws.fronts_are_refined.Goals as goal

pub returns : goal.returns
returns c = front_refined
