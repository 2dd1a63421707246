use Rattle.profile_core.proofs.profile.Runs.{geometry_after}
use Rattle.profile_core.proofs.laws.events_keep_the_geometry.Goals as goal

pub returns : goal.returns
returns c = λ v es. geometry_after es v
