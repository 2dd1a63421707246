use Rattle.profile_core.proofs.profile.Runs.{stands_after}
use Rattle.profile_core.proofs.laws.stands_after.Goals as goal

pub returns : goal.returns
returns c = stands_after
