use Rattle.full_profile.proofs.laws.Settled.{settled_changes_fronts_only}
use Rattle.full_profile.proofs.laws.settled_changes_fronts_only.Goals as goal

pub returns : goal.returns
returns c = settled_changes_fronts_only
