use Rattle.profile_core.proofs.profile.Counting.{probes_at_most}
use Rattle.profile_core.proofs.laws.probes_bounded.Goals as goal

pub returns : goal.returns
returns c = probes_at_most
