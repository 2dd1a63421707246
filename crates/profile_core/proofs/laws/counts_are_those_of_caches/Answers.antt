use Rattle.profile_core.proofs.profile.Counting.{counts_are}
use Rattle.profile_core.proofs.laws.counts_are_those_of_caches.Goals as goal

pub returns : goal.returns
returns c = counts_are
