use Rattle.full_profile.proofs.laws.Counted.{full_counts_are}
use Rattle.full_profile.proofs.laws.counts_are_those_of_caches.Goals as goal

pub returns : goal.returns
returns c = full_counts_are
