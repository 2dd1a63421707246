-- An access adds its reference to the list that a cache stands for.
use Rattle.cache_core.proofs.cache.RunLaw.{access_run}
use Rattle.cache_laws.proofs.access_stands.Goals as goal

pub returns : goal.returns
returns c = access_run
