-- A list of events adds itself to the list that a cache stands for.
use Rattle.cache_core.proofs.cache.RunLaw.{runs_law}
use Rattle.cache_laws.proofs.run_stands.Goals as goal

pub returns : goal.returns
returns c = runs_law
