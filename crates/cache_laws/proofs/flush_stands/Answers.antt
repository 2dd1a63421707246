-- A flush adds itself to the list that a cache stands for: the law on runs of the machine.
use Rattle.cache_core.proofs.cache.RunLaw.{flush_run}
use Rattle.cache_laws.proofs.flush_stands.Goals as goal

pub returns : goal.returns
returns c = flush_run
