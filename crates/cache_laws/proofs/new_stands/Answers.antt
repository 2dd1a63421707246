-- A new cache stands for no event.
use Rattle.cache_core.proofs.cache.RunLaw.{start_law}
use Rattle.cache_laws.proofs.new_stands.Goals as goal

pub returns : goal.returns
returns c = start_law
