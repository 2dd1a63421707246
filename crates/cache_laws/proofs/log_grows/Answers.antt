-- The log of more events begins with that of fewer.
use Rattle.cache_laws.proofs.LinesLaw.{growth_law}
use Rattle.cache_laws.proofs.log_grows.Goals as goal

pub returns : goal.returns
returns c = growth_law
