-- Never more than two references are sent down.
use Rattle.cache_core.proofs.cache.DownLaw.{down_law}
use Rattle.cache_laws.proofs.two_go_down_at_most.Goals as goal

pub returns : goal.returns
returns c = down_law
