-- Each set of the machine is in its policy's order.
use Rattle.cache_core.proofs.cache.RunLaw.{order_run}
use Rattle.cache_laws.proofs.sets_in_order.Goals as goal

pub returns : goal.returns
returns c = order_run
