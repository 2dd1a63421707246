-- What look-back windows say is what the LRU machine does.
use Rattle.cache_core.proofs.simulation.LruRun.{hit_law, victim_law, count_law, next_law}
use Rattle.cache_laws.proofs.window_is_machine.Goals as goal

pub returns-clause-hits : goal.returns-clause-hits
returns-clause-hits c = hit_law

pub returns-clause-victims : goal.returns-clause-victims
returns-clause-victims c = victim_law

pub returns-clause-counts : goal.returns-clause-counts
returns-clause-counts c = count_law

pub returns-clause-next : goal.returns-clause-next
returns-clause-next c = next_law
