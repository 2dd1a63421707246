-- A cache with a line more in each set hits and holds all that the smaller one does.
use Rattle.cache_core.proofs.simulation.LruRun.{hit_inclusion, held_law}
use Rattle.cache_laws.proofs.inclusion.Goals as goal

pub returns-clause-hits : goal.returns-clause-hits
returns-clause-hits c = hit_inclusion

pub returns-clause-held : goal.returns-clause-held
returns-clause-held c = held_law
