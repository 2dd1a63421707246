-- The geometry of a cache that is asked for, as a function and as a relation.
use Rattle.cache_core.proofs.system.plan.GeometryLaw.{geometry_law}
use Rattle.cache_laws.proofs.geometry_is.Goals as goal

pub returns : goal.returns
returns c = geometry_law
