-- The test of a geometry and its limits, both ways.
use Rattle.cache_core.proofs.system.plan.GeometryLaw.{limits_of, within_of}
use Rattle.cache_laws.proofs.limits_are_tested.Goals as goal

pub returns : goal.returns
returns c = λ g. (limits_of g, within_of g)
