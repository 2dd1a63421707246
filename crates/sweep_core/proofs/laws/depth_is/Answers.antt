-- The depth of a pair bounds its rows, and one reaches it.
use Rattle.sweep_core.proofs.WorkLaws.{depth-most, depth-reached}
use Rattle.sweep_core.proofs.laws.depth_is.Goals as goal

pub returns-clause-most : goal.returns-clause-most
returns-clause-most c = depth-most

pub returns-clause-reached : goal.returns-clause-reached
returns-clause-reached c = depth-reached
