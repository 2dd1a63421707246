-- A cache that is asked for by its sets has these sets.
use Rattle.arguments.proofs.SetsLaw.{sets_law}
use Rattle.arguments.proofs.laws.sets_are.Goals as goal

pub returns : goal.returns
returns c = sets_law
