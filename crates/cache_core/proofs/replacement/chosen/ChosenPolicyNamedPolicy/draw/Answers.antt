-- The numbers left after a draw are those of the policy that was chosen.
use Rattle.cache_core.proofs.replacement.chosen.ChosenPolicyNamedPolicy.draw.Goals as goal

pub returns-in-Random-clause-rest : goal.returns-in-Random-clause-rest
returns-in-Random-clause-rest c = λ victim. rw c.in-Random.is (c.draw-in-Random.ensures.rest victim)
