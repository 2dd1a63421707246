-- A reference that finds its block in the first slot of its set is a step that sends nothing down.
use Rattle.std.proofs.Common.{Some, arith, refl, sym, subst}
use Rattle.cache_core.specs.internal.system.SystemSteps.{nothing_down}
use Rattle.cache_core.specs.system.SystemStands.{SystemStandsFor}
use Rattle.cache_core.proofs.system.SystemLaw.{step_law}
use Rattle.cache_core.proofs.system.System.step.Goals as goal

pub returns-then-access_first_level_in_front-clause-stands
    : goal.returns-then-access_first_level_in_front-clause-stands
returns-then-access_first_level_in_front-clause-stands c = λ plan seed events good stands.
    step_law plan seed events _ c.args.reference _ (Some nothing_down) good
    (subst (SystemStandsFor plan seed events) (sym c.self.view_is) stands)
    (rw c.if-access_first_level_in_front.true at c.access_first_level_in_front.ensures.value)
    (refl, refl) (omega arith) refl
