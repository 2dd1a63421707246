use Rattle.std.proofs.Common.{[], refl}
use Rattle.callers.proofs.observers.lines_of_step.Goals as goal

pub returns : goal.returns
returns c plan seed events is_plan stands = c.step_observed.ensures.seen plan seed events is_plan
    stands [] refl
