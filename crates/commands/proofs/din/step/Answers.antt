-- A system is stepped through the events of an entry.
use Rattle.trace_core.specs.declared.events.Kind.TheVariants.{All}
use Rattle.trace_core.proofs.EntryEvents.{one_event, two_events}
use Rattle.commands.proofs.DinLemmas.{adds_both}
use Rattle.commands.proofs.din.step.Goals as goal

pub returns-in-Some-clause-stands : goal.returns-in-Some-clause-stands
returns-in-Some-clause-stands c =
    rw (two_events All c.in-Item.is c.refs_of-second.ensures c.in-Some.is)
    (adds_both c.step.ensures.stands c.step_second.ensures.stands)

pub returns-in_default-clause-stands : goal.returns-in_default-clause-stands
returns-in_default-clause-stands c =
    rw (one_event All c.in-Item.is c.refs_of-second.ensures c.in_default.is) c.step.ensures.stands

pub returns-in-Flush-clause-stands : goal.returns-in-Flush-clause-stands
returns-in-Flush-clause-stands c =
    rw c.in-Flush.is (λ plan seed events good stands. c.flush.ensures.stands plan seed
    events stands)
