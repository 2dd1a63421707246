-- A system is stepped through the events of an entry, and the lines of their arrivals are made.
use Rattle.std.proofs.Common.{ap}
use Rattle.trace_core.specs.declared.events.Kind.TheVariants.{All}
use Rattle.trace_core.specs.Events.{events_of}
use Rattle.trace_core.proofs.EntryEvents.{one_event, two_events}
use Rattle.commands.proofs.LogLemmas.{has, logged_both, logged_one}
use Rattle.commands.proofs.log.step.Goals as goal

pub returns-in-Some : goal.returns-in-Some
returns-in-Some c = λ plan seed events good stands.
    let first = c.step_one.ensures in
    let second = c.step_one-in-Some.ensures in
    logged_both has plan seed events good stands c.clear.ensures
    (two_events All c.in-Item.is c.refs_of-second.ensures c.in-Some.is) first.stands second.stands
    (first.seen plan seed events good stands) (λ middle. second.seen plan seed _ good middle)

pub returns-in_default : goal.returns-in_default
returns-in_default c = λ plan seed events good stands.
    let one = c.step_one.ensures in
    logged_one has plan seed events good stands c.clear.ensures
    (one_event All c.in-Item.is c.refs_of-second.ensures c.in_default.is)
    (one.stands plan seed events good stands) (one.seen plan seed events good stands)

pub returns-in-Flush : goal.returns-in-Flush
returns-in-Flush c = λ plan seed events good stands.
    logged_one has plan seed events good stands c.clear.ensures (ap (events_of All) c.in-Flush.is)
    (c.flush_observed.ensures.stands plan seed events stands)
    (c.flush_observed.ensures.seen plan seed events stands)
