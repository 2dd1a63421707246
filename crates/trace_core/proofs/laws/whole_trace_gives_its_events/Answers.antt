-- A reader at its end has read all entries of the text, and so all its events.
use Rattle.std.proofs.Common.{ap}
use Rattle.std.specs.List.{flat_map}
use Rattle.trace_core.specs.Events.{events_of}
use Rattle.trace_core.proofs.Entries.{entries-reading}
use Rattle.trace_core.proofs.Runs.{Reached-end}
use Rattle.trace_core.proofs.laws.whole_trace_gives_its_events.Goals as goal

pub returns-clause-faultless : goal.returns-clause-faultless
returns-clause-faultless c = λ format limit text start now given reader known reached ended.
    ap (λ r. r.fault) (Reached-end format limit text start now given reader known reached ended)

pub returns-clause-entries : goal.returns-clause-entries
returns-clause-entries c = λ format limit text start now given reader known reached ended.
    entries-reading format limit text given (Reached-end format limit text start now given reader
    known reached ended)

pub returns-clause-events : goal.returns-clause-events
returns-clause-events c = λ format limit kind text start now given reader known reached ended.
    ap (flat_map (events_of kind))
    (entries-reading format limit text given (Reached-end format limit text start now given reader
    known reached ended))
