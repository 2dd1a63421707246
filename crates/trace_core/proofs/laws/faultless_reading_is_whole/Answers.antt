-- A reading has no fault where all its lines are right, and then has all their entries.
use Rattle.std.proofs.Common.{ap}
use Rattle.std.specs.List.{flat_map}
use Rattle.trace_core.specs.Events.{events_of}
use Rattle.trace_core.specs.Lines.{lines}
use Rattle.trace_core.proofs.Entries.{read-entries}
use Rattle.trace_core.proofs.laws.faultless_reading_is_whole.Goals as goal

pub returns-clause-entries : goal.returns-clause-entries
returns-clause-entries c = λ format limit text none. read-entries format limit 0 (lines text) none

pub returns-clause-events : goal.returns-clause-events
returns-clause-events c = λ format limit kind text none. ap (flat_map (events_of kind))
    (read-entries format limit 0 (lines text) none)
