-- A reader at its end has read all entries, and there is no fault.
use Rattle.trace_core.proofs.Runs.{Reached-end, Reached-left}
use Rattle.trace_core.proofs.laws.ended_reader_has_read_all.Goals as goal

pub returns-clause-reading : goal.returns-clause-reading
returns-clause-reading c = λ format limit text start now xs p reported run ended. Reached-end format
    limit text start now xs p reported run ended

pub returns-clause-left : goal.returns-clause-left
returns-clause-left c = λ format limit text start now xs p reported run ended. Reached-left format
    limit text start now xs p reported run ended
