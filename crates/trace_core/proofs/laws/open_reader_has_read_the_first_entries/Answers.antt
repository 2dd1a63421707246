-- An open reader has read the first entries of the text.
use Rattle.trace_core.proofs.Runs.{Reached-open}
use Rattle.trace_core.proofs.laws.open_reader_has_read_the_first_entries.Goals as goal

pub returns : goal.returns
returns c = λ format limit text start now xs p reported run opened. Reached-open format limit text
    start now xs p reported run opened
