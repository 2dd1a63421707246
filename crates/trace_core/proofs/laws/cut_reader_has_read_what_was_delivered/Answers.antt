-- A reader whose device failed has read what was delivered.
use Rattle.trace_core.proofs.Runs.{Reached-cut}
use Rattle.trace_core.proofs.laws.cut_reader_has_read_what_was_delivered.Goals as goal

pub returns : goal.returns
returns c = λ format limit text rest start now xs p line reported left run failed.
    let cut = Reached-cut format limit text rest start now xs p line reported left run failed in
    (run.bytes, cut.0, cut.1)
