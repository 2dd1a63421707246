-- A failed reader met the first fault of the text.
use Rattle.std.proofs.Common.{ap, sym, ◌∙◌}
use Rattle.trace_core.specs.Reader.{device_failed}
use Rattle.trace_core.proofs.Runs.{Reached-fault}
use Rattle.trace_core.proofs.laws.failed_reader_met_the_first_fault.Goals as goal

pub returns : goal.returns
returns c = λ format limit text start now xs p x reported run failed own.
    Reached-fault format limit text start now xs p x reported run failed
    (ap device_failed (sym failed) ∙ own)
