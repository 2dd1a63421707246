-- Delivered bytes are judged before a failure of the device.
use Rattle.trace_core.proofs.Judging.{cut-first, cut-last}
use Rattle.trace_core.proofs.laws.failure_comes_after_what_was_delivered.Goals as goal

pub returns-clause-line : goal.returns-clause-line
returns-clause-line c = λ format limit text n x. cut-first format limit text x n

pub returns-clause-piece : goal.returns-clause-piece
returns-clause-piece c = λ format limit text. cut-last format limit text
