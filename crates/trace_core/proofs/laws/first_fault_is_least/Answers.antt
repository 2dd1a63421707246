-- The fault of a text is that of its first line at fault.
use Rattle.std.proofs.Common.{None}
use Rattle.trace_core.specs.Lines.{lines}
use Rattle.trace_core.specs.Reading.{reading_end}
use Rattle.trace_core.proofs.Judging.{fault-first, first-fault, faultless-all, all-faultless}
use Rattle.trace_core.proofs.laws.first_fault_is_least.Goals as goal

pub returns-clause-some : goal.returns-clause-some
returns-clause-some c = λ format limit text x. (
  fault-first format limit 0 (lines text) x,
  first-fault format limit 0 (lines text) (reading_end None) x,
)

pub returns-clause-none : goal.returns-clause-none
returns-clause-none c = λ format limit text. (
  faultless-all format limit 0 (lines text),
  all-faultless format limit 0 (lines text) (reading_end None),
)
