-- The entries of a reading are those of the lines before its fault.
use Rattle.std.proofs.Common.{None}
use Rattle.trace_core.specs.Lines.{lines}
use Rattle.trace_core.proofs.Judging.{entries-before}
use Rattle.trace_core.proofs.laws.entries_come_before_the_fault.Goals as goal

pub returns : goal.returns
returns c = λ format limit text. entries-before format limit 0 (lines text) None
