use Rattle.trace_core.proofs.Judging.{entries-before_cut}
use Rattle.trace_core.proofs.laws.entries_come_before_the_cut.Goals as goal

pub returns : goal.returns
returns c = λ format limit text. entries-before_cut format limit text
