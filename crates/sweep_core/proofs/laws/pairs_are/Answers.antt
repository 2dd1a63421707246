-- The pairs of rows differ, and each is that of a row.
use Rattle.sweep_core.proofs.WorkLaws.{pairs-distinct, pairs-members}
use Rattle.sweep_core.proofs.laws.pairs_are.Goals as goal

pub returns-clause-distinct : goal.returns-clause-distinct
returns-clause-distinct c = pairs-distinct

pub returns-clause-members : goal.returns-clause-members
returns-clause-members c = pairs-members
