-- The table rises, has its members, and is the only such list.
use Rattle.sweep_core.proofs.Validity.{space-limited}
use Rattle.sweep_core.proofs.Members.{table-rises, table-has, table-only, table-unique}
use Rattle.sweep_core.proofs.laws.table_is.Goals as goal

pub returns-clause-rises : goal.returns-clause-rises
returns-clause-rises c = table-rises

pub returns-clause-members : goal.returns-clause-members
returns-clause-members c space after d sound =
    (table-only space after d, λ v. table-has space after d (space-limited space sound) v.0 v.1)

pub returns-clause-unique : goal.returns-clause-unique
returns-clause-unique c = table-unique
