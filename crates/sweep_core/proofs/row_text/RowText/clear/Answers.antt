-- Behind the last byte there is nothing.
use Rattle.std.proofs.Common.{arith}
use Rattle.std.proofs.lemmas.List.{drop_all}
use Rattle.sweep_core.specs.declared.row_text.TheConstants.{CAPACITY}
use Rattle.sweep_core.proofs.row_text.RowText.clear.Goals as goal

pub returns : goal.returns
returns c = drop_all CAPACITY c.self.inside.bytes (omega (arith, c.self.told))
