-- The text of the rows, each configuration with its counts, is that of the configurations.
use Rattle.std.proofs.Common.{◌++◌, ap, sym}
use Rattle.trace_core.specs.Reading.{events}
use Rattle.sweep_core.specs.SweepText.{header_of, rows_of, sweep_text}
use Rattle.sweep_core.proofs.Writing.{csv-counted}
use Rattle.sweep_core.proofs.laws.table_is_text_of_rows.Goals as goal

pub returns : goal.returns
unfolding sweep_text
returns c = λ r text. ap (λ l. header_of r.after ++ l)
    (sym (csv-counted (events r.format r.kind text) (rows_of r)))
