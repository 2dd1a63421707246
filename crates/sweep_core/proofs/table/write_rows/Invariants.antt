-- The rows of the pairs so far were written, and the sizes of the others fit.
use Rattle.std.specs.Prelude.{flat_map}
use Rattle.std.specs.List.{AllByRecursion}
use Rattle.sweep_core.specs.Space.{HasSize}
use Rattle.sweep_core.specs.SweepText.{csv_rows}
use Rattle.sweep_core.proofs.Writing.{WroteBefore}
use Rattle.sweep_core.proofs.table.write_rows.Given as goal

abbrev pub invariant-loop-rows : goal.invariant-loop-rows
invariant-loop-rows g l =
    AllByRecursion (AllByRecursion (λ row. HasSize row.0)) l.rows-iterator
    × WroteBefore csv_rows (flat_map (λ rows. rows) l.fn.pairs) (g.K.Sink.view l.initial.sink)
    (g.K.Sink.view l.sink) (flat_map (λ rows. rows) l.rows-iterator)
