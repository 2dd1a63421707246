-- The rows so far were written, and the sizes of the others fit.
use Rattle.std.specs.List.{AllByRecursion}
use Rattle.sweep_core.specs.Space.{HasSize}
use Rattle.sweep_core.specs.SweepText.{csv_rows}
use Rattle.sweep_core.proofs.Writing.{WroteBefore}
use Rattle.sweep_core.proofs.table.write_pair.Given as goal

abbrev pub invariant-loop-config : goal.invariant-loop-config
invariant-loop-config g l =
    AllByRecursion (λ row. HasSize row.0) l.config-iterator
    × WroteBefore csv_rows l.fn.rows (g.K.Sink.view l.initial.sink) (g.K.Sink.view l.sink)
    l.config-iterator
