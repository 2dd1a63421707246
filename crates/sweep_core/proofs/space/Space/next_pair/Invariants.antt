-- No pair so far has a row, and there are 441.
use Rattle.std.proofs.Common.{◌≡◌, ◌-◌}
use Rattle.sweep_core.specs.internal.Walk.{rows_from}
use Rattle.sweep_core.proofs.space.Space.next_pair.Given as goal

abbrev pub invariant-loop-pair : goal.invariant-loop-pair
invariant-loop-pair l = rows_from l.self l.after l.fn.pair ≡ rows_from l.self l.after l.pair

abbrev pub decreases-loop-pair : goal.decreases-loop-pair
decreases-loop-pair l = 441 - l.pair
