use Rattle.std.proofs.Common.{◌-◌, length}
use Rattle.profile_core.proofs.Shifting.{IsPassed}
use Rattle.profile_core.proofs.rows.row.shift_past.Given as goal

abbrev pub invariant-loop-compared : goal.invariant-loop-compared
invariant-loop-compared l = IsPassed l.fn.block l.fn.first l.compared l.carried l.fn.list l.list

abbrev pub decreases-loop-compared : goal.decreases-loop-compared
decreases-loop-compared l = length l.initial.list - l.compared
