-- The profiles made so far are those of the rows before those that are left, which become fewer.
use Rattle.std.proofs.Common.{length}
use Rattle.sweep_core.specs.internal.Walk.{rows_left}
use Rattle.sweep_core.proofs.Making.{Making}
use Rattle.sweep_core.proofs.profiles.make_profiles.Given as goal

abbrev pub invariant-loop-rows : goal.invariant-loop-rows
invariant-loop-rows l = Making l.request l.made.items (rows_left l.request l.pair l.most)

abbrev pub decreases-loop-rows : goal.decreases-loop-rows
decreases-loop-rows l = length (rows_left l.request l.pair l.most)
