-- The profiles made so far are those of the rows before those that are left, which become fewer.
use Rattle.std.proofs.Common.{length, map, []}
use Rattle.std.specs.List.{AllByRecursion}
use Rattle.sweep_core.specs.SweepText.{configs_of}
use Rattle.sweep_core.specs.internal.Walk.{rows_left}
use Rattle.sweep_core.specs.internal.Full.{IsFedFor}
use Rattle.sweep_core.specs.internal.FullRuns.{plain_pair}
use Rattle.sweep_core.proofs.Making.{Making}
use Rattle.sweep_core.proofs.full.profiles.make_full_profiles.Given as goal

abbrev pub invariant-loop-rows : goal.invariant-loop-rows
invariant-loop-rows l =
    Making l.request (map plain_pair l.made.items) (rows_left l.request l.pair l.most)
    × AllByRecursion (IsFedFor (configs_of l.request) []) l.made.items

abbrev pub decreases-loop-rows : goal.decreases-loop-rows
decreases-loop-rows l = length (rows_left l.request l.pair l.most)
