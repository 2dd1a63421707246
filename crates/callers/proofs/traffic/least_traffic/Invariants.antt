use Rattle.std.proofs.Common.{◌≡◌, ◌≤◌, ◌++◌, List}
use Rattle.std.specs.Prelude.{IfSome}
use Rattle.std.specs.List.{AllByRecursion}
use Rattle.full_profile.specs.declared.counts.FullCounts.{FullCounts}
use Rattle.sweep_core.specs.Space.{HasSize, largest_block}
use Rattle.sweep_core.specs.declared.space.Config.{Config}
use Rattle.callers.specs.Traffic.{HasLeastTrafficIfAny}
use Rattle.callers.proofs.traffic.least_traffic.Given as goal

-- the best of the rows so far
abbrev pub invariant-loop-row : goal.invariant-loop-row
invariant-loop-row l =
    (seen : List (Config × FullCounts)) × (l.fn.counts.rows ≡ seen ++ l.row-iterator) ×
    HasLeastTrafficIfAny l.size seen l.best
    × IfSome l.best (λ best. best.0.bsize ≤ largest_block)
    × AllByRecursion (λ row. HasSize row.0) l.row-iterator
    × AllByRecursion (λ row. row.0.bsize ≤ largest_block) l.row-iterator
