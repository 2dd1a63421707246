use Rattle.std.proofs.Common.{◌≡◌, ◌++◌, List}
use Rattle.std.specs.Prelude.{IfSome}
use Rattle.std.specs.List.{AllByRecursion}
use Rattle.cache_core.specs.declared.outcome.Counts.{Counts}
use Rattle.sweep_core.specs.Space.{HasSize}
use Rattle.sweep_core.specs.declared.space.Config.{Config}
use Rattle.callers.specs.Smallest.{IsSmallestIfAny}
use Rattle.callers.proofs.smallest.smallest_of.Given as goal

-- the best of the rows so far
abbrev pub invariant-loop-config : goal.invariant-loop-config
invariant-loop-config l =
    (seen : List (Config × Counts)) × (l.fn.rows ≡ seen ++ l.config-iterator) ×
    IsSmallestIfAny l.most seen l.best
    × IfSome l.best HasSize × AllByRecursion (λ row. HasSize row.0) l.config-iterator
