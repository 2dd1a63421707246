-- The least traffic of the caches that fit into a size.
use Rattle.std.specs.Prelude.{◌+◌, ◌*◌, ◌≤◌, ◌<◌, ℕ, List, Option, MatchOption, Contains}
use Rattle.std.specs.List.{AllByRecursion}
use Rattle.full_profile.specs.declared.counts.FullCounts.{FullCounts}
use Rattle.sweep_core.specs.Space.{bytes_of}
use Rattle.sweep_core.specs.declared.space.Config.{Config}

-- the bytes that a cache moves: a block for each miss and for each copyback
abbrev pub traffic_of : Config × FullCounts → ℕ
traffic_of row = (row.1.misses + row.1.copybacks) * row.0.bsize

-- one of some rows fits into a size, and each that fits moves at least as many bytes
pub record HasLeastTraffic (size : ℕ) (rows : List (Config × FullCounts))
    (row : Config × FullCounts) : Type 0 where
  pub among : Contains rows row
  pub fits : bytes_of row.0 ≤ size
  pub least : AllByRecursion (λ r. bytes_of r.0 ≤ size → traffic_of row ≤ traffic_of r) rows

-- the one that moves the fewest bytes, or none fits
abbrev pub HasLeastTrafficIfAny : ℕ → List (Config × FullCounts) → Option (Config × FullCounts) →
    Type 0
HasLeastTrafficIfAny size rows found =
    MatchOption found (AllByRecursion (λ row. size < bytes_of row.0) rows)
    (HasLeastTraffic size rows)
