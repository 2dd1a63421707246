-- The smallest cache that misses at most so often.
use Rattle.std.specs.Prelude.{◌≤◌, ◌<◌, ℕ, List, Option, MatchOption, Contains}
use Rattle.std.specs.List.{AllByRecursion}
use Rattle.cache_core.specs.declared.outcome.Counts.{Counts}
use Rattle.sweep_core.specs.Space.{bytes_of}
use Rattle.sweep_core.specs.declared.space.Config.{Config}

-- a cache of some rows misses at most so often, and each that does is at least as large
pub record IsSmallest (most : ℕ) (rows : List (Config × Counts)) (c : Config) : Type 0 where
  pub counts : Counts
  pub among : Contains rows (c, counts)
  pub few : counts.misses ≤ most
  pub least : AllByRecursion (λ row. row.1.misses ≤ most → bytes_of c ≤ bytes_of row.0) rows

-- the smallest one, or none misses at most so often
abbrev pub IsSmallestIfAny : ℕ → List (Config × Counts) → Option Config → Type 0
IsSmallestIfAny most rows found =
    MatchOption found (AllByRecursion (λ row. most < row.1.misses) rows) (IsSmallest most rows)
