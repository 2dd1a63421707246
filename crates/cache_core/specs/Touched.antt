-- The sets that got a block since the last flush, and the counts that they stand for.
use Rattle.std.specs.Prelude.{ℕ, ◌≡◌, ◌<◌, ◌&&◌, not, false, List, [], ◌∷◌, ◌++◌, Option, Some}
use Rattle.std.specs.Prelude.{None, if◌then◌else◌, ◌==◌, nat_lt, length, All, IfSome}
use Rattle.std.specs.Prelude.{slice_index_or}
use Rattle.std.specs.List.{list_any}

-- the sets that are listed, or `None` once there were more of them than its capacity
pub record TouchedValue : Type 0 where
  pub capacity : ℕ
  pub sets : Option (List ℕ)

-- a list with one set more, if it is not full yet
abbrev pub with_set : ℕ → ℕ → Option (List ℕ) → Option (List ℕ)
with_set capacity set None = None
with_set capacity set (Some sets) = if nat_lt (length sets) capacity then Some (sets ++
    set ∷ []) else None

-- a set whose count was 0 and is not any more joins the list
abbrev pub after_count : ℕ → ℕ → ℕ → TouchedValue → TouchedValue
after_count set before after touched =
    if (before == 0) && not (after == 0) then record touched {
      sets =
          with_set touched.capacity set touched.sets;
    } else touched

-- each listed set has a count, and a set that is not listed has the count 0
pub record ListsFilled (sets counts : List ℕ) : Type 0 where
  pub within : All (λ set. set < length counts) sets
  pub others : (set : ℕ) → list_any (λ other. other == set) sets ≡ false →
      slice_index_or counts set 0 ≡ 0

-- a list that stands for counts has each set whose count is not 0
abbrev pub Covers : TouchedValue → List ℕ → Type 0
Covers touched counts = IfSome touched.sets (λ sets. ListsFilled sets counts)

-- a list of no set
abbrev pub no_sets : TouchedValue → TouchedValue
no_sets touched = record touched { sets = Some [] }
