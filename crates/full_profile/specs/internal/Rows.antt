-- Lists in rows of one array, in the order of the sets.
use Rattle.std.specs.Prelude.{ℕ, ◌≡◌, ◌≤◌, ◌*◌, ◌^◌, if◌then◌else◌, List, ◌∷◌, length, take}
use Rattle.std.specs.Prelude.{slice_index}
use Rattle.full_profile.specs.declared.marked_lists.row.Shifted.{Shifted}
use Rattle.full_profile.specs.declared.marked_lists.row.Shifted.TheVariants.{Found, Out}
use Rattle.profile_core.specs.profile.RecencyList.{index_of, is_in}
use Rattle.profile_core.specs.internal.rows.Rows.{rows_by_set}
use Rattle.profile_core.specs.internal.rows.PlainRows.{plain_row}

-- the list of a set: what its row begins with
abbrev pub listed : ℕ → List ℕ → List ℕ → ℕ → List ℕ
listed depth numbers lens set = take (slice_index lens set) (plain_row depth numbers set)

-- the lists of all sets
abbrev pub all_listed : ℕ → List ℕ → List ℕ → List (List ℕ)
all_listed depth numbers lens = rows_by_set (length lens) (listed depth numbers lens)

-- the invariant of lists in rows: the first block of a row whose list is empty is 0
pub record AreRows (depth : ℕ) (blocks cleans lens : List ℕ) : Type 0 where
  pub some : 1 ≤ depth
  pub small : length lens * depth ≤ 2 ^ 22
  pub blocks_len : length blocks ≡ length lens * depth
  pub cleans_len : length cleans ≡ length lens * depth
  pub short : (set : ℕ) → slice_index lens set ≤ depth
  pub blank : (set : ℕ) → slice_index lens set ≡ 0 → slice_index blocks (set * depth) ≡ 0

-- How far a list is shifted to put `first` in front, with a clean depth, where a block is looked
-- for: up to that block, or to the end, where the last one falls out. In an empty list that is
-- `first` itself.
abbrev pub marked_shift_of : ℕ → ℕ → List ℕ → ℕ → List ℕ → Shifted
marked_shift_of block first blocks clean cleans =
    if is_in block blocks
    then Found (index_of block blocks) (slice_index cleans (index_of block blocks))
    else Out (slice_index (first ∷ blocks) (length blocks))
    (slice_index (clean ∷ cleans) (length blocks))
