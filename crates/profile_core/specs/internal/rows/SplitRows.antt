-- Rows of blocks, with their first numbers in one array, and the others in a rest for each set.
use Rattle.std.specs.Prelude.{ℕ, ◌≡◌, ◌≤◌, ◌^◌, List, [], ◌∷◌, length, slice_index, slice_index_or}
use Rattle.profile_core.specs.internal.rows.Rows.{RowsValue, AreLong, rows_by_set}

-- the row of set k
abbrev pub split_row : List ℕ → List (List ℕ) → ℕ → List ℕ
split_row firsts rests k = slice_index firsts k ∷ slice_index_or rests k []

-- the rows of all sets
abbrev pub split_rows : List ℕ → List (List ℕ) → List (List ℕ)
split_rows firsts rests = rows_by_set (length rests) (split_row firsts rests)

-- the invariant
pub record AreSplitRows (firsts : List ℕ) (rests : RowsValue) : Type 0 where
  pub all : length firsts ≡ length rests.rows
  pub long : AreLong rests
  pub some : 1 ≤ rests.stride
  pub small : rests.stride ≤ 2 ^ 21
