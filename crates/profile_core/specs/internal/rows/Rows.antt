-- The rows of blocks of all sets, in whatever way they are stored.
use Rattle.std.specs.Prelude.{ℕ, ◌≡◌, ◌<◌, List, [], ◌∷◌, length, take, replicate, slice_index_or}
use Rattle.std.specs.Prelude.{slice_set, map}
use Rattle.std.specs.List.{range_with_len}

-- a row of `stride` numbers for each set
pub record RowsValue : Type 0 where
  pub stride : ℕ
  pub rows : List (List ℕ)

-- a row for each of m sets
unfoldable pub rows_by_set : ℕ → (ℕ → List ℕ) → List (List ℕ)
rows_by_set m row = map row (range_with_len 0 m)

-- rows of zeros for a number of sets
abbrev pub blank_rows : ℕ → ℕ → RowsValue
blank_rows sets stride = record {
  stride = stride;
  rows = replicate sets (replicate stride 0);
}

-- the row of set k
abbrev pub row_for : RowsValue → ℕ → List ℕ
row_for rows k = slice_index_or rows.rows k []

-- each row has `stride` numbers
abbrev pub AreLong : RowsValue → Type 0
AreLong rows = (k : ℕ) → k < length rows.rows → length (row_for rows k) ≡ rows.stride

-- the rows with another one for set k
abbrev pub with_row : RowsValue → ℕ → List ℕ → RowsValue
with_row rows k row = record rows { rows = slice_set rows.rows k row }

-- the list of set k: its front and then its row, cut to a number of blocks
abbrev pub list_in_row : RowsValue → ℕ → ℕ → ℕ → List ℕ
list_in_row rows k front len = take len (front ∷ row_for rows k)
