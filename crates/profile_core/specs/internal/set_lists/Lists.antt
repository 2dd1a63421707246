-- The recency lists of all sets: the front of each, and behind it the set's row of blocks.
use Rattle.std.specs.Prelude.{ℕ, ◌≡◌, ◌≤◌, ◌<◌, ◌+◌, ◌*◌, ◌^◌, List, [], ◌∷◌, length, take}
use Rattle.std.specs.Prelude.{slice_index_or, slice_set}
use Rattle.cache_core.specs.Touched.{TouchedValue, Covers}
use Rattle.profile_core.specs.profile.RecencyList.{move_to_front}
use Rattle.profile_core.specs.internal.rows.Rows.{RowsValue, AreLong}

-- a list for each set, of at most `depth` blocks each
pub record Lists : Type 0 where
  pub depth : ℕ
  pub lists : List (List ℕ)

-- the lists after block x was brought to the front of set k's list
abbrev pub lists_after_bring : Lists → ℕ → ℕ → Lists
lists_after_bring v k x = record v {
  lists =
      slice_set v.lists k (take v.depth (move_to_front x (slice_index_or v.lists k [])));
}

-- `rest` is a row of limited length, with room for all but the front of a list of `len` blocks
pub record IsRow (rest : List ℕ) (len : ℕ) : Type 0 where
  pub small : length rest ≤ 2 ^ 22
  pub fits : len ≤ length rest + 1

-- a front and a row that hold a list after block x was brought to its front
pub record IsBroughtInRow (x : ℕ) (list : List ℕ) (front : ℕ) (rest : List ℕ)
    (len : ℕ) : Type 0 where
  pub some : 0 < len
  pub row : IsRow rest len
  pub list_is : take len (front ∷ rest) ≡ take (length rest + 1) (move_to_front x list)

-- the list of each set: its front and then its row, cut to the list's length
unfoldable pub lists_in : List ℕ → List (List ℕ) → List ℕ → List (List ℕ)
lists_in [] rows lens = []
lists_in (front ∷ fronts) [] lens = []
lists_in (front ∷ fronts) (row ∷ rows) [] = []
lists_in (front ∷ fronts) (row ∷ rows) (len ∷ lens) =
    take len (front ∷ row) ∷ lists_in fronts rows lens

-- the invariant: each set has a row with room for its list, the front of an empty list is 0, and
-- the sets that have a block are listed
pub record IsListed (fronts : List ℕ) (rows : RowsValue) (lens : List ℕ)
    (touched : TouchedValue) : Type 0 where
  pub fronts_len : length fronts ≡ length lens
  pub rows_len : length lens ≤ length rows.rows
  pub long : AreLong rows
  pub small : length lens * (rows.stride + 1) ≤ 2 ^ 22
  pub short : (k : ℕ) → slice_index_or lens k 0 ≤ rows.stride + 1
  pub blank : (k : ℕ) → slice_index_or lens k 0 ≡ 0 → slice_index_or fronts k 0 ≡ 0
  pub covers : Covers touched lens
