-- Lists in rows that sets take when they first have a block.
use Rattle.std.specs.Prelude.{ℕ, ◌≡◌, ◌≤◌, ◌<◌, ◌*◌, ◌^◌, List, length, take, slice_index}
use Rattle.profile_core.specs.internal.rows.Rows.{rows_by_set}
use Rattle.profile_core.specs.internal.rests.SparseRests.{sparse_rest, IsSparse}

-- the list of a set: what its row begins with
abbrev pub sparse_list : ℕ → List ℕ → List ℕ → List ℕ → ℕ → List ℕ
sparse_list depth places numbers lens set =
    take (slice_index lens set) (sparse_rest depth places numbers set)

-- the lists of all sets
abbrev pub all_sparse : ℕ → List ℕ → List ℕ → List ℕ → List (List ℕ)
all_sparse depth places numbers lens =
    rows_by_set (length lens) (sparse_list depth places numbers lens)

-- the invariant: a set with a block has a row of its own, and the first block of a row whose list
-- is empty is 0
pub record AreSparse (depth : ℕ) (places blocks cleans lens : List ℕ)
    (room clean_room : ℕ) : Type 0 where
  pub small : length lens * depth ≤ 2 ^ 22
  pub count : length places ≡ length lens
  pub blocks_sparse : IsSparse depth places blocks room
  pub cleans_sparse : IsSparse depth places cleans clean_room
  pub short : (set : ℕ) → slice_index lens set ≤ depth
  pub own : (set : ℕ) → 0 < slice_index lens set → 0 < slice_index places set
  pub blank : (set : ℕ) → slice_index lens set ≡ 0 →
      slice_index (sparse_rest depth places blocks set) 0 ≡ 0
