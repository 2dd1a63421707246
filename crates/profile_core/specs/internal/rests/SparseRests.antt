-- Rests in one array: a set has its own from its first write on.
use Rattle.std.specs.Prelude.{ℕ, ◌≡◌, ◌≤◌, ◌+◌, ◌*◌, ◌^◌, List, length, take, drop, slice_index}
use Rattle.profile_core.specs.internal.rests.Places.{taken_count, ArePlaces}

-- the rest of `stride` numbers of set k, whose index in the array `places` has
abbrev pub sparse_rest : ℕ → List ℕ → List ℕ → ℕ → List ℕ
sparse_rest stride places numbers k = take stride (drop (slice_index places k * stride) numbers)

-- the first rest of the array is that of all sets that have none of their own; those of the others
-- follow, and there is room for rests of all sets
pub record IsSparse (stride : ℕ) (places numbers : List ℕ) (room : ℕ) : Type 0 where
  pub some : 1 ≤ stride
  pub small : (length places + 1) * stride ≤ 2 ^ 26
  pub numbers_len : length numbers ≡ (taken_count places + 1) * stride
  pub fits : (length places + 1) * stride ≤ room
  pub own : ArePlaces places
