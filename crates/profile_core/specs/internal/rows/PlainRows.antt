-- Rows of blocks in one array, in the order of the sets.
use Rattle.std.specs.Prelude.{ℕ, ◌≡◌, ◌≤◌, ◌*◌, ◌^◌, List, length, take, drop}

-- the row of set k
abbrev pub plain_row : ℕ → List ℕ → ℕ → List ℕ
plain_row stride numbers k = take stride (drop (k * stride) numbers)

-- the array has exactly the rows of this many sets
pub record IsPlain (stride sets : ℕ) (numbers : List ℕ) : Type 0 where
  pub numbers_len : length numbers ≡ sets * stride
  pub small : sets * stride ≤ 2 ^ 22
