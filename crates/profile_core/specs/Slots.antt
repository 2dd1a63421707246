-- Numbers in slots, which are not moved: only the order of the slots changes.
use Rattle.std.specs.Prelude.{ℕ, ◌≡◌, ◌<◌, ◌*◌, ◌/◌, ◌%◌, ◌^◌, List, take, map, length, slice_index}
use Rattle.std.specs.Prelude.{bit_xor, bit_and}

-- a byte for a number: of 32 bits of its product with an odd number the two high bytes, mixed
unfoldable pub mark_of : ℕ → ℕ
mark_of x = bit_xor (x % 2 ^ 32 * 668265263 % 2 ^ 32 / 2 ^ 24)
    (bit_and (x % 2 ^ 32 * 668265263 % 2 ^ 32 / 2 ^ 16) 255)

-- the numbers of the first n slots, in their order
abbrev pub ordered_numbers : List ℕ → List ℕ → ℕ → List ℕ
ordered_numbers order numbers n = map (λ s. slice_index numbers s) (take n order)

-- an order of sixteen slots, and the marks of their numbers in that order
pub record IsOrder (marks order numbers : List ℕ) : Type 0 where
  pub marks_len : length marks ≡ 16
  pub order_len : length order ≡ 16
  pub numbers_len : length numbers ≡ 16
  pub within : (k : ℕ) → slice_index order k < 16
  pub once : (i k : ℕ) → i < 16 → k < 16 → slice_index order i ≡ slice_index order k → i ≡ k
  pub marked : (k : ℕ) → k < 16 →
      slice_index marks k ≡ mark_of (slice_index numbers (slice_index order k))
