-- Places that sets take one after the other, when they need them.
use Rattle.std.specs.Prelude.{ℕ, ◌≡◌, ◌≤◌, ◌<◌, ◌==◌, not, List, count_by, slice_index}

-- how many sets have a place of their own: the others have place 0
abbrev pub taken_count : List ℕ → ℕ
taken_count places = count_by (λ p. not (p == 0)) places

-- each set has place 0 or one of its own, and no place was left out
pub record ArePlaces (places : List ℕ) : Type 0 where
  pub within : (k : ℕ) → slice_index places k ≤ taken_count places
  pub apart : (i k : ℕ) → 0 < slice_index places i →
      slice_index places i ≡ slice_index places k → i ≡ k
