-- Where a block is in a recency list, as the code reports it.
use Rattle.std.specs.Prelude.{ℕ, ◌+◌, ◌-◌, Bool, List, length, drop, if◌then◌else◌, slice_index}
use Rattle.profile_core.specs.declared.set_lists.recency.Standing.{Standing}
use Rattle.profile_core.specs.declared.set_lists.recency.Standing.TheVariants.{Behind, New}
use Rattle.profile_core.specs.declared.rows.row.Shifted.{Shifted}
use Rattle.profile_core.specs.declared.rows.row.Shifted.TheVariants.{Found, Out}
use Rattle.profile_core.specs.profile.RecencyList.{index_of, is_in, is_front}

-- whether x is the second of a list
abbrev pub is_second : ℕ → List ℕ → Bool
is_second x xs = is_front x (drop 1 xs)

-- where a reference to x finds its block, which is not the front
abbrev pub standing_of : ℕ → List ℕ → Standing
standing_of x xs = if is_in x xs then Behind (index_of x xs) else New (length xs)

-- where a reference to x finds its block, if it is not among the first n blocks, and ys are the
-- others
abbrev pub rest_standing_of : ℕ → ℕ → List ℕ → Standing
rest_standing_of n x ys = if is_in x ys then Behind (n + index_of x ys) else New (n + length ys)

-- how far a list is shifted to bring x to its front: up to x, or to the end, where the last block
-- falls out
abbrev pub shifted_of : ℕ → List ℕ → Shifted
shifted_of x xs = if is_in x xs then Found (index_of x xs) else Out (slice_index xs (length xs - 1))
