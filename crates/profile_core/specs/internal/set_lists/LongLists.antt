-- The lists of all sets, each in two parts: the first blocks, and those behind them.
use Rattle.std.specs.Prelude.{ℕ, if◌then◌else◌, ◌≡◌, ◌≢◌, ◌≤◌, ◌-◌, nat_lt, slice_index, ◌<◌, ◌+◌}
use Rattle.std.specs.Prelude.{◌*◌, ◌^◌, List, [], ◌∷◌, ◌++◌, length, slice_index_or}
use Rattle.deep_list.specs.Deep.{Deep, IsOnce}
use Rattle.profile_core.specs.declared.set_lists.long_lists.InRow.{InRow}
use Rattle.profile_core.specs.declared.set_lists.long_lists.InRow.TheVariants.{Settled, Full}
use Rattle.profile_core.specs.profile.RecencyList.{is_in}
use Rattle.profile_core.specs.internal.set_lists.Moves.{standing_of}
use Rattle.profile_core.specs.internal.set_lists.Lists.{Lists}

-- each list with the blocks behind it
abbrev pub whole_lists : {V : Type 0} → List (List ℕ) → List (Deep V) → List (List ℕ)
whole_lists [] far = []
whole_lists (xs ∷ near) [] = xs ∷ near
whole_lists (xs ∷ near) (d ∷ far) = (xs ++ d.blocks) ∷ whole_lists near far

-- no list
abbrev pub nothing : {V : Type 0} → Deep V
nothing = record { cap = 0; blocks = []; values = [] }

-- the blocks behind the list of set k
abbrev pub rest_of : {V : Type 0} → List (Deep V) → ℕ → List ℕ
rest_of far k = (slice_index_or far k nothing).blocks

-- the same list without its blocks
abbrev pub empty_deep : {V : Type 0} → Deep V → Deep V
empty_deep d = record d { blocks = []; values = [] }

-- the result of bringing block x to the front of a row of at most w blocks
abbrev pub in_row_of : ℕ → ℕ → List ℕ → InRow
in_row_of w x xs =
    if is_in x xs then Settled (standing_of x xs)
    else (if nat_lt (length xs) w then Settled (standing_of x xs) else Full (length xs)
    (slice_index xs (w - 1)))

-- the invariant: behind each row is a list, which has blocks only if the row is full
pub record AreSplit {V : Type 0} (near : Lists) (beyond : ℕ) (far : List (Deep V)) : Type 0 where
  pub far_len : length far ≡ length near.lists
  pub two : 2 ≤ near.depth
  pub small : length near.lists * (near.depth + beyond) ≤ 2 ^ 22
  pub caps : (k : ℕ) → k < length far → (slice_index_or far k nothing).cap ≡ beyond
  pub short : (k : ℕ) → length (slice_index_or near.lists k []) ≤ near.depth
  pub rest_short : (k : ℕ) → length (rest_of far k) ≤ beyond
  pub full : (k : ℕ) → rest_of far k ≢ [] → length (slice_index_or near.lists k []) ≡ near.depth
  pub once : (k : ℕ) → IsOnce (slice_index_or near.lists k [] ++ rest_of far k)
