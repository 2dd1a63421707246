-- A block in a recency list, which has the most recent block first (an LRU stack of Mattson 1970).
use Rattle.std.specs.Prelude.{ℕ, ◌==◌, Bool, false, List, [], ◌∷◌}
use Rattle.std.specs.List.{list_any, position_or_len, remove}

-- the index of x in a list, which is its stack distance, or the list's length
abbrev pub index_of : ℕ → List ℕ → ℕ
index_of x xs = position_or_len (λ y. y == x) xs

-- whether x stands in a list
abbrev pub is_in : ℕ → List ℕ → Bool
is_in x xs = list_any (λ y. y == x) xs

-- whether x is the front of a list
abbrev pub is_front : ℕ → List ℕ → Bool
is_front x [] = false
is_front x (y ∷ ys) = y == x

-- the list with x in front, and no longer where it was
abbrev pub move_to_front : ℕ → List ℕ → List ℕ
move_to_front x xs = x ∷ remove xs (index_of x xs)
