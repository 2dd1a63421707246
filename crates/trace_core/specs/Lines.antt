-- The lines of a text, as in any Unix text.
use Rattle.std.specs.Prelude.{◌≡◌, ⊤, ℕ, suc, ◌==◌, Bool, false, List, [], ◌∷◌, if◌then◌else◌}
use Rattle.std.specs.List.{onto_first}

-- an LF
abbrev pub is_line_feed : ℕ → Bool
is_line_feed c = c == 10

-- the pieces between LFs; an empty last piece is no line
abbrev pub lines : List ℕ → List (List ℕ)
lines [] = []
lines (c ∷ text) = if is_line_feed c then [] ∷ lines text else onto_first c (lines text)

-- no byte is an LF
abbrev pub HoldsNoFeed : List ℕ → Type 0
HoldsNoFeed [] = ⊤
HoldsNoFeed (c ∷ cs) = (is_line_feed c ≡ false) × HoldsNoFeed cs

-- how many lines end with an LF
abbrev pub line_feeds : List ℕ → ℕ
line_feeds [] = 0
line_feeds (c ∷ text) = if is_line_feed c then suc (line_feeds text) else line_feeds text

-- some pieces without their last one if that is empty
abbrev pub without_empty_last : List (List ℕ) → List (List ℕ)
without_empty_last [] = []
without_empty_last ([] ∷ []) = []
without_empty_last ((c ∷ piece) ∷ []) = (c ∷ piece) ∷ []
without_empty_last (piece ∷ next ∷ more) = piece ∷ without_empty_last (next ∷ more)
