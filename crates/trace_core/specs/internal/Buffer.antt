-- The bytes of a buffer.
use Rattle.std.specs.Prelude.{ℕ, ◌-◌, ◌≤◌, List, length}

-- Where so many lines may follow and these bytes wait, each of so many bytes may be the first of a
-- line and 63 more bytes wait behind it: there are no more of them than such lines.
abbrev pub IsPlainRoom : ℕ → List ℕ → ℕ → Type 0
IsPlainRoom left waiting room = (room ≤ left) × (room ≤ length waiting - 63)
