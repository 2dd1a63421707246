-- The last digits of a number, as many as are asked for, the highest first.
use Rattle.std.specs.Prelude.{ℕ, zero, suc, ◌/◌, ◌%◌, ◌^◌, false, List, [], ◌∷◌, map}
use Rattle.std.specs.Fmt.{digit_glyph}

-- the values of k hexadecimal digits
abbrev pub nibbles : ℕ → ℕ → List ℕ
nibbles zero n = []
nibbles (suc k) n = n / 16 ^ k % 16 ∷ nibbles k n

-- k hexadecimal digits in lower case
abbrev pub hexadecimal_digits : ℕ → ℕ → List ℕ
hexadecimal_digits k n = map (digit_glyph false) (nibbles k n)
