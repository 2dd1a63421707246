-- The name of a file, as a message shows it.
use Rattle.std.specs.Prelude.{ℕ, ◌/◌, ◌%◌, List, [], ◌∷◌, if◌then◌else◌, false}
use Rattle.std.specs.Prelude.{encode_utf8}
use Rattle.std.specs.Char.{is_control}
use Rattle.std.specs.Fmt.{digit_glyph}

-- a letter of a name: of a control character `\x` and its number, in two hexadecimal digits
abbrev pub shown_letter : ℕ → List ℕ
shown_letter letter =
    if is_control letter
    then 92 ∷ 120 ∷ digit_glyph false (letter / 16) ∷ digit_glyph false (letter % 16) ∷ []
    else encode_utf8 letter
