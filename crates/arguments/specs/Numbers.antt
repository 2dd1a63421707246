-- How numbers are written in arguments.
use Rattle.std.specs.Prelude.{ℕ, Bool, List, [], ◌∷◌, ◌+◌, ◌-◌, ◌*◌, ◌^◌, ◌==◌, ◌&&◌, ◌||◌, Option}
use Rattle.std.specs.Prelude.{Some, None, length, take, slice_get, if◌then◌else◌, nat_lt}
use Rattle.std.specs.Prelude.{option_map, option_and_then}
use Rattle.std.specs.List.{list_all, list_any, before_first, after_first}
use Rattle.std.specs.Option.{option_map_or}
use Rattle.std.specs.Char.{is_ascii_digit}
use Rattle.clap.specs.Words.{Text}
use Rattle.sweep_core.specs.declared.space.Config.{Config}

-- the value of decimal digits: each times its power of ten
abbrev pub value_of_digits : List ℕ → ℕ
value_of_digits [] = 0
value_of_digits (d ∷ ds) = (d - 48) * 10 ^ length ds + value_of_digits ds

-- one decimal digit or more, and nothing else
abbrev pub is_numeral : Text → Bool
is_numeral text = nat_lt 0 (length text) && list_all is_ascii_digit text

-- n, if it is below 2^64
abbrev pub within_u64 : ℕ → Option ℕ
within_u64 n = if nat_lt n (2 ^ 64) then Some n else None

-- a numeral times the scale, if the product is below 2^64
abbrev pub scaled_numeral : Text → ℕ → Option ℕ
scaled_numeral text scale =
    if is_numeral text then within_u64 (value_of_digits text * scale) else None

-- a decimal number below 2^64: digits alone, zeros in front allowed
abbrev pub number_of : Text → Option ℕ
number_of text = if is_numeral text then within_u64 (value_of_digits text) else None

-- the factor of a letter after a number: k K m M g G
abbrev pub scale_of : ℕ → Option ℕ
scale_of c = if c == 107 || c == 75 then Some (2 ^ 10)
    else (if c == 109 || c == 77 then Some (2 ^ 20)
    else (if c == 103 || c == 71 then Some (2 ^ 30) else None))

-- a number, or one times 2^10, 2^20, 2^30 with k, m, g after it; below 2^64
abbrev pub scaled_of : Text → Option ℕ
scaled_of text = option_map_or (scaled_numeral (take (length text - 1) text))
    (option_and_then scale_of (slice_get text (length text - 1))) (number_of text)

-- both numbers, if there are both
abbrev pub both_of : Option ℕ → Option ℕ → Option (ℕ × ℕ)
both_of low high = option_and_then (λ x. option_map (λ y. (x, y)) high) low

-- the text before the first such byte and the text after it, if there is one
abbrev pub split_at : ℕ → Text → Option (Text × Text)
split_at c text = if list_any (λ b. b == c) text
    then Some (before_first (λ b. b == c) text, after_first (λ b. b == c) text) else None

-- a scaled number, or two with a dash (45) between: least and greatest, not compared here
abbrev pub range_of : Text → Option (ℕ × ℕ)
range_of text = option_map_or (λ parts. both_of (scaled_of parts.0) (scaled_of parts.1))
    (split_at 45 text)
    (option_map (λ x. (x, x)) (scaled_of text))

-- the triple of three numbers, if there are all three
abbrev pub config_of : Option ℕ → Option ℕ → Option ℕ → Option Config
config_of (Some b) (Some s) (Some e) = Some (record { bsize = b; sets = s; assoc = e })
config_of _ _ _ = None

-- three numbers, with commas (44) between; that some cache has them is not checked here
abbrev pub triple_of : Text → Option Config
triple_of text =
    option_and_then (λ first. option_and_then (λ second.
    config_of (number_of first.0) (number_of second.0) (number_of second.1))
    (split_at 44 first.1)) (split_at 44 text)
