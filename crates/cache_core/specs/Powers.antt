-- Powers of two.
use Rattle.std.specs.Prelude.{ℕ, ◌^◌, ◌==◌, Bool}
use Rattle.std.specs.List.{list_any, range_with_len}
use Rattle.std.specs.Int.{w64, trailing_zeros}

-- 2 to some power below 64
unfoldable pub is_power : ℕ → Bool
is_power n = list_any (λ k. n == 2 ^ k) (range_with_len 0 64)

-- the exponent of a power of two
abbrev pub log2 : ℕ → ℕ
log2 n = trailing_zeros w64 n
