-- The configurations of a space in order.
use Rattle.std.specs.Prelude.{◌≡◌, ⊤, [], ◌∷◌, ℕ, ◌+◌, ◌-◌, ◌^◌, ◌==◌, ◌&&◌, ◌||◌, nat_lt, Bool}
use Rattle.std.specs.Prelude.{true, Option, None, Some, List, take, map, filter, flat_map}
use Rattle.std.specs.List.{range_with_len, AllByRecursion}
use Rattle.sweep_core.specs.declared.space.Config.{Config}
use Rattle.sweep_core.specs.Space.{Ranges, config, is_valid}

-- the order: by block size, then by set count, then by associativity
abbrev pub is_less : Config → Config → Bool
is_less c d =
    nat_lt c.bsize d.bsize
    || c.bsize == d.bsize && (nat_lt c.sets d.sets || c.sets == d.sets && nat_lt c.assoc d.assoc)

-- whether a configuration is greater than a triple; without one, all are
abbrev pub is_after : Option Config → Config → Bool
is_after None c = true
is_after (Some after) c = is_less after c

-- 1, 2, 4, .., 2^20
abbrev pub powers_of_two : List ℕ
powers_of_two = map (λ k. 2 ^ k) (range_with_len 0 21)

-- the numbers of a range
abbrev pub numbers : ℕ × ℕ → List ℕ
numbers range = range_with_len range.0 (range.1 + 1 - range.0)

-- all configurations whose associativity lies in a range, in order
unfoldable pub all_configs : ℕ × ℕ → List Config
all_configs range =
    flat_map (λ bsize. flat_map (λ sets. map (config bsize sets) (numbers range)) powers_of_two)
    powers_of_two

-- The table: the configurations of a space that are greater than a triple, in order.
unfoldable pub table : Ranges → Option Config → List Config
table space after = filter (λ c. is_valid space c && is_after after c) (all_configs space.assoc)

-- the first n of some rows; without n, all
abbrev pub first_rows : {A : Type 0} → Option ℕ → List A → List A
first_rows None xs = xs
first_rows (Some n) xs = take n xs

-- n, and then so many more
abbrev pub more_rows : ℕ → Option ℕ → Option ℕ
more_rows n None = None
more_rows n (Some m) = Some (n + m)

-- each is less than all those after it
abbrev pub IsRising : List Config → Type 0
IsRising [] = ⊤
IsRising (c ∷ cs) = AllByRecursion (λ d. is_less c d ≡ true) cs × IsRising cs
