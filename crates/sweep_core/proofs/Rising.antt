-- Rising lists of configurations.
use Rattle.std.proofs.Common.{◌≡◌, ℕ, suc, zero, ◌+◌, ◌-◌, ◌^◌, ◌<◌, ◌≤◌, true, List, [], ◌∷◌, ◌++◌}
use Rattle.std.proofs.Common.{map, refl, sym, ap, ◌∙◌, arith, subst}
use Rattle.std.specs.Prelude.{flat_map, ⊤}
use Rattle.std.proofs.Common.{inl, inr}
use Rattle.std.specs.List.{range_with_len, AllByRecursion as Each}
use Rattle.std.proofs.Math.Pow.{pow-lt}
use Rattle.sweep_core.specs.declared.space.Config.{Config}
use Rattle.sweep_core.specs.Table.{IsRising, is_less, powers_of_two, numbers, all_configs}
use Rattle.sweep_core.specs.Space.{Ranges, config, is_valid}
use Rattle.sweep_core.proofs.Lists.{Member, Each-weaker, Each-append, Each-flat_map}
use Rattle.sweep_core.proofs.Lists.{Member-flat_map, Member-map, Member-range}
use Rattle.sweep_core.proofs.Validity.{IsLimited, valid_of, power-exponent}
use Rattle.sweep_core.proofs.Orders.{is_less-from}

Rising-append : (xs ys : List Config) → IsRising xs → IsRising ys →
    Each (λ x. Each (λ y. is_less x y ≡ true) ys) xs → IsRising (xs ++ ys)
Rising-append [] ys p q h = q
Rising-append (x ∷ xs) ys p q h = (Each-append _ xs ys p.0 h.0, Rising-append xs ys p.1 q h.1)

-- each number is below those after it
abbrev Grows : List ℕ → Type 0
Grows [] = ⊤
Grows (x ∷ xs) = Each (λ y. x < y) xs × Grows xs

-- one stretch for each number, where K says of which number a configuration is
Rising-flat_map : (K : ℕ → Config → Type 0) (f : ℕ → List Config) → ((x : ℕ) → IsRising (f x)) →
    ((x : ℕ) → Each (K x) (f x))
    → ((x y : ℕ) (c d : Config) → x < y → K x c → K y d → is_less c d ≡ true)
    → (xs : List ℕ) → Grows xs → IsRising (flat_map f xs)
Rising-flat_map K f rises known less [] g = tt
Rising-flat_map K f rises known less (x ∷ xs) g =
    Rising-append (f x) (flat_map f xs) (rises x) (Rising-flat_map K f rises known less xs g.1)
    (Each-weaker (K x) _ (λ c kc. Each-flat_map _ f xs
    (Each-weaker (λ y. x < y) _ (λ y lt. Each-weaker (K y) _ (λ d kd. less x y c d lt kc kd) (f y)
    (known y)) xs g.0)) (f x) (known x))

Grows-powers : (a n : ℕ) → Grows (map (λ k. 2 ^ k) (range_with_len a n))
Grows-powers a zero = tt
Grows-powers a (suc n) = (above a (a + 1) n (omega arith), Grows-powers (a + 1) n)
  where
    above : (i j m : ℕ) → i < j → Each (λ y. 2 ^ i < y) (map (λ k. 2 ^ k) (range_with_len j m))
    above i j zero h = tt
    above i j (suc m) h = (pow-lt h, above i (j + 1) m (omega arith))

ways_known : (b s a n : ℕ) → Each (λ c. (c.bsize ≡ b) × (c.sets ≡ s))
    (map (config b s) (range_with_len a n))
ways_known b s a zero = tt
ways_known b s a (suc n) = ((refl, refl), ways_known b s (a + 1) n)

ways_above : (b s i j m : ℕ) → i < j → Each (λ y. is_less (config b s i) y ≡ true)
    (map (config b s) (range_with_len j m))
ways_above b s i j zero h = tt
ways_above b s i j (suc m) h = (
  is_less-from (config b s i) (config b s j) (inr (refl, inr (refl, h))),
  ways_above b s i (j + 1) m (omega arith),
)

ways_rise : (b s a n : ℕ) → IsRising (map (config b s) (range_with_len a n))
ways_rise b s a zero = tt
ways_rise b s a (suc n) = (ways_above b s a (a + 1) n (omega arith), ways_rise b s (a + 1) n)

abbrev of_bsize : ℕ × ℕ → ℕ → List Config
of_bsize range b = flat_map (λ s. map (config b s) (numbers range)) powers_of_two

sets_known : (range : ℕ × ℕ) (b : ℕ) (xs : List ℕ) →
    Each (λ s. Each (λ c. c.bsize ≡ b) (map (config b s) (numbers range))) xs
sets_known range b [] = tt
sets_known range b (s ∷ xs) = (
  Each-weaker (λ c. (c.bsize ≡ b) × (c.sets ≡ s)) (λ c. c.bsize ≡ b) (λ c h. h.0)
      (map (config b s) (numbers range))
      (ways_known b s range.0 (range.1 + 1 - range.0)),
  sets_known range b xs,
)

bsize_known : (range : ℕ × ℕ) (b : ℕ) → Each (λ c. c.bsize ≡ b) (of_bsize range b)
bsize_known range b = Each-flat_map (λ c. c.bsize ≡ b) (λ s. map (config b s) (numbers range))
    powers_of_two (sets_known range b powers_of_two)

bsize_rises : (range : ℕ × ℕ) (b : ℕ) → IsRising (of_bsize range b)
bsize_rises range b =
    Rising-flat_map (λ s c. (c.bsize ≡ b) × (c.sets ≡ s)) (λ s. map (config b s) (numbers range))
    (λ s. ways_rise b s range.0 (range.1 + 1 - range.0))
    (λ s. ways_known b s range.0 (range.1 + 1 - range.0))
    (λ x y c d lt kc kd. is_less-from c d (inr (kc.0 ∙ sym kd.0, inl (omega arith)))) powers_of_two
    (Grows-powers 0 21)

pub all_configs-rise : (range : ℕ × ℕ) → IsRising (all_configs range)
unfolding all_configs
all_configs-rise range =
    Rising-flat_map (λ b c. c.bsize ≡ b) (of_bsize range) (bsize_rises range) (bsize_known range)
    (λ x y c d lt kc kd. is_less-from c d (inl (omega arith))) powers_of_two (Grows-powers 0 21)

-- the list of all configurations has each of these
pub all_configs-member : (range : ℕ × ℕ) (i j e : ℕ) → i < 21 → j < 21 → range.0 ≤ e → e ≤ range.1 →
    Member (config (2 ^ i) (2 ^ j) e) (all_configs range)
unfolding all_configs
all_configs-member range i j e hi hj low high =
    Member-flat_map (of_bsize range) (2 ^ i) _ powers_of_two
    (Member-map (λ k. 2 ^ k) i (range_with_len 0 21) (Member-range i 0 21 (omega arith)
    (omega arith)))
    (Member-flat_map (λ s. map (config (2 ^ i) s) (numbers range)) (2 ^ j) _ powers_of_two
    (Member-map (λ k. 2 ^ k) j (range_with_len 0 21) (Member-range j 0 21 (omega arith)
    (omega arith)))
    (Member-map (config (2 ^ i) (2 ^ j)) e (numbers range)
    (Member-range e range.0 (range.1 + 1 - range.0) low (omega arith))))

-- a configuration of a space stands among all
pub valid-member : (space : Ranges) (c : Config) → IsLimited space → is_valid space c ≡ true →
    Member c (all_configs space.assoc)
valid-member space c l h =
    let v = valid_of space c h in
    let i = power-exponent c.bsize v.block_power (omega (arith, v.bsize.1, l.bsize.1)) in
    let j = power-exponent c.sets v.set_power (omega (arith, v.sets.1, l.sets.1)) in
    let same : config (2 ^ i.0) (2 ^ j.0) c.assoc ≡ c = ap (λ x. config x (2 ^ j.0) c.assoc)
    (sym i.2) ∙ ap (λ y. config c.bsize y c.assoc) (sym j.2) in
    subst (λ (d : Config). Member d (all_configs space.assoc)) same
    (all_configs-member space.assoc i.0 j.0 c.assoc i.1 j.1 v.assoc.0 v.assoc.1)
