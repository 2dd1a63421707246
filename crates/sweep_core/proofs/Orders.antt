-- The order of configurations.
use Rattle.std.proofs.Common.{◌≡◌, ◌<◌, ◌≤◌, true, false, arith, refl, Option, None, Some}
use Rattle.std.proofs.lemmas.Bool.{ltb-true, or_cases, and_parts, eqb-true, lt-ltb, eq-eqb, or_left}
use Rattle.std.proofs.lemmas.Bool.{or_right, and_from, false_from_ne_true}
use Rattle.std.specs.Prelude.{◌⊎◌}
use Rattle.std.proofs.Common.{inl, inr}
use Rattle.sweep_core.specs.declared.space.Config.{Config}
use Rattle.sweep_core.specs.Table.{is_less, is_after}

-- the order, as a fact
abbrev pub Less : Config → Config → Type 0
Less c d = (c.bsize < d.bsize) ⊎
    ((c.bsize ≡ d.bsize) × ((c.sets < d.sets) ⊎ ((c.sets ≡ d.sets) × (c.assoc < d.assoc))))

pub less_of : (c d : Config) → is_less c d ≡ true → Less c d
less_of c d h =
    elim (or_cases _ _ h) [
      | inl b ↦ inl (ltb-true _ _ b)
      | inr same ↦ let w = and_parts _ _ same in inr (
        eqb-true _ _ w.0,
        elim (or_cases _ _ w.1) [
          | inl s ↦ inl (ltb-true _ _ s)
          | inr e ↦ let v = and_parts _ _ e in inr (eqb-true _ _ v.0, ltb-true _ _ v.1)
        ],
      )
    ]

pub is_less-from : (c d : Config) → Less c d → is_less c d ≡ true
is_less-from c d (inl b) = or_left _ _ (lt-ltb _ _ b)
is_less-from c d (inr (b, inl s)) =
    or_right _ _ (and_from _ _ (eq-eqb _ _ b) (or_left _ _ (lt-ltb _ _ s)))
is_less-from c d (inr (b, inr (s, e))) =
    or_right _ _ (and_from _ _ (eq-eqb _ _ b)
    (or_right _ _ (and_from _ _ (eq-eqb _ _ s) (lt-ltb _ _ e))))

-- a greater one has no smaller blocks
pub less-block : (c d : Config) → is_less c d ≡ true → c.bsize ≤ d.bsize
less-block c d h = elim (less_of c d h) [
  | inl more ↦ omega arith
  | inr same ↦
      omega (arith, same.0)
]

Less-asym : (c d : Config) → Less c d → Less d c → ⊥
Less-asym c d p q = grind arith

pub is_less-asym : (c d : Config) → is_less c d ≡ true → is_less d c ≡ false
is_less-asym c d h = false_from_ne_true _ (λ k. Less-asym c d (less_of c d h) (less_of d c k))

pub is_less-same : (c : Config) → is_less c c ≡ false
is_less-same c = false_from_ne_true _ (λ k. Less-asym c c (less_of c c k) (less_of c c k))

Less-trans : (a b c : Config) → Less a b → Less b c → Less a c
Less-trans a b c p q = grind arith

pub is_less-trans : (a b c : Config) → is_less a b ≡ true → is_less b c ≡ true → is_less a c ≡ true
is_less-trans a b c p q = is_less-from a c (Less-trans a b c (less_of a b p) (less_of b c q))

-- above one that is greater than a triple all are
pub later_after : (after : Option Config) (c d : Config) → is_after after c ≡ true →
    is_less c d ≡ true → is_after after d ≡ true
later_after None c d p q = refl
later_after (Some a) c d p q = is_less-trans a c d p q
