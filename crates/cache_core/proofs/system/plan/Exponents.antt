-- The power of two that a unit is multiplied by.
use Rattle.std.proofs.Common.{◌≡◌, ◌≢◌, ℕ, zero, suc, ◌+◌, ◌*◌, ◌^◌, ◌%◌, ◌<◌, Bool, true, false}
use Rattle.std.proofs.Common.{eqb, Some, None, ◌∙◌, ap, refl, arith, find}
use Rattle.std.specs.List.{range_with_len}
use Rattle.std.proofs.Math.Pow.{pow_mono}
use Rattle.std.proofs.lemmas.Bool.{eq-eqb, ne_eqb}
use Rattle.cache_core.specs.system.Plans.{exponent_of}

-- the first number of a range that passes
find_none : (p : ℕ → Bool) (a n : ℕ) → ((k : ℕ) → k < n → p (a + k) ≡ false) →
    find p (range_with_len a n) ≡ None
find_none p a zero h = refl
find_none p a (suc n) h =
    let first : p a ≡ false = ap p (omega arith) ∙ h 0 (omega arith) in
    rw first (find_none p (a + 1) n (λ k l. ap p (omega arith) ∙ h (k + 1) (omega arith)))

find_some : (p : ℕ → Bool) (a n i : ℕ) → i < n → ((k : ℕ) → k < i → p (a + k) ≡ false) →
    p (a + i) ≡ true →
    find p (range_with_len a n) ≡ Some (a + i)
find_some p a zero i l h t = absurd (omega arith)
find_some p a (suc n) zero l h t = grind arith
find_some p a (suc n) (suc i) l h t =
    let first : p a ≡ false = ap p (omega arith) ∙ h 0 (omega arith) in
    grind (
      arith,
      find_some p (a + 1) n i (omega arith) (λ k l. ap p (omega arith) ∙
          h (k + 1) (omega arith)) (ap p (omega arith) ∙ t),
    )

pub exponent_some : (unit number k : ℕ) → k < 21 → ((j : ℕ) → j < k → unit * 2 ^ j ≢ number) →
    unit * 2 ^ k ≡ number →
    exponent_of unit number ≡ Some k
unfolding exponent_of
exponent_some unit number k l below here =
    find_some (λ j. eqb (unit * 2 ^ j) number) 0 21 k l
    (λ j m. ap (λ i. eqb (unit * 2 ^ i) number) (omega arith) ∙
    ne_eqb (unit * 2 ^ j) number (below j m))
    (ap (λ i. eqb (unit * 2 ^ i) number) (omega arith) ∙ eq-eqb (unit * 2 ^ k) number here)
    ∙ ap Some (omega arith)

pub exponent_none : (unit number : ℕ) → ((j : ℕ) → j < 21 → unit * 2 ^ j ≢ number) →
    exponent_of unit number ≡ None
unfolding exponent_of
exponent_none unit number none =
    find_none (λ j. eqb (unit * 2 ^ j) number) 0 21 (λ j m. ap (λ i. eqb (unit * 2 ^ i) number)
    (omega arith) ∙ ne_eqb (unit * 2 ^ j) number (none j m))

-- the product of a unit and such a power is not cut
pub no_overflow : (unit k : ℕ) → unit < 2 ^ 100 → k < 21 → unit * 2 ^ k % 2 ^ 128 ≡ unit * 2 ^ k
no_overflow unit k u l = grind (arith, pow_mono)
