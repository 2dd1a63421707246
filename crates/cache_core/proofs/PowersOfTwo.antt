-- Powers of two.
use Rattle.std.proofs.Common.{◌≡◌, ℕ, suc, zero, ◌+◌, ◌*◌, ◌/◌, ◌%◌, ◌^◌, ◌<◌, ◌≤◌, max, Bool, true}
use Rattle.std.proofs.Common.{◌==◌, refl, sym, ap, ◌∙◌, arith, eq-eqb, inl, inr}
use Rattle.std.proofs.lemmas.Bool.{eqb-true, or_left, or_right, or_cases, cases_lt, false≢true}
use Rattle.std.proofs.lemmas.Bool.{cases_Bool, false_from_ne_true, cases_order}
use Rattle.std.specs.List.{list_any, range_with_len}
use Rattle.std.specs.Int.{w64, is_power_of_two, IsPowerOfTwo}
use Rattle.std.specs.Int.RustNames.{count_ones}
use Rattle.std.specs.Int.Count.{ones_step}
use Rattle.std.proofs.lemmas.Nat.{ones_cat, pow_pos, zero_from_ones}
use Rattle.std.proofs.lemmas.Nat.Bits.{bit_at-trailing_zeros, bit_at-pow_other}
use Rattle.std.proofs.Math.Pow.{pow_mono, pow-lt}
use Rattle.cache_core.specs.Powers.{is_power, log2}

-- a number of a range that passes
pub range-any : (p : ℕ → Bool) (a n k : ℕ) → a ≤ k → k < a + n → p k ≡ true →
    list_any p (range_with_len a n) ≡ true
range-any p a zero k from below h = absurd (omega arith)
range-any p a (suc n) k from below h =
    elim (cases_lt a k) [
      | inl later ↦ or_right _ _ (range-any p (a + 1) n k (omega arith) (omega arith) h)
      | inr here ↦ let e : k ≡ a = omega arith in or_left _ _ (rw e at h)
    ]

pub any-range : (p : ℕ → Bool) (a n : ℕ) → list_any p (range_with_len a n) ≡ true → (k : ℕ) ×
    (k < a + n) × (p k ≡ true)
any-range p a zero h = absurd (false≢true h)
any-range p a (suc n) h =
    elim (or_cases _ _ h) [
      | inl here ↦ (a, omega arith, here)
      | inr later ↦ let w = any-range p (a + 1) n later in (w.0, omega arith, w.2)
    ]

pub is_power-pow : (k : ℕ) → k < 64 → is_power (2 ^ k) ≡ true
unfolding is_power
is_power-pow k h = range-any (λ i. 2 ^ k == 2 ^ i) 0 64 k (omega arith) (omega arith)
    (eq-eqb (2 ^ k) (2 ^ k) refl)

pub power-of : (n : ℕ) → is_power n ≡ true → (k : ℕ) × (k < 64) × (n ≡ 2 ^ k)
unfolding is_power
power-of n h = let w = any-range (λ k. n == 2 ^ k) 0 64 h in (w.0, omega arith, eqb-true _ _ w.2)

ones-pow : (k : ℕ) → count_ones (2 ^ k) ≡ 1
unfolding count_ones
ones-pow k = ap count_ones (omega arith) ∙ ones_cat k 1 0 (pow_pos k)

log_of_ones : (fuel n : ℕ) → n ≤ fuel → count_ones n ≡ 1 → (k : ℕ) × (n ≡ 2 ^ k)
unfolding count_ones
log_of_ones zero n h e = let s = ones_step n in absurd (omega (arith, zero_none n (omega arith)))
  where
    zero_none : (m : ℕ) → m ≡ 0 → count_ones m ≡ 0
    zero_none m z = ap count_ones z
log_of_ones (suc fuel) n h e =
    let s = ones_step n in
    elim (cases_order (n % 2) 0) [
      | inl even ↦ let half = log_of_ones fuel (n / 2) (omega arith) (omega arith) in
          (suc half.0, omega arith)
      | inr odd ↦ let none = zero_from_ones (n / 2) (omega arith) in (0, omega arith)
    ]

pub below-64 : (n k : ℕ) → n < 2 ^ 64 → n ≡ 2 ^ k → k < 64
below-64 n k fits e =
    elim (cases_lt k 64) [
      | inl below ↦ below
      | inr above ↦ let more : 2 ^ 64 ≤ 2 ^ k =
          pow_mono above in absurd (omega arith)
    ]

pub is_power-is : (n : ℕ) → n < 2 ^ 64 → is_power_of_two n ≡ is_power n
is_power-is n fits =
    elim (cases_Bool (is_power_of_two n)) [
      | inl one ↦ let k = log_of_ones n n (omega arith) (eqb-true _ _ one) in
          one ∙ sym (ap is_power k.1 ∙ is_power-pow k.0 (below-64 n k.0 fits k.1))
      | inr other ↦ other ∙ sym (false_from_ne_true (is_power n)
          (λ h. let k = power-of n h in false≢true (sym other ∙ eq-eqb (count_ones n) 1
          (ap count_ones k.2 ∙ ones-pow k.0))))
    ]

-- the least power of two above a number, or the number itself, is at most each such power
pub next_power-least : (n p e : ℕ) → IsPowerOfTwo p → p / 2 < max 1 n → n ≤ e →
    is_power e ≡ true → p ≤ e
next_power-least n p e power low above h =
    let k = power-of e h in
    elim (cases_lt k.0 power.0) [
      | inl less ↦ absurd (half power.0 k.0 less (power.1) k.2)
      | inr more ↦ let m : 2 ^ power.0 ≤ 2 ^ k.0 = pow_mono more in omega arith
    ]
  where
    half : (j i : ℕ) → i < j → p ≡ 2 ^ j → e ≡ 2 ^ i → ⊥
    half zero i less pj ei = omega arith
    half (suc j) i less pj ei =
        let m : 2 ^ i ≤ 2 ^ j = pow_mono (omega arith) in let q : 0 < 2 ^ i =
        pow_pos i in omega arith

pub is_power-of : (n : ℕ) → IsPowerOfTwo n → n < 2 ^ 64 → is_power n ≡ true
is_power-of n p fits = ap is_power p.1 ∙ is_power-pow p.0 (below-64 n p.0 fits p.1)

-- a power up to a number is at most the greatest power up to it
pub power-floor : (m i e : ℕ) → m < 2 * 2 ^ i → is_power e ≡ true → e ≤ m → e ≤ 2 ^ i
power-floor m i e above h small =
    let k = power-of e h in
    elim (cases_lt i k.0) [
      | inl less ↦ let more : 2 ^ suc i ≤ 2 ^ k.0 = pow_mono less in absurd (omega arith)
      | inr low ↦ let m' : 2 ^ k.0 ≤ 2 ^ i = pow_mono low in omega arith
    ]

-- the logarithm of a power
pub log2-pow : (k : ℕ) → k < 64 → log2 (2 ^ k) ≡ k
log2-pow k h =
    let fits : 2 ^ k < 2 ^ 64 = pow-lt h in
    let t = bit_at-trailing_zeros w64 (2 ^ k) (pow_pos k) fits in
    grind (arith, bit_at-pow_other)

pub log2-is : (n : ℕ) → is_power n ≡ true → 2 ^ log2 n ≡ n
log2-is n h = let k = power-of n h in
    ap (λ m. 2 ^ log2 m) k.2 ∙ ap (λ i. 2 ^ i) (log2-pow k.0 k.1) ∙ sym k.2
