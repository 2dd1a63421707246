-- What makes a configuration valid, as facts.
use Rattle.std.proofs.Common.{◌≡◌, ℕ, ◌*◌, ◌^◌, ◌<◌, ◌≤◌, Bool, true, false, cond, not, ◌||◌, List}
use Rattle.std.proofs.Common.{◌∷◌, refl, arith, Option, None, Some, inl, inr}
use Rattle.std.proofs.lemmas.Bool.{and_parts, and_from, leb-true, le-leb, false≢true, cases_lt}
use Rattle.std.proofs.Math.Pow.{pow_mono}
use Rattle.std.proofs.Math.Nat.{mul-le-mul}
use Rattle.sweep_core.specs.declared.space.Config.{Config}
use Rattle.sweep_core.specs.declared.space.Which.{Which}
use Rattle.sweep_core.specs.declared.space.Cause.{Cause}
use Rattle.sweep_core.specs.Space.{Ranges, is_in_range, bytes_of, is_valid, limit_cause}
use Rattle.sweep_core.specs.Space.{power_cause, first_cause, space_fault}
use Rattle.cache_core.specs.Powers.{is_power}
use Rattle.cache_core.proofs.PowersOfTwo.{power-of}

-- a number is none below the lowest and none above the greatest of a range
abbrev pub Within : ℕ × ℕ → ℕ → Type 0
Within range n = (range.0 ≤ n) × (n ≤ range.1)

-- a configuration is one of a space
pub record IsValid (space : Ranges) (c : Config) : Type 0 where
  pub bsize : Within space.bsize c.bsize
  pub sets : Within space.sets c.sets
  pub assoc : Within space.assoc c.assoc
  pub size : Within space.size (bytes_of c)
  pub block_power : is_power c.bsize ≡ true
  pub set_power : is_power c.sets ≡ true
  pub way_power : space.powers ≡ true → is_power c.assoc ≡ true
  pub lines : c.assoc * c.sets ≤ 2 ^ 22

pub in_range-within : (range : ℕ × ℕ) (n : ℕ) → is_in_range range n ≡ true → Within range n
in_range-within range n h = let w = and_parts _ _ h in (leb-true _ _ w.0, leb-true _ _ w.1)

pub is_in_range-from : (range : ℕ × ℕ) (n : ℕ) → Within range n → is_in_range range n ≡ true
is_in_range-from range n h = and_from _ _ (le-leb _ _ h.0) (le-leb _ _ h.1)

pub implied : (b p : Bool) → (not b || p) ≡ true → b ≡ true → p ≡ true
implied true p h e = h
implied false p h e = absurd (false≢true e)

pub implies : (b p : Bool) → (b ≡ true → p ≡ true) → (not b || p) ≡ true
implies true p h = h refl
implies false p h = refl

pub valid_of : (space : Ranges) (c : Config) → is_valid space c ≡ true → IsValid space c
valid_of space c h =
    let a = and_parts _ _ h in let b = and_parts _ _ a.0 in let d = and_parts _ _ b.0 in
    let e = and_parts _ _ d.0 in
    let f = and_parts _ _ e.0 in let g = and_parts _ _ f.0 in let i = and_parts _ _ g.0 in
    record {
      bsize = in_range-within _ _ i.0;
      sets = in_range-within _ _ i.1;
      assoc = in_range-within _ _ g.1;
      size = in_range-within _ _ f.1;
      block_power = e.1;
      set_power = d.1;
      way_power = implied _ _ b.1;
      lines = leb-true _ _ a.1;
    }

pub is_valid-from : (space : Ranges) (c : Config) → IsValid space c → is_valid space c ≡ true
is_valid-from space c v =
    and_from _ _ (and_from _ _ (and_from _ _ (and_from _ _ (and_from _ _ (and_from _ _ (and_from _ _
    (is_in_range-from _ _ v.bsize) (is_in_range-from _ _ v.sets)) (is_in_range-from _ _ v.assoc))
    (is_in_range-from _ _ v.size))
    v.block_power) v.set_power) (implies _ _ v.way_power)) (le-leb _ _ v.lines)

-- the limits of a space
pub record IsLimited (space : Ranges) : Type 0 where
  pub bsize : (1 ≤ space.bsize.0) × (space.bsize.1 ≤ 1048576)
  pub sets : (1 ≤ space.sets.0) × (space.sets.1 ≤ 1048576)
  pub assoc : (1 ≤ space.assoc.0) × (space.assoc.1 ≤ 65536)

first_none : (w : Which) (x : Option Cause) (more : List (Which × Option Cause)) →
    first_cause ((w, x) ∷ more) ≡ None
    → (x ≡ None) × (first_cause more ≡ None)
first_none w None more h = (refl, h)
first_none w (Some cause) more h = cc

unless : (b : Bool) (x : Option Cause) (c : Cause) → cond b x (Some c) ≡ None →
    (b ≡ true) × (x ≡ None)
unless true x c h = (refl, h)
unless false x c h = cc

limit_none : (most : ℕ) (range : ℕ × ℕ) → limit_cause most range ≡ None → (1 ≤ range.0) ×
    (range.1 ≤ most)
limit_none most range h =
    let w = unless _ _ _ h in let v = and_parts _ _ w.0 in
    ((in_range-within (1, most) _ v.0).0, (in_range-within (1, most) _ v.1).1)

power_none : (most : ℕ) (range : ℕ × ℕ) → power_cause most range ≡ None → (1 ≤ range.0) ×
    (range.1 ≤ most)
power_none most range h = limit_none most range (unless _ _ _ h).1

pub space-limited : (space : Ranges) → space_fault space ≡ None → IsLimited space
space-limited space h =
    let a = first_none _ _ _ h in let b = first_none _ _ _ a.1 in let c = first_none _ _ _ b.1 in
    record {
      bsize = power_none 1048576 space.bsize a.0;
      sets =
          power_none 1048576 space.sets b.0;
      assoc = limit_none 65536 space.assoc c.0;
    }

-- the exponent of a power of two up to 2^20
pub power-exponent : (n : ℕ) → is_power n ≡ true → n ≤ 1048576 → (k : ℕ) × (k < 21) × (n ≡ 2 ^ k)
power-exponent n h small = let k = power-of n h in (k.0, below k.0 k.2, k.2)
  where
    below : (i : ℕ) → n ≡ 2 ^ i → i < 21
    below i e = elim (cases_lt i 21) [
      | inl lt ↦ lt
      | inr ge ↦ let m : 2 ^ 21 ≤ 2 ^ i =
          pow_mono ge in absurd (omega arith)
    ]

-- the products of numbers within the limits fit
pub products : (space : Ranges) (b s e : ℕ) → IsLimited space → Within space.bsize b →
    Within space.sets s → Within space.assoc e
    → (0 < b * s) × (b * s < 2 ^ 64) × (b * s * e < 2 ^ 64) × (e * s < 2 ^ 64)
products space b s e l p q r =
    let hb : b ≤ 1048576 = omega arith in let hs : s ≤ 1048576 = omega arith in let he : e ≤ 65536 =
    omega arith in
    let ob : 1 ≤ b = omega arith in let os : 1 ≤ s = omega arith in
    let bs = mul-le-mul {n₁ = b} {m₁ = s} {n₂ = 1048576} {m₂ = 1048576} hb hs in
    let bse = mul-le-mul {n₁ = b * s} {m₁ = e} {n₂ = 1048576 * 1048576} {m₂ = 65536} bs he in
    let es = mul-le-mul {n₁ = e} {m₁ = s} {n₂ = 65536} {m₂ = 1048576} he hs in
    let one = mul-le-mul {n₁ = 1} {m₁ = 1} {n₂ = b} {m₂ = s} ob os in
    (omega arith, omega arith, omega arith, omega arith)
