-- A set that has no place of its own takes the next.
use Rattle.std.proofs.Common.{◌≡◌, ℕ, zero, suc, ◌+◌, ◌<◌, ◌≤◌, not, eqb, cond, List}
use Rattle.std.proofs.Common.{length, get_or, set, refl, ap, arith, length-set}
use Rattle.std.proofs.Common.{get_or-set_same, get_or-set_other}
use Rattle.std.specs.Prelude.{replicate}
use Rattle.std.proofs.lemmas.Bool.{cases_eq, ne_eqb}
use Rattle.std.proofs.lemmas.List.Sums.{sum_by-set, count_by-le-length}
use Rattle.profile_core.specs.internal.rests.Places.{taken_count, ArePlaces}
use Rattle.profile_core.proofs.Elements.{all_same}

pub taken_few : (places : List ℕ) → taken_count places ≤ length places
taken_few places = count_by-le-length (λ p. not (eqb p 0)) places

-- none is taken yet
pub taken_none : (m : ℕ) → taken_count (replicate m 0) ≡ 0
taken_none zero = refl
taken_none (suc m) = taken_none m

pub none_taken : (m : ℕ) → ArePlaces (replicate m 0)
none_taken m = record {
  within = λ k. omega (arith, all_same {A = ℕ} m k 0);
  apart = λ i k own same. absurd (omega (arith, own, all_same {A = ℕ} m i 0));
}

-- set k takes one
module _ {places : List ℕ} (a : ArePlaces places) {k : ℕ} (lt : k < length places)
    (none : get_or places k 0 ≡ 0) where
  abbrev pub places_then : List ℕ
  places_then = set places k (taken_count places + 1)

  abbrev counted : ℕ → ℕ
  counted p = cond (not (eqb p 0)) 1 0

  counted_one : (p : ℕ) → counted (p + 1) ≡ 1
  counted_one p = ap (λ b. cond (not b) 1 0) (ne_eqb (p + 1) 0 (λ e. absurd (omega (arith, e))))

  pub one_more : taken_count places_then ≡ taken_count places + 1
  one_more = omega (
    arith,
    sum_by-set counted places k (taken_count places + 1) 0 lt,
    ap counted none,
    counted_one (taken_count places),
  )

  -- there is a set without a place, so there is a place for it
  pub place_left : taken_count places < length places
  place_left = omega (
    arith,
    one_more,
    taken_few places_then,
    length-set places k (taken_count places + 1),
  )

  pub place_here : get_or places_then k 0 ≡ taken_count places + 1
  place_here = get_or-set_same places k (taken_count places + 1) 0 lt

  pub place_other : (j : ℕ) → (j ≡ k → ⊥) → get_or places_then j 0 ≡ get_or places j 0
  place_other j other = get_or-set_other places k j (taken_count places + 1) 0 other

  within_then : (j : ℕ) → get_or places_then j 0 ≤ taken_count places_then
  within_then j = grind (arith, one_more, place_here, place_other, cases_eq, a.within)

  apart_then : (i j : ℕ) → 0 < get_or places_then i 0 →
      get_or places_then i 0 ≡ get_or places_then j 0 → i ≡ j
  apart_then i j own same = grind (arith, place_here, place_other, cases_eq, a.within, a.apart)

  pub places_taken : ArePlaces places_then
  places_taken = record { within = within_then; apart = apart_then }
