-- The dirty slots of a slab, and how its listed sets are emptied one by one.
use Rattle.std.proofs.Common.{◌≡◌, ℕ, zero, suc, ◌+◌, ◌-◌, ◌*◌, ◌<◌, ◌≤◌, List, [], ◌∷◌, length}
use Rattle.std.proofs.Common.{get_or, take, drop, set, replicate, sym, ◌∙◌, ap, refl, arith}
use Rattle.std.proofs.Common.{drop-drop, length-take, subst}
use Rattle.std.specs.Prelude.{All, count_by}
use Rattle.std.proofs.Math.Nat.{suc-mul}
use Rattle.std.proofs.lemmas.List.{drop_all}
use Rattle.std.proofs.lemmas.List.Elements.{All-set, All-tail}
use Rattle.std.proofs.lemmas.List.Folds.{sum_by-replicate}
use Rattle.std.proofs.lemmas.List.Sums.{sum_by-set, sum_by-cons, count_by-le-length}
use Rattle.cache_core.specs.declared.outcome.Slot.{Slot}
use Rattle.cache_core.specs.cache.Order.{dirty_slots}
use Rattle.cache_core.specs.internal.cache.Slab.{sets_of}
use Rattle.cache_core.specs.Touched.{ListsFilled}
use Rattle.cache_core.proofs.cache.Slabs.{length-sets_of, get_or-sets_of, sets_of-empty}
use Rattle.cache_core.proofs.TouchedSets.{no_count, next_listed, emptied}

-- a set with another number of filled slots
sets_of-set : (ways : ℕ) (filled : List ℕ) (k n start : ℕ) (slots : List Slot) → start ≡ k * ways →
    k < length filled →
    sets_of ways slots (set filled k n) ≡ set (sets_of ways slots filled) k
    (take n (drop start slots))
sets_of-set ways [] k n start slots e h = absurd (omega arith)
sets_of-set ways (f ∷ fs) zero n start slots e h = grind arith
sets_of-set ways (f ∷ fs) (suc k) n start slots e h =
    grind (
      arith,
      drop-drop,
      sets_of-set ways fs k n (k * ways) (drop ways slots) refl
          (omega arith),
    )

-- the dirty slots of a set are no longer there once it is emptied
pub dirty_emptied : (ways : ℕ) (filled : List ℕ) (k count : ℕ) (slots : List Slot) →
    k < length filled → count ≡ get_or filled k 0
    → dirty_slots (sets_of ways slots (set filled k 0)) + count_by (λ slot. slot.dirty)
    (take (k * ways + count - k * ways) (drop (k * ways) slots))
    ≡ dirty_slots (sets_of ways slots filled)
dirty_emptied ways filled k count slots lt is =
    let dirty : List Slot → ℕ = count_by (λ slot. slot.dirty) in
    let width : k * ways + count - k * ways ≡ get_or filled k 0 = omega arith in
    let here = ap dirty (get_or-sets_of ways filled k (k * ways) slots refl lt) ∙
    ap (λ n. dirty (take n (drop (k * ways) slots))) (sym width) in
    let without = ap dirty_slots (sets_of-set ways filled k 0 (k * ways) slots refl lt) in
    omega (
      arith,
      here,
      without,
      sum_by-set dirty (sets_of ways slots filled) k [] []
          (omega (arith, length-sets_of ways filled slots)),
    )

-- no more slots are dirty than there are
pub dirty_few : (ways : ℕ) (filled : List ℕ) (slots : List Slot) → All (λ n. n ≤ ways) filled →
    dirty_slots (sets_of ways slots filled) ≤ length filled * ways
dirty_few ways [] slots h = omega arith
dirty_few ways (f ∷ fs) slots h =
    let dirty : List Slot → ℕ = count_by (λ slot. slot.dirty) in
    let first : f ≤ ways = h 0 0 (omega arith) in
    let rest = dirty_few ways fs (drop ways slots) (All-tail (λ n. n ≤ ways) f fs h) in
    omega (
      arith,
      rest,
      sum_by-cons dirty (take f slots) (sets_of ways (drop ways slots) fs),
      count_by-le-length (λ (slot : Slot). slot.dirty) (take f slots),
      length-take f slots,
      suc-mul (length fs) ways,
    )

-- no slot is dirty where none is filled
pub dirty_none : (ways n : ℕ) (slots : List Slot) →
    dirty_slots (sets_of ways slots (replicate n 0)) ≡ 0
dirty_none ways n slots = ap dirty_slots (sets_of-empty ways n slots) ∙
    sum_by-replicate (count_by (λ (slot : Slot). slot.dirty)) n [] ∙ omega arith

-- the listed sets are emptied one by one: what is left is listed, and what was dirty is counted
pub record Emptying (ways : ℕ) (slots : List Slot) (start left filled : List ℕ)
    (dirty : ℕ) : Type 0 where
  pub listed : ListsFilled left filled
  pub within : All (λ n. n ≤ ways) filled
  pub counted : dirty + dirty_slots (sets_of ways slots filled) ≡ dirty_slots
      (sets_of ways slots start)

module _ (ways : ℕ) (slots : List Slot) (listed start filled : List ℕ) (dirty i : ℕ)
    (e : Emptying ways slots start (drop i listed) filled dirty) where
  -- the next set of the list
  abbrev next : ℕ
  next = get_or listed i 0

  pub one_emptied : (n count more : ℕ) → i < length listed → n ≡ 0 → count ≡ get_or filled next 0 →
      more ≡ count_by (λ slot. slot.dirty) (take (next * ways + count - next * ways)
      (drop (next * ways) slots)) →
      Emptying ways slots start (drop (i + 1) listed) (set filled next n) (dirty + more)
  one_emptied n count more lt zero_is held found =
      let l = next_listed listed filled i lt e.listed in
      let gone = dirty_emptied ways filled next count slots (l.within 0 0 (omega arith)) held in
      rw zero_is record {
        listed = emptied next (drop (i + 1) listed) filled l;
        within = All-set (λ m. m ≤ ways) filled next 0 (omega arith) e.within;
        counted = omega (arith, e.counted, found, gone);
      }

  pub none_left : length listed ≤ i → filled ≡ replicate (length filled) 0
  none_left all = no_count filled (subst (λ sets. ListsFilled sets filled)
      (drop_all i listed all) e.listed)

  pub all_counted : length listed ≤ i → dirty ≡ dirty_slots (sets_of ways slots start)
  all_counted all = grind (arith, none_left, dirty_none)
