-- The sets of a cache whose blocks are found by an index are emptied, slot by slot.
use Rattle.std.proofs.Common.{◌≡◌, ◌≢◌, ℕ, zero, suc, ◌+◌, ◌*◌, ◌<◌, ◌≤◌, Bool, true, false, cond}
use Rattle.std.proofs.Common.{List, []}
use Rattle.std.proofs.Common.{◌∷◌, ◌++◌, length, set, get_or, drop, replicate, refl, sym, ◌∙◌, ap}
use Rattle.std.proofs.Common.{subst, arith, Some, None}
use Rattle.std.proofs.Common.{length-set}
use Rattle.std.proofs.Common.{inl, inr}
use Rattle.std.proofs.lemmas.Bool.{false≢true, cases_lt}
use Rattle.std.proofs.lemmas.List.{drop_all}
use Rattle.std.proofs.lemmas.List.Elements.{All-head}
use Rattle.std.proofs.lemmas.List.Sums.{sum_by-set, sum_by-cons}
use Rattle.std.proofs.lemmas.List.{length-map}
use Rattle.std.proofs.lemmas.Option.{slice_get_within}
use Rattle.block_index.specs.SlotLists.{has_slot, AreOnce}
use Rattle.block_index.specs.BlockIndex.{IndexValue}
use Rattle.cache_core.specs.declared.outcome.Slot.{Slot}
use Rattle.cache_core.specs.Geometry.{GeometryValue}
use Rattle.cache_core.specs.replacement.Rules.{InPlace}
use Rattle.cache_core.specs.cache.Order.{dirty_in, dirty_slots}
use Rattle.cache_core.specs.internal.cache.SlotOrder.{OrderValue, order_of, with_order}
use Rattle.cache_core.specs.internal.cache.Indexed.{slot_at, set_at, sets_at, counts_of, IsHeld}
use Rattle.cache_core.specs.internal.cache.Indexed.{Holds}
use Rattle.cache_core.specs.Touched.{ListsFilled}
use Rattle.cache_core.proofs.cache.indexed.SlotsApart.{same_or, in_other}
use Rattle.cache_core.proofs.cache.indexed.HeldLaw.{with_block, held_taken, by_set, order_same}
use Rattle.cache_core.proofs.cache.indexed.HeldLaw.{order_other}
use Rattle.cache_core.proofs.cache.indexed.PolicySlots.{next_self, next_other}
use Rattle.cache_core.proofs.cache.indexed.IndexedLaw.{sets_written, sets_read}
use Rattle.cache_core.proofs.cache.indexed.WaysLaw.{counted, counts_set}
use Rattle.cache_core.proofs.TouchedSets.{next_listed, emptied}

dirty_more : (x : Slot) (xs : List Slot) → dirty_in (x ∷ xs) ≡ cond x.dirty 1 0 + dirty_in xs
dirty_more x xs = sum_by-cons (λ (slot : Slot). cond slot.dirty 1 0) x xs

-- only the marks say how many slots are dirty
pub same_dirty : (i j : IndexValue) (dirty : List Bool) (xs : List ℕ) →
    dirty_in (set_at i dirty xs) ≡ dirty_in (set_at j dirty xs)
same_dirty i j dirty [] = refl
same_dirty i j dirty (x ∷ xs) = omega (
  arith,
  dirty_more (slot_at i dirty x) (set_at i dirty xs),
  dirty_more (slot_at j dirty x) (set_at j dirty xs),
  same_dirty i j dirty xs,
)

pub dirty_push : (i : IndexValue) (dirty : List Bool) (xs : List ℕ) (s : ℕ) →
    dirty_in (set_at i dirty (xs ++ s ∷ []))
    ≡ dirty_in (set_at i dirty xs) + cond (get_or dirty s false) 1 0
dirty_push i dirty [] s = grind arith
dirty_push i dirty (x ∷ xs) s = omega (
  arith,
  dirty_more (slot_at i dirty x) (set_at i dirty (xs ++ s ∷ [])),
  dirty_more (slot_at i dirty x) (set_at i dirty xs),
  dirty_push i dirty xs s,
)

one_most : (b : Bool) → cond b 1 0 ≤ 1
one_most true = omega arith
one_most false = omega arith

pub dirty_few : (i : IndexValue) (dirty : List Bool) (xs : List ℕ) →
    dirty_in (set_at i dirty xs) ≤ length xs
dirty_few i dirty [] = omega arith
dirty_few i dirty (x ∷ xs) = omega (
  arith,
  one_most (slot_at i dirty x).dirty,
  dirty_more (slot_at i dirty x) (set_at i dirty xs),
  dirty_few i dirty xs,
)

-- a list without its last slot
pub once_pop : (xs : List ℕ) (s : ℕ) → AreOnce (xs ++ s ∷ []) →
    (has_slot s xs ≡ false) × AreOnce xs
once_pop [] s once = (refl, tt)
once_pop (x ∷ xs) s once =
    let rest = once_pop xs s once.1 in
    let other : s ≢ x = (λ q. false≢true (sym once.0
    ∙ subst (λ (u : ℕ). has_slot u (xs ++ s ∷ []) ≡ true) q (next_self InPlace s xs))) in (
      in_other s x xs (λ q. other (sym q)) ∙ rest.0,
      (sym (next_other InPlace s x xs other) ∙ once.0, rest.1),
    )

-- the last slot of a set loses its block, and leaves
module _ (g : GeometryValue) (index : IndexValue) (sets : List (List ℕ)) (k s : ℕ) (rest : List ℕ)
    (held : IsHeld g index sets) (lt : k < length sets)
    (is : order_of sets k ≡ rest ++ s ∷ []) where
  pub pop_inside : has_slot s (order_of sets k) ≡ true
  pop_inside = ap (has_slot s) is ∙ next_self InPlace s rest

  abbrev popped : Holds g index k s
  popped = held.holds k s pop_inside

  pub pop_within : s < length index.blocks
  pop_within = slice_get_within index.blocks s (Some popped.block) popped.has

  pub pop_held : IsHeld g (with_block index s None) (set sets k rest)
  pop_held =
      let once = once_pop rest s (subst (λ (xs : List ℕ). AreOnce xs) is (held.once k)) in
      held_taken g index sets k s rest held lt pop_within pop_inside once.1 once.0
      (λ t ne. sym (ap (has_slot t) is ∙ next_other InPlace s t rest (λ q. ne (sym q))))

-- How far the sets are emptied: what was dirty in them is counted.
pub record Emptying (g : GeometryValue) (dirty : List Bool) (first : IndexValue)
    (start : OrderValue) (index : IndexValue) (order : OrderValue) (count : ℕ) : Type 0 where
  pub held : IsHeld g index order.sets
  pub slots : length index.blocks ≡ length first.blocks
  pub rest : order ≡ record start { sets = order.sets }
  pub sets : length order.sets ≡ length start.sets
  pub few : (k : ℕ) → length (order_of order.sets k) ≤ g.e
  pub counted : count + dirty_slots (sets_at first dirty order.sets)
      ≡ dirty_slots (sets_at first dirty start.sets)

-- one more set is emptied
module _ (g : GeometryValue) (dirty : List Bool) (first : IndexValue) (start : OrderValue)
    (index : IndexValue) (order : OrderValue) (count : ℕ)
    (e : Emptying g dirty first start index order count) (k : ℕ) (lt : k < length order.sets)
    (after : IndexValue) (left : OrderValue) (more : ℕ)
    (empty : left ≡ with_order order k [])
    (held : IsHeld g after left.sets) (slots : length after.blocks ≡ length index.blocks)
    (found : more ≡ dirty_in (set_at index dirty (order_of order.sets k))) where
  written : left.sets ≡ set order.sets k []
  written = ap (λ (o : OrderValue). o.sets) empty

  holds : sets_at first dirty left.sets ≡ set (sets_at first dirty order.sets) k []
  holds = ap (sets_at first dirty) written
      ∙ sets_written first first dirty dirty order.sets k [] (λ n ne. refl)

  within : k < length (sets_at first dirty order.sets)
  within = omega (arith, lt, length-map order.sets (set_at first dirty))

  here : get_or (sets_at first dirty order.sets) k [] ≡ set_at first dirty (order_of order.sets k)
  here = sets_read first dirty order.sets k

  fewer : dirty_slots (set (sets_at first dirty order.sets) k []) + more
      ≡ dirty_slots (sets_at first dirty order.sets)
  fewer =
      let same : more ≡ dirty_in (get_or (sets_at first dirty order.sets) k []) =
      found ∙ same_dirty index first dirty (order_of order.sets k) ∙ ap dirty_in (sym here) in
      grind (arith, sum_by-set, same, within)

  pub one_emptied : Emptying g dirty first start after left (count + more)
  one_emptied = record {
    held = held;
    slots = slots ∙ e.slots;
    rest = empty ∙ ap (λ (o : OrderValue). with_order o k []) e.rest
        ∙ ap (λ ys. record start { sets = ys }) (sym written);
    sets = ap length written ∙ length-set order.sets k [] ∙ e.sets;
    few = subst (λ (ys : List (List ℕ)). (n : ℕ) → length (order_of ys n) ≤ g.e) (sym written)
        (by_set order.sets k [] lt (λ n zs. length zs ≤ g.e) (omega arith) (λ n ne. e.few n));
    counted = omega (arith, e.counted, fewer, ap dirty_slots holds);
  }

-- all sets are empty
no_slot : (xs : List ℕ) → length xs ≡ 0 → xs ≡ []
no_slot [] e = refl
no_slot (x ∷ xs) e = absurd (omega (arith, e))

pub all_empty : (sets : List (List ℕ)) → ((k : ℕ) → length (order_of sets k) ≡ 0) →
    sets ≡ replicate (length sets) []
all_empty [] none = refl
all_empty (xs ∷ sets) none =
    ap (λ ys. ys ∷ sets) (no_slot xs (none 0))
    ∙ ap (λ yss. [] ∷ yss) (all_empty sets (λ k. none (suc k)))

none_dirty : (i : IndexValue) (dirty : List Bool) (n : ℕ) →
    dirty_slots (sets_at i dirty (replicate n [])) ≡ 0
none_dirty i dirty zero = refl
none_dirty i dirty (suc n) = none_dirty i dirty n

pub all_counted : (g : GeometryValue) (dirty : List Bool) (first : IndexValue)
    (start : OrderValue) (index : IndexValue) (order : OrderValue) (count : ℕ) →
    Emptying g dirty first start index order count →
    order.sets ≡ replicate (length order.sets) [] →
    count ≡ dirty_slots (sets_at first dirty start.sets)
all_counted g dirty first start index order count e none =
    omega (
      arith,
      e.counted,
      ap (λ ys. dirty_slots (sets_at first dirty ys)) none,
      none_dirty first dirty (length order.sets),
    )

-- no count, no slot
pub listed_none : (sets : List (List ℕ)) → ListsFilled [] (counts_of sets) →
    (k : ℕ) → length (order_of sets k) ≡ 0
listed_none sets l k = counted sets (counts_of sets) k refl ∙ l.others k refl

-- another set stays empty
pub still_empty : (order left : OrderValue) (k : ℕ) → k < length order.sets →
    left ≡ with_order order k [] → ((j : ℕ) → j < k → length (order_of order.sets j) ≡ 0) →
    (j : ℕ) → j < k + 1 → length (order_of left.sets j) ≡ 0
still_empty order left k lt empty none j h =
    subst (λ (ys : List (List ℕ)). length (order_of ys j) ≡ 0)
    (sym (ap (λ (o : OrderValue). o.sets) empty))
    (same_or (length (order_of (set order.sets k []) j) ≡ 0) j k
    (λ q. ap (λ (n : ℕ). length (order_of (set order.sets k []) n)) q
    ∙ ap (λ (xs : List ℕ). length xs) (order_same order.sets k [] lt))
    (λ ne. ap (λ (xs : List ℕ). length xs) (order_other order.sets k [] lt j ne)
    ∙ none j (omega (arith, h, ne))))

-- at first nothing is emptied
pub emptying_none : (g : GeometryValue) (dirty : List Bool) (index : IndexValue)
    (order : OrderValue) → IsHeld g index order.sets →
    ((k : ℕ) → length (order_of order.sets k) ≤ g.e) → Emptying g dirty index order index order 0
emptying_none g dirty index order held few = record {
  held = held;
  slots = refl;
  rest = refl;
  sets = refl;
  few = few;
  counted = omega arith;
}

more_dirty : (xs : List Slot) (sets : List (List Slot)) →
    dirty_slots (xs ∷ sets) ≡ dirty_in xs + dirty_slots sets
more_dirty xs sets = sum_by-cons dirty_in xs sets

-- how many slots can be dirty
pub few_dirty : (index : IndexValue) (dirty : List Bool) (m : ℕ) (sets : List (List ℕ)) →
    ((k : ℕ) → length (order_of sets k) ≤ m) → dirty_slots (sets_at index dirty sets)
    ≤ m * length sets
few_dirty index dirty m [] few = omega arith
few_dirty index dirty m (xs ∷ sets) few = omega (
  arith,
  few 0,
  dirty_few index dirty xs,
  more_dirty (set_at index dirty xs) (sets_at index dirty sets),
  few_dirty index dirty m sets (λ k. few (suc k)),
)

-- at the end all are
pub all_emptied : (g : GeometryValue) (dirty : List Bool) (first : IndexValue)
    (start : OrderValue) (index : IndexValue) (order : OrderValue) (count : ℕ) →
    Emptying g dirty first start index order count →
    ((k : ℕ) → length (order_of order.sets k) ≡ 0) →
    order ≡ record start { sets = replicate (length start.sets) [] }
all_emptied g dirty first start index order count e none =
    e.rest ∙ ap (λ ys. record start { sets = ys })
    (all_empty order.sets none ∙ ap (λ n. replicate n []) e.sets)

-- no set from a number on is there
past_all : (sets : List (List ℕ)) (k : ℕ) → length sets ≤ k → length (order_of sets k) ≡ 0
past_all [] zero le = refl
past_all [] (suc k) le = refl
past_all (xs ∷ sets) zero le = absurd (omega (arith, le))
past_all (xs ∷ sets) (suc k) le = past_all sets k (omega (arith, le))

pub none_from : (sets : List (List ℕ)) (n : ℕ) → length sets ≤ n →
    ((k : ℕ) → k < n → length (order_of sets k) ≡ 0) → (k : ℕ) → length (order_of sets k) ≡ 0
none_from sets n le none k = elim (cases_lt k n) [
  | inl lt ↦ none k lt
  | inr ge ↦ past_all sets k (omega (arith, le, ge))
]

-- the listed sets that are still to come
pub listed_start : (sets counts : List ℕ) → ListsFilled sets counts →
    ListsFilled (drop 0 sets) counts
listed_start sets counts l = l

pub listed_within : (listed : List ℕ) (sets : List (List ℕ)) (i : ℕ) → i < length listed →
    ListsFilled (drop i listed) (counts_of sets) → get_or listed i 0 < length sets
listed_within listed sets i lt l = omega (
  arith,
  length-map sets (λ (order : List ℕ). length order),
  All-head (λ j. j < length (counts_of sets)) (get_or listed i 0) (drop (i + 1) listed)
      (next_listed listed (counts_of sets) i lt l).within,
)

pub still_listed : (listed : List ℕ) (order left : OrderValue) (i : ℕ) → i < length listed →
    ListsFilled (drop i listed) (counts_of order.sets) →
    left ≡ with_order order (get_or listed i 0) [] →
    ListsFilled (drop (i + 1) listed) (counts_of left.sets)
still_listed listed order left i lt l empty =
    subst (λ (counts : List ℕ). ListsFilled (drop (i + 1) listed) counts)
    (sym (ap (λ (o : OrderValue). counts_of o.sets) empty
    ∙ counts_set order.sets (get_or listed i 0) []))
    (emptied (get_or listed i 0) (drop (i + 1) listed) (counts_of order.sets)
    (next_listed listed (counts_of order.sets) i lt l))

pub listed_all : (listed : List ℕ) (sets : List (List ℕ)) (i : ℕ) → length listed ≤ i →
    ListsFilled (drop i listed) (counts_of sets) → ListsFilled [] (counts_of sets)
listed_all listed sets i le l =
    subst (λ (xs : List ℕ). ListsFilled xs (counts_of sets)) (drop_all i listed le) l
