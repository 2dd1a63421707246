-- The definition of each policy implies the definition of any policy: slots are neither made nor
-- lost, and one leaves a full set.
use Rattle.std.proofs.Common.{◌≡◌, ℕ, ◌+◌, ◌-◌, ◌%◌, ◌<◌, Bool, true, false, List, [], ◌∷◌, ◌++◌}
use Rattle.std.proofs.Common.{length, get_or, take, ◌≤◌, drop, Option, Some, None, sym, ◌∙◌, ap}
use Rattle.std.proofs.Common.{refl, arith, length-take, add-one, suc, set, length-set}
use Rattle.std.proofs.Common.{get_or-set_same, eqb, min, ⊎_elim}
use Rattle.std.specs.Bool.{then_some}
use Rattle.std.specs.Prelude.{IsPermutation, slice_get, slice_set}
use Rattle.std.specs.List.{remove}
use Rattle.std.proofs.lemmas.List.{get_or-take, take_more, take_all, drop_at, take_at, set_split}
use Rattle.std.proofs.lemmas.List.Sorted.{IsPermutation-sym, IsPermutation-remove}
use Rattle.std.proofs.lemmas.List.Sorted.{IsPermutation-to_front, IsPermutation-middle}
use Rattle.std.proofs.lemmas.Bool.{cases_lt}
use Rattle.std.proofs.lemmas.Bool.Decides.{eqb_tells}
use Rattle.std.proofs.lemmas.List.Edits.{length-remove}
use Rattle.std.proofs.lemmas.Option.{get_or_from_slice_get, slice_get-get_or}
use Rattle.cache_core.specs.declared.outcome.Slot.{Slot}
use Rattle.cache_core.specs.declared.design.Repl.{Repl}
use Rattle.cache_core.specs.declared.design.Repl.TheVariants.{Lru, Random}
use Rattle.cache_core.specs.cache.Order.{Moves, Touches, TakesIn, Inserts, Exchanges, with_slot_at}
use Rattle.cache_core.specs.cache.Order.{victim_at, with_dirty_at}
use Rattle.cache_core.specs.replacement.Rules.{Place, Victim, rules}

-- a prefix that ends at an index, turned right by one, brings what is there to the front
pub to_front : {X : Type 0} (s : List X) (at : ℕ) (r : List X) (d : X) → at < length s →
    r ≡ drop (length (take (at + 1) s) - 1) (take (at + 1) s) ++ take (length (take (at + 1) s) - 1)
    (take (at + 1) s) →
    r ++ drop (at + 1) s ≡ get_or s at d ∷ remove s at
to_front s at r d h e =
    let l : length (take at s) ≡ at = omega (arith, length-take at s) in
    let t = take_more s at d h in
    let n : length (take (at + 1) s) - 1 ≡ at = omega (arith, length-take (at + 1) s) in
    let e' : r ≡ drop at (take at s ++ get_or s at d ∷ []) ++
    take at (take at s ++ get_or s at d ∷ []) = e ∙ rw (n, t) refl in
    let a = drop_at (take at s) (get_or s at d ∷ []) at l in
    let b = take_at (take at s) (get_or s at d ∷ []) at l in
    rw (e', a, b, add-one) refl

pub remove_split : {X : Type 0} (xs : List X) (x : X) (ys : List X) (n : ℕ) → length xs ≡ n →
    remove (xs ++ x ∷ ys) n ≡ xs ++ ys
remove_split [] x ys n e = rw (sym e) refl
remove_split (z ∷ xs) x ys n e =
    rw (sym e) (ap (λ s. z ∷ s) (remove_split xs x ys (length xs) refl))

pub set_removed : {X : Type 0} (s : List X) (i : ℕ) (y : X) → i < length s →
    remove (set s i y) i ≡ remove s i
set_removed s i y h = cc (
  set_split s i y h,
  remove_split (take i s) y (drop (suc i) s) i (omega (arith, h, length-take i s)),
)

-- an element written over another, and then brought to the front
pub brought : {X : Type 0} (s : List X) (at : ℕ) (x : X) (r : List X) → at < length s →
    r ≡ drop (length (take (at + 1) (set s at x)) - 1) (take (at + 1) (set s at x))
    ++ take (length (take (at + 1) (set s at x)) - 1) (take (at + 1) (set s at x)) →
    r ++ drop (at + 1) (set s at x) ≡ x ∷ remove s at
brought s at x r h e = cc (
  to_front (set s at x) at r x (omega (arith, h, length-set s at x)) e,
  get_or-set_same s at x x h,
  set_removed s at x h,
)

-- a slot put in front of the first n, where the last one leaves if these are all
pub new_in_front : (s : List Slot) (n last : ℕ) (new d : Slot) → n ≤ length s →
    0 < length s → last ≡ min n (length s - 1) →
    TakesIn (Some Lru) 0 (length s) (take n s) new (then_some (eqb n (length s)) (get_or s last d))
    (take (n + 1) (new ∷ remove s last))
new_in_front s n last new d h some l =
    ⊎_elim (λ t. full t.0 t.1) (λ f. room f.0 f.1) (eqb_tells n (length s))
  where
    within : last < length s
    within = omega (arith, l)

    full : eqb n (length s) ≡ true → n ≡ length s →
        TakesIn (Some Lru) 0 (length s) (take n s) new
        (then_some (eqb n (length s)) (get_or s last d)) (take (n + 1) (new ∷ remove s last))
    full t q =
        let at : last ≡ length s - 1 = omega (arith, l, q) in
        let short : length (new ∷ remove s last) ≤ n + 1 =
        omega (arith, q, length-remove s last within) in
        rw (t, take_all n s (omega (arith, q)), take_all (n + 1) (new ∷ remove s last) short, at)
        (refl, (slice_get-get_or s (length s - 1) d (omega (arith, some)), refl))

    room : eqb n (length s) ≡ false → (n ≡ length s → ⊥) →
        TakesIn (Some Lru) 0 (length s) (take n s) new
        (then_some (eqb n (length s)) (get_or s last d)) (take (n + 1) (new ∷ remove s last))
    room f q =
        let free : n < length s = ⊎_elim (λ x. x)
        (λ (x : length s ≤ n). absurd (q (omega (arith, h, x)))) (cases_lt n (length s)) in
        let at : last ≡ n = omega (arith, l, free) in
        let long : length (take n s) ≡ n = omega (arith, free, length-take n s) in
        rw (f, at) (
          omega (arith, free, long),
          rw add-one (ap (λ z. new ∷ z) (take_at (take n s) (drop (suc n) s) n long)),
        )

-- a mark leaves as many slots
pub marked_length : (b : Bool) (slots : List Slot) (at : ℕ) →
    length (with_dirty_at b slots at) ≡ length slots
marked_length b slots at = grind (arith, length-set)

lawful_move : (p : Place) (old : List Slot) (at : ℕ) (new : List Slot) → at < length old →
    Moves p old at new → IsPermutation old new
lawful_move p old at new h t = grind (arith, IsPermutation-remove, get_or_from_slice_get)

pub lawful_touch : (policy : Option Repl) (old : List Slot) (at : ℕ) (new : List Slot) →
    at < length old → Touches policy old at new → IsPermutation old new
lawful_touch policy old at new h t = grind (arith, lawful_move)

inserted : (p : Place) (old : List Slot) (slot : Slot) →
    IsPermutation (slot ∷ old) (with_slot_at p slot None old)
inserted p old slot = grind (arith, IsPermutation-sym, IsPermutation-to_front)

pub lawful_insert : (policy : Option Repl) (old : List Slot) (slot : Slot) (new : List Slot) →
    Inserts policy old slot new → Inserts None old slot new
lawful_insert policy old slot new t = grind (arith, inserted)

-- one slot for another
exchanged : (p : Place) (old : List Slot) (at : ℕ) (slot : Slot) → at < length old →
    IsPermutation (slot ∷ remove old at) (with_slot_at p slot (Some at) old)
exchanged p old at slot h = grind (arith, set_split, IsPermutation-sym, IsPermutation-middle)

-- the victim is one of the slots
pub victim_within : (v : Victim) (number : ℕ) (old : List Slot) → 0 < length old →
    victim_at v number old < length old
victim_within v number old h = grind arith

pub lawful_exchange : (policy : Option Repl) (number v : ℕ) (old : List Slot) (slot gone : Slot)
    (new : List Slot) → 0 < length old →
    Exchanges policy number old slot gone new → Exchanges None v old slot gone new
lawful_exchange None number v old slot gone new h t = t
lawful_exchange (Some policy) number v old slot gone new h t =
    let at = victim_at (rules policy).victim number old in
    let within = victim_within (rules policy).victim number old h in (
      remove old at,
      IsPermutation-remove old at gone within (sym (get_or_from_slice_get old at gone gone t.0)),
      rw t.1 (exchanged (rules policy).placed old at slot within),
    )

-- what each policy says of a placing, the law says
pub lawful_place : (policy : Option Repl) (number v capacity : ℕ) (old : List Slot) (slot : Slot)
    (gone : Option Slot) (new : List Slot) → 0 < capacity →
    TakesIn policy number capacity old slot gone new → TakesIn None v capacity old slot gone new
lawful_place policy number v capacity old slot None new h t =
    (t.0, lawful_insert policy old slot new t.1)
lawful_place policy number v capacity old slot (Some gone) new h t =
    grind (arith, lawful_exchange policy number v old slot gone new (omega (arith, t.0)) t.1)

-- a slot written over one of a full set
pub exchange_full : (s : List Slot) (n number w : ℕ) (slot d : Slot) → n ≡ length s →
    0 < length s → number ≡ w →
    TakesIn (Some Random) w (length s) (take n s) slot (Some (get_or s (number % length s) d))
    (take (n + 1) (slice_set s (number % length s) slot))
exchange_full s n number w slot d e h i = grind (arith, take_all, length-set, slice_get-get_or)

-- what was written among the first n stands there
pub written : (n : ℕ) (xs : List Slot) (i : ℕ) (x : Slot) → i < length xs → i < n →
    slice_get (take n (slice_set xs i x)) i ≡ Some x
written n xs i x h lt =
    slice_get-get_or (take n (slice_set xs i x)) i x
    (omega (arith, length-take n (slice_set xs i x), length-set xs i x))
    ∙ ap Some (get_or-take n (slice_set xs i x) i x lt ∙ get_or-set_same xs i x x h)
