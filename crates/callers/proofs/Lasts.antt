-- A set that takes a slot in, and gives up its last one if it is full.
use Rattle.std.proofs.Common.{◌≡◌, ℕ, ◌+◌, ◌-◌, ◌<◌, List, [], ◌∷◌, ◌++◌, Some, None, length, take}
use Rattle.std.proofs.Common.{arith, ap, sym, ◌∙◌, length-take, length-set, get_or-set_same}
use Rattle.std.specs.Prelude.{slice_get, slice_index_or, slice_set}
use Rattle.std.proofs.lemmas.List.{get_or-take, take_all, take_more, take_more_set}
use Rattle.std.proofs.lemmas.Option.{slice_get-get_or}
use Rattle.std.proofs.lemmas.List.Sorted.{IsPermutation-sym, IsPermutation-to_front}
use Rattle.cache_core.specs.declared.outcome.Slot.{Slot}
use Rattle.cache_core.specs.cache.Order.{TakesIn}

pub last_exchanged : (s : List Slot) (n : ℕ) (slot none : Slot) → n ≡ length s → 0 < length s
    → TakesIn None 0 (length s) (take n s) slot (Some (slice_index_or s (length s - 1) none))
    (take (n + 1) (slice_set s (length s - 1) slot))
last_exchanged s n slot none e h =
    let i : ℕ = length s - 1 in
    let is_last : i < length s = omega (arith, h) in
    let more : n ≡ i + 1 = omega (arith, e, h) in
    let before : take n s ≡ take i s ++ slice_index_or s i none ∷ [] = ap (λ k. take k s) more ∙
    take_more s i none is_last in
    let whole : slice_set s i slot ≡ take i s ++ slot ∷ [] =
    sym (take_all (i + 1) (slice_set s i slot) (omega (arith, more, e, length-set s i slot))) ∙
    take_more_set s i slot is_last in
    let after : take (n + 1) (slice_set s i slot) ≡ take i s ++ slot ∷ [] =
    take_all (n + 1) (slice_set s i slot) (omega (arith, e, length-set s i slot)) ∙ whole in (
      omega (arith, e, length-take n s),
      (
        take i s,
        rw before (IsPermutation-to_front (take i s) _),
        rw after (IsPermutation-sym _ _ (IsPermutation-to_front (take i s) slot)),
      ),
    )

-- what was written among the first n stands there
pub written : (n : ℕ) (xs : List Slot) (i : ℕ) (x : Slot) → i < length xs → i < n →
    slice_get (take n (slice_set xs i x)) i ≡ Some x
written n xs i x h lt =
    slice_get-get_or (take n (slice_set xs i x)) i x
    (omega (arith, length-take n (slice_set xs i x), length-set xs i x))
    ∙ ap Some (get_or-take n (slice_set xs i x) i x lt ∙ get_or-set_same xs i x x h)
