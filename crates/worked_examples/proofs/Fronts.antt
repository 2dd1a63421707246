-- A full set that gives up its front.
use Rattle.std.proofs.Common.{◌≡◌, ℕ, ◌+◌, ◌<◌, List, [], ◌∷◌, Some, None, length, take, arith}
use Rattle.std.proofs.Common.{refl}
use Rattle.std.specs.Prelude.{slice_index_or, slice_set}
use Rattle.std.proofs.lemmas.List.{take_all}
use Rattle.std.proofs.lemmas.List.Sorted.{IsPermutation-refl}
use Rattle.cache_core.specs.declared.outcome.Slot.{Slot}
use Rattle.cache_core.specs.cache.Order.{TakesIn}

pub front_exchanged : (s : List Slot) (n : ℕ) (slot none : Slot) → n ≡ length s → 0 < length s
    → TakesIn None 0 (length s) (take n s) slot (Some (slice_index_or s 0 none))
    (take (n + 1) (slice_set s 0 slot))
front_exchanged [] n slot none e h = absurd (omega (arith, h))
front_exchanged (x ∷ xs) n slot none e h =
    let t : take n (x ∷ xs) ≡ x ∷ xs = take_all n (x ∷ xs) (omega (arith, e)) in
    let u : take (n + 1) (slice_set (x ∷ xs) 0 slot) ≡ slot ∷ xs =
    take_all (n + 1) (slot ∷ xs) (omega (arith, e)) in
    rw (u, t) (refl, (xs, IsPermutation-refl (x ∷ xs), IsPermutation-refl (slot ∷ xs)))
