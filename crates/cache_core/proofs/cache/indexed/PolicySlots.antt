-- What a policy does to the order of the slots of a set is what it does to what they hold.
use Rattle.std.proofs.Common.{◌≡◌, ◌≢◌, ℕ, zero, suc, ◌<◌, Bool, true, false, eqb, List, []}
use Rattle.std.proofs.Common.{◌∷◌, ◌++◌, length, map, refl, sym, ◌∙◌, ap, subst, arith}
use Rattle.std.proofs.Common.{Some, None, ◌||◌}
use Rattle.std.proofs.Common.{length-append}
use Rattle.std.specs.Prelude.{slice_get, remove}
use Rattle.std.proofs.lemmas.Bool.{false≢true}
use Rattle.std.proofs.lemmas.List.{length-map}
use Rattle.block_index.specs.SlotLists.{has_slot, index_of_slot, AreOnce}
use Rattle.cache_core.specs.declared.outcome.Slot.{Slot}
use Rattle.cache_core.specs.declared.design.Repl.{Repl}
use Rattle.cache_core.specs.replacement.Rules.{Place, InFront, InPlace, Victim, Last, Drawn, rules}
use Rattle.cache_core.specs.cache.Order.{Moves, Touches, TakesIn, with_slot_at, victim_at}
use Rattle.cache_core.specs.internal.cache.SlotOrder.{with_moved, with_next, victim_index}
use Rattle.cache_core.proofs.cache.indexed.SlotsApart.{same_or, in_other, in_here, some_is}
use Rattle.cache_core.proofs.cache.indexed.SlotsApart.{removed_self, removed_other, once_remove}
use Rattle.cache_core.proofs.cache.indexed.SlotsApart.{length_remove_index, get_index, map_remove}
use Rattle.cache_core.proofs.cache.indexed.SlotsApart.{map_kept, map_changed, index_once}
use Rattle.cache_core.proofs.cache.indexed.SlotsApart.{not_in_tail}

-- a slot that goes elsewhere in the order of its set
pub moved_in : (p : Place) (s t : ℕ) (xs : List ℕ) → has_slot s xs ≡ true →
    has_slot t (with_moved p s xs) ≡ has_slot t xs
moved_in InFront s t xs i = same_or _ s t
    (λ q. subst (λ (u : ℕ). has_slot u (s ∷ remove xs (index_of_slot s xs)) ≡ has_slot u xs) q
    (in_here s (remove xs (index_of_slot s xs)) ∙ sym i))
    (λ ne. in_other t s (remove xs (index_of_slot s xs)) ne ∙ removed_other s t xs ne)
moved_in InPlace s t xs i = refl

pub moved_once : (p : Place) (s : ℕ) (xs : List ℕ) → AreOnce xs → AreOnce (with_moved p s xs)
moved_once InFront s xs once = (removed_self s xs once, once_remove (index_of_slot s xs) xs once)
moved_once InPlace s xs once = once

pub moved_length : (p : Place) (s : ℕ) (xs : List ℕ) → has_slot s xs ≡ true →
    length (with_moved p s xs) ≡ length xs
moved_length InFront s xs i = length_remove_index s xs i
moved_length InPlace s xs i = refl

-- a slot more in a set
push_self : (s : ℕ) (xs : List ℕ) → has_slot s (xs ++ s ∷ []) ≡ true
push_self s [] = in_here s []
push_self s (x ∷ xs) = let rest = push_self s xs in grind arith

push_other : (s t : ℕ) (xs : List ℕ) → s ≢ t → has_slot t (xs ++ s ∷ []) ≡ has_slot t xs
push_other s t [] ne = in_other t s [] ne
push_other s t (x ∷ xs) ne = ap (λ (b : Bool). eqb x t || b) (push_other s t xs ne)

push_once : (s : ℕ) (xs : List ℕ) → has_slot s xs ≡ false → AreOnce xs → AreOnce (xs ++ s ∷ [])
push_once s [] none once = (refl, tt)
push_once s (x ∷ xs) none once = (
  push_other s x xs (λ q. false≢true (sym none
      ∙ subst (λ (u : ℕ). has_slot u (x ∷ xs) ≡ true) (sym q) (in_here x xs))) ∙ once.0,
  push_once s xs (not_in_tail s x xs none) once.1,
)

pub next_self : (p : Place) (s : ℕ) (xs : List ℕ) → has_slot s (with_next p s xs) ≡ true
next_self InFront s xs = in_here s xs
next_self InPlace s xs = push_self s xs

pub next_other : (p : Place) (s t : ℕ) (xs : List ℕ) → s ≢ t →
    has_slot t (with_next p s xs) ≡ has_slot t xs
next_other InFront s t xs ne = in_other t s xs ne
next_other InPlace s t xs ne = push_other s t xs ne

pub next_once : (p : Place) (s : ℕ) (xs : List ℕ) → has_slot s xs ≡ false → AreOnce xs →
    AreOnce (with_next p s xs)
next_once InFront s xs none once = (none, once)
next_once InPlace s xs none once = push_once s xs none once

pub next_length : (p : Place) (s : ℕ) (xs : List ℕ) → length (with_next p s xs) ≡ suc (length xs)
next_length InFront s xs = refl
next_length InPlace s xs = omega (arith, length-append xs (s ∷ []))

-- what the slots hold
pub get_held : (f : ℕ → Slot) (xs : List ℕ) (i s : ℕ) → slice_get xs i ≡ Some s →
    slice_get (map f xs) i ≡ Some (f s)
get_held f [] i s e = absurd (cc)
get_held f (x ∷ xs) zero s e = ap (λ y. Some (f y)) (some_is x s e)
get_held f (x ∷ xs) (suc i) s e = get_held f xs i s e

map_push : (f : ℕ → Slot) (xs : List ℕ) (s : ℕ) → map f (xs ++ s ∷ []) ≡ map f xs ++ f s ∷ []
map_push f [] s = refl
map_push f (x ∷ xs) s = ap (λ ys. f x ∷ ys) (map_push f xs s)

moves : (p : Place) (f : ℕ → Slot) (s : ℕ) (xs : List ℕ) → has_slot s xs ≡ true →
    Moves p (map f xs) (index_of_slot s xs) (map f (with_moved p s xs))
moves InFront f s xs i = (
  f s,
  get_held f xs (index_of_slot s xs) s (get_index s xs i),
  ap (λ ys. f s ∷ ys) (map_remove f xs (index_of_slot s xs)),
)
moves InPlace f s xs i = refl

-- a touch of a slot
pub touches : (policy : Repl) (f : ℕ → Slot) (s : ℕ) (xs : List ℕ) → has_slot s xs ≡ true →
    Touches (Some policy) (map f xs) (index_of_slot s xs)
    (map f (with_moved (rules policy).touched s xs))
touches policy f s xs i = moves (rules policy).touched f s xs i

inserted : (p : Place) (f : ℕ → Slot) (s : ℕ) (xs : List ℕ) →
    map f (with_next p s xs) ≡ with_slot_at p (f s) None (map f xs)
inserted InFront f s xs = refl
inserted InPlace f s xs = map_push f xs s

-- a slot that a set gets
pub takes_in : (policy : Repl) (number capacity : ℕ) (f g : ℕ → Slot) (s : ℕ) (xs : List ℕ) →
    ((t : ℕ) → t ≢ s → g t ≡ f t) → has_slot s xs ≡ false → length xs < capacity →
    TakesIn (Some policy) number capacity (map f xs) (g s) None
    (map g (with_next (rules policy).placed s xs))
takes_in policy number capacity f g s xs same none lt = (
  omega (arith, lt, length-map xs f),
  inserted (rules policy).placed g s xs
      ∙ ap (with_slot_at (rules policy).placed (g s) None) (map_kept f g s xs same none),
)

exchanged : (p : Place) (f g : ℕ → Slot) (s : ℕ) (xs : List ℕ) →
    ((t : ℕ) → t ≢ s → g t ≡ f t) → AreOnce xs → has_slot s xs ≡ true →
    map g (with_moved p s xs) ≡ with_slot_at p (g s) (Some (index_of_slot s xs)) (map f xs)
exchanged InFront f g s xs same once i =
    ap (λ ys. g s ∷ ys)
    (map_kept f g s (remove xs (index_of_slot s xs)) same (removed_self s xs once)
    ∙ map_remove f xs (index_of_slot s xs))
exchanged InPlace f g s xs same once i = map_changed f g s xs same once i

victim_here : (v : Victim) (number : ℕ) (f : ℕ → Slot) (s : ℕ) (xs : List ℕ) → AreOnce xs →
    slice_get xs (victim_index v number (length xs)) ≡ Some s →
    index_of_slot s xs ≡ victim_at v number (map f xs)
victim_here Last number f s xs once e =
    rw (length-map xs f) (index_once xs (victim_index Last number (length xs)) s once e)
victim_here Drawn number f s xs once e =
    rw (length-map xs f) (index_once xs (victim_index Drawn number (length xs)) s once e)

-- a slot of a full set whose block leaves for another one
pub takes_over : (policy : Repl) (number capacity : ℕ) (f g : ℕ → Slot) (s : ℕ) (xs : List ℕ) →
    ((t : ℕ) → t ≢ s → g t ≡ f t) → AreOnce xs → has_slot s xs ≡ true → length xs ≡ capacity →
    slice_get xs (victim_index (rules policy).victim number (length xs)) ≡ Some s →
    TakesIn (Some policy) number capacity (map f xs) (g s) (Some (f s))
    (map g (with_moved (rules policy).placed s xs))
takes_over policy number capacity f g s xs same once i full e =
    let at = victim_here (rules policy).victim number f s xs once e in (
      length-map xs f ∙ full,
      (
        rw (← at) (get_held f xs (index_of_slot s xs) s (get_index s xs i)),
        rw (← at) (exchanged (rules policy).placed f g s xs same once i),
      ),
    )
