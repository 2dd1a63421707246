-- One more event at the end of a list.
use Rattle.std.proofs.Common.{◌≡◌, ℕ, ◌+◌, ◌<◌, cond, Bool, List, [], ◌∷◌, ◌++◌, map, take, length}
use Rattle.std.proofs.Common.{get_or, refl, ap}
use Rattle.std.specs.Prelude.{fold, count_by}
use Rattle.std.proofs.lemmas.List.{take_more, map-append}
use Rattle.std.proofs.lemmas.List.Sums.{sum_by_push}
use Rattle.trace_core.specs.declared.events.Ref.{Ref}
use Rattle.trace_core.specs.declared.events.Event.{Event}
use Rattle.trace_core.specs.declared.events.Event.TheVariants as event
use Rattle.cache_core.specs.cache.Machine.{Machine, MachineState, start, run, next, step}
use Rattle.cache_core.specs.cache.Machine.{with_effects_from, with_effects}

pub count_by_push : {X : Type 0} (p : X → Bool) (xs : List X) (x : X) →
    count_by p (xs ++ x ∷ []) ≡ count_by p xs + cond (p x) 1 0
count_by_push p xs x = sum_by_push (λ y. cond (p y) 1 0) xs x

with_effects_push_from : (m : Machine) (st : MachineState) (events : List Event) (ref : Ref) →
    with_effects_from m st (events ++ event.Reference ref ∷ []) ≡ with_effects_from m st events ++
    (ref, (step m (fold (next m) st events) ref).effect) ∷ []
with_effects_push_from m st [] ref = refl
with_effects_push_from m st (event.Reference r ∷ events) ref =
    cc (with_effects_push_from m (step m st r).after events ref)
with_effects_push_from m st (event.Flush ∷ events) ref =
    with_effects_push_from m (next m st event.Flush) events ref

pub with_effects_push : (m : Machine) (events : List Event) (ref : Ref) →
    with_effects m (events ++ event.Reference ref ∷ []) ≡ with_effects m events ++
    (ref, (step m (run m events) ref).effect) ∷ []
with_effects_push m events ref = with_effects_push_from m start events ref

with_effects_flush_from : (m : Machine) (st : MachineState) (events : List Event) →
    with_effects_from m st (events ++ event.Flush ∷ []) ≡ with_effects_from m st events
with_effects_flush_from m st [] = refl
with_effects_flush_from m st (event.Reference r ∷ events) =
    ap (λ xs. (r, (step m st r).effect) ∷ xs) (with_effects_flush_from m (step m st r).after events)
with_effects_flush_from m st (event.Flush ∷ events) =
    with_effects_flush_from m (next m st event.Flush) events

pub with_effects_flush : (m : Machine) (events : List Event) →
    with_effects m (events ++ event.Flush ∷ []) ≡ with_effects m events
with_effects_flush m events = with_effects_flush_from m start events

pub taken_more : (refs : List Ref) (i : ℕ) (d : Ref) → i < length refs →
    map (λ x. event.Reference x) (take (i + 1) refs) ≡ map (λ x. event.Reference x) (take i refs) ++
    event.Reference (get_or refs i d) ∷ []
taken_more refs i d h = cc (
  take_more refs i d h,
  map-append (λ x. event.Reference x) (take i refs)
      (get_or refs i d ∷ []),
)
