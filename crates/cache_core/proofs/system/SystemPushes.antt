-- A system's lists of events and counts, with one more event.
use Rattle.std.proofs.Common.{◌≡◌, ℕ, ◌+◌, Bool, true, false, List, [], ◌∷◌, ◌++◌, map, Option}
use Rattle.std.proofs.Common.{refl, sym, ◌∙◌, ap, ap₂, arith, add_assoc, append_assoc, append-nil}
use Rattle.std.specs.Prelude.{fold, sum, is_some}
use Rattle.std.specs.Option.{option_map}
use Rattle.std.proofs.lemmas.Grind.{flat_map-append}
use Rattle.std.proofs.lemmas.List.Elements.{filter-append}
use Rattle.std.proofs.lemmas.List.Sums.{fold-append, sum_by_push}
use Rattle.trace_core.specs.declared.events.Access.{Access}
use Rattle.trace_core.specs.declared.events.Ref.{Ref}
use Rattle.trace_core.specs.declared.events.Event.{Event}
use Rattle.trace_core.specs.declared.events.Event.TheVariants as event
use Rattle.trace_core.specs.Events.{references_in}
use Rattle.cache_core.specs.declared.outcome.Slot.{Slot}
use Rattle.cache_core.specs.declared.system.plan.PlannedCache.{PlannedCache}
use Rattle.cache_core.specs.declared.system.plan.CacheName.{CacheName}
use Rattle.cache_core.specs.declared.system.stats.CacheStats.{CacheStats}
use Rattle.cache_core.specs.cache.Outcomes.{Effect}
use Rattle.cache_core.specs.cache.Machine.{Machine, MachineState, start, run, next, step}
use Rattle.cache_core.specs.cache.Machine.{with_effects, dirty_count}
use Rattle.cache_core.specs.system.Plans.{PlannedCaches}
use Rattle.cache_core.specs.system.CacheStats.{stats_from, stats_after_access, stats_after_flush}
use Rattle.cache_core.specs.system.Systems.{is_taken_by, is_event_of, events_for}
use Rattle.cache_core.specs.system.Systems.{first_level_references, lower_events_from, lower_events}
use Rattle.cache_core.specs.system.Systems.{to_memory, is_taken, flush_counts_from, flush_counts}
use Rattle.cache_core.specs.system.Systems.{flush_counts_if_planned, cache_stats}
use Rattle.cache_core.specs.system.Arrivals.{references_passed}
use Rattle.cache_core.proofs.Pushes.{with_effects_push, with_effects_flush}

-- the events of a cache of the first level
pub events_taken : (name : CacheName) (events : List Event) (ref : Ref) →
    is_taken_by name ref ≡ true →
    events_for name (events ++ event.Reference ref ∷ []) ≡ events_for name events ++
    event.Reference ref ∷ []
events_taken name events ref t =
    cc (filter-append (is_event_of name) events (event.Reference ref ∷ []), t)

pub events_left : (name : CacheName) (events : List Event) (ref : Ref) →
    is_taken_by name ref ≡ false →
    events_for name (events ++ event.Reference ref ∷ []) ≡ events_for name events
events_left name events ref t =
    cc (
      filter-append (is_event_of name) events (event.Reference ref ∷ []),
      t,
      append-nil (events_for name events),
    )

pub events_flush : (name : CacheName) (events : List Event) →
    events_for name (events ++ event.Flush ∷ []) ≡ events_for name events ++ event.Flush ∷ []
events_flush name events = filter-append (is_event_of name) events (event.Flush ∷ [])

-- these references behind some events
abbrev pub with_refs : List Event → List Ref → List Event
with_refs events refs = events ++ map (λ x. event.Reference x) refs

pub with_refs-cons : (events : List Event) (ref : Ref) (refs : List Ref) →
    with_refs (events ++ event.Reference ref ∷ []) refs ≡ with_refs events (ref ∷ refs)
with_refs-cons events ref refs = append_assoc events (event.Reference ref ∷ [])
    (map (λ x. event.Reference x) refs)

-- the dirty blocks that each flush finds
flush_counts_push_from : (m : Machine) (st : MachineState) (events : List Event) (ref : Ref) →
    flush_counts_from m st (events ++ event.Reference ref ∷ []) ≡ flush_counts_from m st events
flush_counts_push_from m st [] ref = refl
flush_counts_push_from m st (event.Reference r ∷ events) ref =
    flush_counts_push_from m (step m st r).after events ref
flush_counts_push_from m st (event.Flush ∷ events) ref =
    ap (λ ns. dirty_count st ∷ ns) (flush_counts_push_from m (next m st event.Flush) events ref)

flush_counts_flush_from : (m : Machine) (st : MachineState) (events : List Event) →
    flush_counts_from m st (events ++ event.Flush ∷ []) ≡ flush_counts_from m st events ++
    dirty_count (fold (next m) st events) ∷ []
flush_counts_flush_from m st [] = refl
flush_counts_flush_from m st (event.Reference r ∷ events) =
    flush_counts_flush_from m (step m st r).after events
flush_counts_flush_from m st (event.Flush ∷ events) =
    ap (λ ns. dirty_count st ∷ ns) (flush_counts_flush_from m (next m st event.Flush) events)

pub flush_counts_flush : (m : Machine) (events : List Event) →
    flush_counts m (events ++ event.Flush ∷ []) ≡ flush_counts m events ++
    dirty_count (run m events) ∷ []
flush_counts_flush m events = flush_counts_flush_from m start events

pub flush_counts_push : (seed : ℕ) (planned : Option PlannedCache) (events : List Event)
    (ref : Ref) →
    flush_counts_if_planned seed planned (events ++
    event.Reference ref ∷ []) ≡ flush_counts_if_planned seed planned events
flush_counts_push seed planned events ref = grind (arith, flush_counts_push_from)

pub flush_counts_taken : (seed : ℕ) (name : CacheName) (planned : Option PlannedCache)
    (events : List Event) (ref : Ref) →
    flush_counts_if_planned seed planned (events_for name (events ++ event.Reference ref ∷ []))
    ≡ flush_counts_if_planned seed planned (events_for name events)
flush_counts_taken seed name planned events ref = by_test (is_taken_by name ref) refl
  where
    counts : List Event → List ℕ
    counts = flush_counts_if_planned seed planned

    by_test : (b : Bool) → is_taken_by name ref ≡ b →
        counts (events_for name (events ++ event.Reference ref ∷ [])) ≡ counts
        (events_for name events)
    by_test true t = ap counts (events_taken name events ref t) ∙ flush_counts_push seed planned
        (events_for name events) ref
    by_test false t = ap counts (events_left name events ref t)

pub flush_counts_refs : (seed : ℕ) (planned : Option PlannedCache) (events : List Event)
    (refs : List Ref) →
    flush_counts_if_planned seed planned (with_refs events refs) ≡ flush_counts_if_planned seed
    planned events
flush_counts_refs seed planned events [] = ap (flush_counts_if_planned seed planned)
    (append-nil events)
flush_counts_refs seed planned events (ref ∷ refs) =
    ap (flush_counts_if_planned seed planned) (sym (with_refs-cons events ref refs))
    ∙ flush_counts_refs seed planned (events ++ event.Reference ref ∷ []) refs ∙
    flush_counts_push seed planned events ref

pub flush_counts_nil : (seed : ℕ) (planned : Option PlannedCache) →
    flush_counts_if_planned seed planned [] ≡ []
flush_counts_nil seed planned = grind arith

-- its statistics: an access and a flush may change places
pub flush_then_access : (access : Access) (hit : Bool) (evicted : Option Bool) (dirty : ℕ)
    (s : CacheStats) →
    stats_after_access access hit evicted (stats_after_flush dirty s) ≡ stats_after_flush dirty
    (stats_after_access access hit evicted s)
flush_then_access access hit evicted dirty s = grind arith

pub two_flushes : (m n : ℕ) (s : CacheStats) →
    stats_after_flush n (stats_after_flush m s) ≡ stats_after_flush (m + n) s
two_flushes m n s = ap (λ k. record s { copybacks = k }) (add_assoc s.copybacks m n)

-- one access more, by the effect of its reference
abbrev pub count_effect : CacheStats → Ref × Effect → CacheStats
count_effect s p = stats_after_access p.0.access p.1.hit
    (option_map (λ slot. slot.dirty) p.1.evicted) s

some_is : (evicted : Option Slot) →
    is_some evicted ≡ is_some (option_map (λ slot. slot.dirty) evicted)
some_is evicted = grind arith

stats_push : (all : List (Ref × Effect)) (p : Ref × Effect) →
    stats_from (all ++ p ∷ []) ≡ count_effect (stats_from all) p
stats_push all p = simp fold-append (cc (some_is p.1.evicted))

-- so the steps, one after another, count what is defined
pub stats_steps : (before all : List (Ref × Effect)) →
    fold count_effect (stats_from before) all ≡ stats_from (before ++ all)
stats_steps before [] = ap stats_from (sym (append-nil before))
stats_steps before (p ∷ all) = cc (
  stats_push before p,
  stats_steps (before ++ p ∷ []) all,
  append_assoc before (p ∷ []) all,
)

pub counts_push : (m : Machine) (events : List Event) (ref : Ref) →
    cache_stats m (events ++ event.Reference ref ∷ []) ≡ count_effect (cache_stats m events) (
      ref,
      (step m (run m events) ref).effect,
    )
counts_push m events ref =
    let effect = (step m (run m events) ref).effect in
    ap₂ (λ (ns : List ℕ) (all : List (Ref × Effect)). stats_after_flush (sum ns) (stats_from all))
    (flush_counts_push_from m start events ref)
    (with_effects_push m events ref)
    ∙ ap (stats_after_flush (sum (flush_counts m events))) (stats_push (with_effects m events)
    (ref, effect))
    ∙ sym (flush_then_access ref.access effect.hit (option_map (λ slot. slot.dirty) effect.evicted)
    (sum (flush_counts m events)) _)

pub counts_flush : (m : Machine) (events : List Event) →
    cache_stats m (events ++ event.Flush ∷ []) ≡ stats_after_flush (dirty_count (run m events))
    (cache_stats m events)
counts_flush m events =
    ap₂ (λ (ns : List ℕ) (all : List (Ref × Effect)). stats_after_flush (sum ns) (stats_from all))
    (flush_counts_flush m events) (with_effects_flush m events)
    ∙ ap (λ n. stats_after_flush n (stats_from (with_effects m events)))
    (sum_by_push (λ n. n) (flush_counts m events) (dirty_count (run m events)))
    ∙ sym (two_flushes (sum (flush_counts m events)) (dirty_count (run m events)) _)

-- the references
pub references_push : (events : List Event) (ref : Ref) →
    references_in (events ++ event.Reference ref ∷ []) ≡ references_in events ++ ref ∷ []
references_push [] ref = refl
references_push (event.Reference r ∷ events) ref = ap (λ xs. r ∷ xs) (references_push events ref)
references_push (event.Flush ∷ events) ref = references_push events ref

pub references_flush : (events : List Event) →
    references_in (events ++ event.Flush ∷ []) ≡ references_in events
references_flush [] = refl
references_flush (event.Reference r ∷ events) = ap (λ xs. r ∷ xs) (references_flush events)
references_flush (event.Flush ∷ events) = references_flush events

-- what is sent down from the first level
lower_events_push_from : (plan : PlannedCaches) (seed : ℕ) (earlier events : List Event)
    (ref : Ref) →
    lower_events_from plan seed earlier (events ++ event.Reference ref ∷ [])
    ≡ lower_events_from plan seed earlier events ++ map (λ x. event.Reference x)
    (first_level_references plan seed (earlier ++ events) ref)
lower_events_push_from plan seed earlier [] ref =
    cc (
      append-nil (map (λ x. event.Reference x) (first_level_references plan seed earlier ref)),
      append-nil earlier,
    )
lower_events_push_from plan seed earlier (event.Reference r ∷ events) ref =
    grind (
      arith,
      append_assoc,
      lower_events_push_from plan seed (earlier ++ event.Reference r ∷ []) events ref,
    )
lower_events_push_from plan seed earlier (event.Flush ∷ events) ref =
    grind (
      arith,
      append_assoc,
      lower_events_push_from plan seed (earlier ++ event.Flush ∷ []) events ref,
    )

pub lower_events_push : (plan : PlannedCaches) (seed : ℕ) (events : List Event) (ref : Ref) →
    lower_events plan seed (events ++ event.Reference ref ∷ []) ≡ lower_events plan seed events ++
    map (λ x. event.Reference x) (first_level_references plan seed events ref)
lower_events_push plan seed events ref = lower_events_push_from plan seed [] events ref

lower_events_flush_from : (plan : PlannedCaches) (seed : ℕ) (earlier events : List Event) →
    lower_events_from plan seed earlier (events ++ event.Flush ∷ []) ≡
    lower_events_from plan seed earlier events ++ event.Flush ∷ []
lower_events_flush_from plan seed earlier [] = refl
lower_events_flush_from plan seed earlier (event.Reference r ∷ events) =
    grind (
      arith,
      append_assoc,
      lower_events_flush_from plan seed (earlier ++ event.Reference r ∷ []) events,
    )
lower_events_flush_from plan seed earlier (event.Flush ∷ events) =
    ap (λ es. event.Flush ∷ es)
    (lower_events_flush_from plan seed (earlier ++ event.Flush ∷ []) events)

pub lower_events_flush : (plan : PlannedCaches) (seed : ℕ) (events : List Event) →
    lower_events plan seed (events ++ event.Flush ∷ []) ≡ lower_events plan seed events ++
    event.Flush ∷ []
lower_events_flush plan seed events = lower_events_flush_from plan seed [] events

-- what reaches memory
pub memory_push : (seed : ℕ) (planned : Option PlannedCache) (events : List Event) (ref : Ref) →
    to_memory seed planned (events ++ event.Reference ref ∷ []) ≡ to_memory seed planned events ++
    references_passed seed planned events ref
memory_push seed planned events ref = grind (
  arith,
  references_push,
  with_effects_push,
  flat_map-append,
)

pub memory_flush : (seed : ℕ) (planned : Option PlannedCache) (events : List Event) →
    to_memory seed planned (events ++ event.Flush ∷ []) ≡ to_memory seed planned events
memory_flush seed planned events = grind (arith, references_flush, with_effects_flush)

pub memory_nil : (seed : ℕ) (planned : Option PlannedCache) → to_memory seed planned [] ≡ []
memory_nil seed planned = grind arith

pub untaken_sent : (plan : PlannedCaches) (seed : ℕ) (events : List Event) (ref : Ref) →
    is_taken plan ref ≡ false → first_level_references plan seed events ref ≡ []
untaken_sent plan seed events ref e = grind arith
