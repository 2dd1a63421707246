-- What an observer sees of one cache, and of one list of arrivals after another.
use Rattle.std.proofs.Common.{◌≡◌, ℕ, List, [], ◌∷◌, ◌++◌, Option, Some, None, refl, sym, ap, ◌∙◌}
use Rattle.std.proofs.Common.{subst, append_assoc, Bool, true, false, ◌&&◌, ◌||◌, not, cond, length}
use Rattle.std.proofs.Common.{get_or, arith}
use Rattle.std.specs.Prelude.{is_some}
use Rattle.std.proofs.lemmas.Bool.{true≢false}
use Rattle.std.proofs.lemmas.List.{map-append}
use Rattle.trace_core.specs.declared.events.Ref.{Ref}
use Rattle.trace_core.specs.declared.events.Event.{Event}
use Rattle.trace_core.specs.declared.events.Event.TheVariants as event
use Rattle.trace_core.specs.Events.{is_fetch}
use Rattle.cache_core.specs.declared.system.arrival.Arrival.{Arrival}
use Rattle.cache_core.specs.declared.system.arrival.Arrival.TheVariants.{Bypassed, Flush, Memory}
use Rattle.cache_core.specs.declared.outcome.Outcome.{Outcome}
use Rattle.cache_core.specs.declared.system.plan.PlannedCache.{PlannedCache}
use Rattle.cache_core.specs.declared.system.plan.CacheName.{CacheName}
use Rattle.cache_core.specs.declared.system.plan.CacheName.TheVariants.{L1I, L1D, L1U, L2U}
use Rattle.cache_core.specs.declared.system.system_cache.SystemCache.{SystemCache}
use Rattle.cache_core.specs.declared.system.below.Memory.{Memory as SystemMemory}
use Rattle.cache_core.specs.system.Arrivals.{arrival_at, cache_arrivals, first_level_arrivals}
use Rattle.cache_core.specs.system.Arrivals.{all_arrivals_below, at_memory, first_arrivals}
use Rattle.cache_core.specs.system.Arrivals.{lower_arrivals, references_passed, flushes, Saw}
use Rattle.cache_core.specs.system.SystemStands.{system_cache_contents, PlannedCacheStandsFor}
use Rattle.cache_core.specs.internal.system.CacheSteps.{Enters, Empties}
use Rattle.cache_core.specs.cache.Machine.{run, step}
use Rattle.cache_core.specs.system.Plans.{IsPlan, IsPlannedCache, PlannedCaches}
use Rattle.cache_core.specs.cache.Stands.{CacheStandsFor}
use Rattle.cache_core.specs.system.Systems.{machine_of, events_for, is_taken, lower_events}
use Rattle.cache_core.specs.system.Systems.{first_level_references}
use Rattle.cache_core.specs.internal.system.SystemSteps.{present_refs, Descends}
use Rattle.cache_core.proofs.cache.DownLaw.{down_law}
use Rattle.cache_core.proofs.system.FirstLevelLaw.{present_refs_two}
use Rattle.cache_core.proofs.cache.RunLaw.{access_run, flush_run}

module _ {O : Type 0} (has_seen : O → List Arrival → Type 0) where
  pub saw_both : {old mid new : O} {xs ys : List Arrival} → Saw has_seen old xs mid →
      Saw has_seen mid ys new → Saw has_seen old (xs ++ ys) new
  saw_both {new = new} {xs} {ys} first second before h =
      subst (has_seen new) (append_assoc before xs ys) (second (before ++ xs) (first before h))

  -- what is sent below in two pieces
  pub saw_below : {old mid half new : O} {here : List Arrival} (first next : List Ref) →
      Saw has_seen old here mid →
      Saw has_seen mid (at_memory first) half → Saw has_seen half (at_memory next) new →
      Saw has_seen old (here ++ at_memory (first ++ next)) new
  saw_below {old} {new = new} {here} first next one two three =
      subst (λ (xs : List Arrival). Saw has_seen old (here ++ xs) new)
      (sym (map-append (λ ref. Memory ref) first next))
      (saw_both one (saw_both two three))

-- a cache that is there after a reference: what it stands for then, and what is seen
pub record Entered (seed : ℕ) (name : CacheName) (planned : Option PlannedCache)
    (events : List Event) (old : SystemCache) (ref : Ref)
    (outcome : Outcome) (new : SystemCache) : Type 0 where
  pub stands : PlannedCacheStandsFor seed planned (events ++ event.Reference ref ∷ []) (Some new)
  pub seen : arrival_at name old.cache.design.geometry ref outcome.hit
      outcome.evicted ∷ [] ≡ cache_arrivals seed name planned events ref
  pub sends : present_refs outcome.down ≡ references_passed seed planned events ref

pub entered : (seed : ℕ) (name : CacheName) (planned : Option PlannedCache) (events : List Event)
    (old : SystemCache) (ref : Ref) (outcome : Outcome)
    (new : SystemCache) → IsPlannedCache planned → PlannedCacheStandsFor seed planned events
    (Some old) → Enters old ref outcome new →
    Entered seed name planned events old ref outcome new
entered seed name None events old ref outcome new l s e = absurd cc
entered seed name (Some planned) events old ref outcome new l (there, is, s) e =
    let m = machine_of seed planned in
    let same : there ≡ old = cc in
    let stands : CacheStandsFor m events (system_cache_contents old) =
    subst (λ (c : SystemCache). CacheStandsFor m events (system_cache_contents c)) same s in
    let r = access_run m events (system_cache_contents old) ref outcome (system_cache_contents new)
    l.some stands e.access in
    let effect = (step m (run m events) ref).effect in
    record {
      stands = (new, refl, r.0);
      seen = cc (stands.design, r.1);
      sends = ap (λ (o : Outcome). present_refs o.down) r.1 ∙ present_refs_two effect.down
          (down_law m events ref);
    }

-- the second level after a reference that is sent down
pub descended : (seed : ℕ) (planned : Option PlannedCache) (events : List Event) (ref : Ref)
    (second : Option SystemCache) (memory : SystemMemory)
    (next : Option SystemCache) (after : SystemMemory) → IsPlannedCache planned →
    PlannedCacheStandsFor seed planned events second →
    Descends ref second memory next after → PlannedCacheStandsFor seed planned (events ++
    event.Reference ref ∷ []) next
descended seed None events ref None memory next after l s d = d.0
descended seed (Some planned) events ref None memory next after l (there, is, s) d = absurd cc
descended seed planned events ref (Some cache) memory next after l s (outcome, new, e, is, m) =
    rw is (entered seed L2U planned events cache ref outcome new l s e).stands

-- a cache that is flushed
pub emptied : (seed : ℕ) (name : CacheName) (planned : Option PlannedCache) (events : List Event)
    (old : SystemCache) (dirty : ℕ) (new : SystemCache) →
    PlannedCacheStandsFor seed planned events (Some old) → Empties old dirty new →
    Flush name dirty ∷ [] ≡ flushes seed name planned events
emptied seed name None events old dirty new s e = absurd cc
emptied seed name (Some planned) events old dirty new (there, is, s) e =
    let m = machine_of seed planned in
    let same : there ≡ old = cc in
    let stands : CacheStandsFor m events (system_cache_contents old) =
    subst (λ (c : SystemCache). CacheStandsFor m events (system_cache_contents c)) same s in
    ap (λ n. Flush name n ∷ []) (flush_run m events (system_cache_contents old) dirty
    (system_cache_contents new) stands e.flush).1

-- two references that are sent down
pub first_sent : (xs : List (Option Ref)) (x y : Ref) → length xs ≡ 2 → get_or xs 0 None ≡ Some x →
    get_or xs 1 None ≡ Some y → present_refs xs ≡ x ∷ y ∷ []
first_sent [] x y e f g = absurd (omega arith)
first_sent (a ∷ []) x y e f g = absurd (omega arith)
first_sent (a ∷ b ∷ []) x y e f g = rw (f, g) refl
first_sent (a ∷ b ∷ c ∷ xs) x y e f g = absurd (omega arith)

pub second_sent : (xs : List (Option Ref)) (y : Ref) → length xs ≡ 2 → get_or xs 0 None ≡ None →
    get_or xs 1 None ≡ Some y → present_refs xs ≡ y ∷ []
second_sent [] y e f g = absurd (omega arith)
second_sent (a ∷ []) y e f g = absurd (omega arith)
second_sent (a ∷ b ∷ []) y e f g = rw (f, g) refl
second_sent (a ∷ b ∷ c ∷ xs) y e f g = absurd (omega arith)

-- a cache is there where the plan has it
pub is_planned : (seed : ℕ) (planned : Option PlannedCache) (events : List Event)
    (cache : Option SystemCache) →
    PlannedCacheStandsFor seed planned events cache → is_some planned ≡ is_some cache
is_planned seed planned events cache s = grind arith

-- a reference at the first level is seen at the one cache that takes it
module _ (seed : ℕ) (events : List Event) (ref : Ref) where
  unified : (i d u : Option PlannedCache) → (is_some u && (is_some i || is_some d)) ≡ false →
      is_some u ≡ true →
      cache_arrivals seed L1U u (events_for L1U events) ref
      ≡ first_level_arrivals seed L1I i events ref ++ first_level_arrivals seed L1D d events ref ++
      first_level_arrivals seed L1U u events ref
  unified i d u apart there = grind arith

  at_fetch : (i d u : Option PlannedCache) → is_some u ≡ false → is_fetch ref.access ≡ true →
      cache_arrivals seed L1I i (events_for L1I events) ref
      ≡ first_level_arrivals seed L1I i events ref ++ first_level_arrivals seed L1D d events ref ++
      first_level_arrivals seed L1U u events ref
  at_fetch i d u none t = grind arith

  at_data : (i d u : Option PlannedCache) → is_some u ≡ false → is_fetch ref.access ≡ false →
      cache_arrivals seed L1D d (events_for L1D events) ref
      ≡ first_level_arrivals seed L1I i events ref ++ first_level_arrivals seed L1D d events ref ++
      first_level_arrivals seed L1U u events ref
  at_data i d u none t = grind arith

module _ (plan : PlannedCaches) (seed : ℕ) (events : List Event) (ref : Ref)
    (good : IsPlan plan) where
  pub seen_unified : is_some plan.u ≡ true → cache_arrivals seed L1U plan.u (events_for L1U events)
      ref ≡ first_arrivals plan seed events ref
  seen_unified there = unified seed events ref plan.i plan.d plan.u good.apart there

  pub seen_fetch : is_some plan.u ≡ false → is_fetch ref.access ≡ true →
      cache_arrivals seed L1I plan.i (events_for L1I events) ref ≡ first_arrivals plan
      seed events ref
  seen_fetch none t = at_fetch seed events ref plan.i plan.d plan.u none t

  pub seen_data : is_some plan.u ≡ false → is_fetch ref.access ≡ false →
      cache_arrivals seed L1D plan.d (events_for L1D events) ref ≡ first_arrivals plan
      seed events ref
  seen_data none t = at_data seed events ref plan.i plan.d plan.u none t

-- what is seen below the first level, where a cache of it takes the reference and where none does
module _ (plan : PlannedCaches) (seed : ℕ) (events : List Event) (ref : Ref) where
  abbrev lower : Bool → List Arrival
  lower taken = cond taken (all_arrivals_below seed plan.second (lower_events plan seed events)
      (first_level_references plan seed events ref)) (Bypassed ref ∷ [])

  pub seen_below : (refs : List Ref) → refs ≡ first_level_references plan seed events ref →
      false ≡ not (is_taken plan ref) →
      all_arrivals_below seed plan.second (lower_events plan seed events) refs ≡ lower_arrivals plan
      seed events ref
  seen_below refs e t = cc (e, by_test (is_taken plan ref) t)
    where
      by_test : (b : Bool) → false ≡ not b → lower true ≡ lower b
      by_test true t = refl
      by_test false t = absurd (true≢false (sym t))

  pub seen_bypassed : true ≡ not (is_taken plan ref) →
      Bypassed ref ∷ [] ≡ lower_arrivals plan seed events ref
  seen_bypassed t = by_test (is_taken plan ref) t
    where
      by_test : (b : Bool) → true ≡ not b → lower false ≡ lower b
      by_test true t = absurd (true≢false t)
      by_test false t = refl
