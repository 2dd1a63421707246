-- A new system, a step and a flush of a system, as its caches see them and as their machines see
-- them.
use Rattle.std.proofs.Common.{◌≡◌, ℕ, ◌+◌, not, Bool, List, [], ◌∷◌, ◌++◌, Option, Some, None, sym}
use Rattle.std.proofs.Common.{◌∙◌, ap, subst, arith, length, length-append}
use Rattle.std.specs.Prelude.{sum, count_by, is_none, MatchOption}
use Rattle.std.proofs.lemmas.List.Sums.{sum_by_push}
use Rattle.trace_core.specs.declared.events.Ref.{Ref}
use Rattle.trace_core.specs.declared.events.Event.{Event}
use Rattle.trace_core.specs.declared.events.Event.TheVariants as event
use Rattle.trace_core.specs.Events.{one_if, references_in}
use Rattle.cache_core.specs.declared.system.plan.PlannedCache.{PlannedCache}
use Rattle.cache_core.specs.declared.system.plan.CacheName.TheVariants.{L1I, L1D, L1U}
use Rattle.cache_core.specs.declared.system.system_cache.SystemCache.{SystemCache}
use Rattle.cache_core.specs.cache.Machine.{Machine, run, dirty_count}
use Rattle.cache_core.specs.system.Plans.{PlannedCaches, IsPlan}
use Rattle.cache_core.specs.system.SystemStands.{system_cache_contents, SystemStandsFor}
use Rattle.cache_core.specs.internal.system.CacheSteps.{Empties}
use Rattle.cache_core.specs.system.Systems.{machine_of, events_for, first_level_references}
use Rattle.cache_core.specs.system.Systems.{lower_events, flush_counts, flush_copybacks, is_taken}
use Rattle.cache_core.specs.system.SystemSteps.{SystemValue}
use Rattle.cache_core.specs.internal.system.SystemSteps.{present_refs, AccessesFirstLevel}
use Rattle.cache_core.specs.internal.system.SystemSteps.{AllDescend, EmptiesCache, IsNewSystemCache}
use Rattle.cache_core.specs.internal.system.SystemSteps.{IsNewCache, accesses_of}
use Rattle.cache_core.specs.internal.system.Counted.{accesses}
use Rattle.cache_core.proofs.cache.RunLaw.{start_law, flush_run}
use Rattle.cache_core.proofs.Pushes.{count_by_push}
use Rattle.cache_core.proofs.system.SystemPushes.{counts_flush, flush_counts_flush}
use Rattle.cache_core.proofs.system.SystemPushes.{flush_counts_taken, flush_counts_refs}
use Rattle.cache_core.proofs.system.SystemPushes.{events_flush, references_push, references_flush}
use Rattle.cache_core.proofs.system.SystemPushes.{lower_events_push, lower_events_flush, with_refs}
use Rattle.cache_core.proofs.system.SystemPushes.{memory_flush}
use Rattle.cache_core.proofs.system.FirstLevelLaw.{Kept, KeptIfPlanned, with_counts, stands_of}
use Rattle.cache_core.proofs.system.FirstLevelLaw.{down_list, FirstKept, first_keeps}
use Rattle.cache_core.proofs.system.LowerLaw.{Lower, lower_after}

-- how many dirty lines the flushes of a list find in all caches
abbrev pub flushed_all : PlannedCaches → ℕ → List Event → ℕ
flushed_all plan seed events =
    flush_copybacks seed plan.i (events_for L1I events) + flush_copybacks seed plan.d
    (events_for L1D events)
    + flush_copybacks seed plan.u (events_for L1U events) + flush_copybacks seed plan.second
    (lower_events plan seed events)

-- a reference that no cache takes
abbrev pub is_untaken : PlannedCaches → Ref → Bool
is_untaken plan ref = not (is_taken plan ref)

-- the caches and counts of a system after a list of events, without the number of its steps
record SystemKept (plan : PlannedCaches) (seed : ℕ) (events : List Event)
    (v : SystemValue) : Type 0 where
  i : KeptIfPlanned seed plan.i (events_for L1I events) v.i
  d : KeptIfPlanned seed plan.d (events_for L1D events) v.d
  u : KeptIfPlanned seed plan.u (events_for L1U events) v.u
  lower : Lower seed plan.second (lower_events plan seed events) (flushed_all plan seed events)
      v.second v.memory
  bypassed : v.bypassed ≡ count_by (is_untaken plan) (references_in events)

module _ (plan : PlannedCaches) (seed : ℕ) where
  kept_of : (events : List Event) (v : SystemValue) → SystemStandsFor plan seed events v →
      SystemKept plan seed events v
  kept_of events v s = grind (arith, with_counts)

  stands_kept : (events : List Event) (v : SystemValue) → SystemKept plan seed events v →
      v.steps ≡ length events → SystemStandsFor plan seed events v
  stands_kept events v k steps = grind (arith, stands_of)

-- a new system
new_cache : (seed : ℕ) (planned : Option PlannedCache) (cache : Option SystemCache) →
    IsNewCache seed planned cache → KeptIfPlanned seed planned [] cache
new_cache seed None cache n = n
new_cache seed (Some planned) cache n =
    let new : IsNewSystemCache seed planned n.0 = n.2 in
    let stands = start_law (machine_of seed planned) (system_cache_contents n.0) new.design
    new.policy new.random_numbers new.empty in
    (n.0, n.1, record { stands = stands; counts = new.counts })

-- a new cache has counted no access
pub none_counted : (seed : ℕ) (planned : Option PlannedCache) (cache : Option SystemCache) →
    IsNewCache seed planned cache → accesses_of cache ≡ 0
none_counted seed None cache n = ap accesses_of n
none_counted seed (Some planned) cache n =
    let new : IsNewSystemCache seed planned n.0 = n.2 in
    ap accesses_of n.1 ∙ ap accesses new.counts

pub new_law : (plan : PlannedCaches) (seed : ℕ) (v : SystemValue) →
    IsNewCache seed plan.i v.i → IsNewCache seed plan.d v.d → IsNewCache seed plan.u v.u →
    IsNewCache seed plan.second v.second → v.memory ≡ record { reads = 0; writes = 0 } →
    v.bypassed ≡ 0 → v.steps ≡ 0 → SystemStandsFor plan seed [] v
new_law plan seed v i d u second memory bypassed steps =
    let kept : SystemKept plan seed [] v = grind (arith, new_cache) in
    stands_kept plan seed [] v kept steps

-- a step
module _ (plan : PlannedCaches) (seed : ℕ) (events : List Event) (ref : Ref) where
  -- the events with the reference
  abbrev more : List Event
  more = events ++ event.Reference ref ∷ []

  -- no dirty line is flushed
  flushed_step : flushed_all plan seed events ≡ flushed_all plan seed more
  flushed_step = omega (
    arith,
    ap sum (flush_counts_taken seed L1I plan.i events ref),
    ap sum (flush_counts_taken seed L1D plan.d events ref),
    ap sum (flush_counts_taken seed L1U plan.u events ref),
    ap (flush_copybacks seed plan.second) (lower_events_push plan seed events ref)
        ∙ ap sum (flush_counts_refs seed plan.second (lower_events plan seed events)
        (first_level_references plan seed events ref)),
  )

  bypassed_step : (old new : ℕ) (down : Bool) → new ≡ old + one_if down →
      down ≡ is_untaken plan ref →
      old ≡ count_by (is_untaken plan) (references_in events) → new ≡ count_by (is_untaken plan)
      (references_in more)
  bypassed_step old new down moved untaken before = grind (arith, references_push, count_by_push)

  lower_step : (old new : SystemValue) (down : Option (List (Option Ref))) → IsPlan plan →
      SystemKept plan seed events old →
      down_list down ≡ first_level_references plan seed events ref →
      MatchOption down ((new.second ≡ old.second) × (new.memory ≡ old.memory))
      (λ refs. AllDescend (present_refs refs) old.second old.memory new.second new.memory) →
      Lower seed plan.second (lower_events plan seed more) (flushed_all plan seed more)
      new.second new.memory
  lower_step old new down p k all_sent l =
      let moved =
      lower_after seed (flushed_all plan seed events) plan.second (lower_events plan seed events)
      old.second new.second old.memory new.memory down p.second
      k.lower l in
      let to : with_refs (lower_events plan seed events) (down_list down) ≡
      lower_events plan seed more =
      ap (with_refs (lower_events plan seed events)) all_sent ∙
      sym (lower_events_push plan seed events ref) in
      grind (arith, flushed_step)

-- the first level after a reference
pub first_after : (plan : PlannedCaches) (seed : ℕ) (events : List Event) (old : SystemValue)
    (ref : Ref) (down : Option (List (Option Ref)))
    (i d u : Option SystemCache) → IsPlan plan → SystemStandsFor plan seed events old →
    AccessesFirstLevel old.i old.d old.u ref down i d u →
    FirstKept seed plan.i plan.d plan.u events ref down i d u
first_after plan seed events old ref down i d u p s f =
    let k = kept_of plan seed events old s in
    first_keeps seed events ref down old.i old.d old.u i d u plan.i plan.d plan.u p.i p.d p.u
    p.apart k.i k.d k.u f

pub step_law : (plan : PlannedCaches) (seed : ℕ) (events : List Event) (old : SystemValue)
    (ref : Ref) (new : SystemValue) (down : Option (List (Option Ref))) →
    IsPlan plan → SystemStandsFor plan seed events old →
    AccessesFirstLevel old.i old.d old.u ref down new.i new.d new.u →
    MatchOption down ((new.second ≡ old.second) × (new.memory ≡ old.memory))
    (λ refs. AllDescend (present_refs refs) old.second old.memory new.second new.memory) →
    new.bypassed ≡ old.bypassed + one_if (is_none down) → new.steps ≡ old.steps + 1 →
    SystemStandsFor plan seed (events ++ event.Reference ref ∷ []) new
step_law plan seed events old ref new down p s first lower bypassed steps =
    let k = kept_of plan seed events old s in
    let f = first_after plan seed events old ref down new.i new.d new.u p s first in
    stands_kept plan seed (events ++ event.Reference ref ∷ []) new (record {
      i = f.i_kept;
      d = f.d_kept;
      u = f.u_kept;
      lower = lower_step plan seed events ref old new down p k f.all_sent lower;
      bypassed = bypassed_step plan seed events ref old.bypassed new.bypassed (is_none down)
          bypassed f.untaken k.bypassed;
    })
    (omega (arith, steps, s.steps, length-append events (event.Reference ref ∷ [])))

-- a flush
record Emptied (m : Machine) (events : List Event) (dirty : ℕ) (new : SystemCache) : Type 0 where
  kept : Kept m (events ++ event.Flush ∷ []) new
  found : dirty ≡ dirty_count (run m events)

empties : (m : Machine) (events : List Event) (old : SystemCache) (dirty : ℕ) (new : SystemCache) →
    Kept m events old → Empties old dirty new →
    Emptied m events dirty new
empties m events old dirty new k e =
    grind (
      arith,
      flush_run m events (system_cache_contents old) dirty (system_cache_contents new)
          k.stands e.flush,
      counts_flush m events,
    )

-- a cache that was flushed between two lists of the events that come to it
record FlushedBetween (seed : ℕ) (planned : Option PlannedCache) (before after : List Event)
    (dirty : ℕ) (new : Option SystemCache) : Type 0 where
  kept : KeptIfPlanned seed planned after new
  found : flush_copybacks seed planned after ≡ flush_copybacks seed planned before + dirty

emptied_if_planned : (seed : ℕ) (planned : Option PlannedCache) (events after : List Event)
    (cache : Option SystemCache) (dirty : ℕ)
    (new : Option SystemCache) → after ≡ events ++ event.Flush ∷ [] →
    KeptIfPlanned seed planned events cache → EmptiesCache cache dirty new →
    FlushedBetween seed planned events after dirty new
emptied_if_planned seed None events after cache dirty new is k e = grind arith
emptied_if_planned seed (Some planned) events after cache dirty new is k e =
    let m = machine_of seed planned in
    let f = subst (λ (s : Option SystemCache). EmptiesCache s dirty new) k.1 e in
    let r = empties m events k.0 dirty f.0 k.2 f.2 in
    rw is record {
      kept = (f.0, f.1, r.kept);
      found =
          ap sum (flush_counts_flush m events) ∙ sum_by_push (λ n. n) (flush_counts m events)
          (dirty_count (run m events))
          ∙ ap (λ n. flush_copybacks seed (Some planned) events + n) (sym r.found);
    }

pub system_flush_law : (plan : PlannedCaches) (seed : ℕ) (events : List Event)
    (old new : SystemValue) (i d u second : ℕ) → SystemStandsFor plan seed events old →
    EmptiesCache old.i i new.i → EmptiesCache old.d d new.d → EmptiesCache old.u u new.u →
    EmptiesCache old.second second new.second →
    new.memory ≡ record old.memory { writes = old.memory.writes + (i + d + u + second) } →
    new.bypassed ≡ old.bypassed → new.steps ≡ old.steps + 1 →
    SystemStandsFor plan seed (events ++ event.Flush ∷ []) new
system_flush_law plan seed events old new i d u second s of_i of_d of_u of_second memory
    bypassed steps =
    let k = kept_of plan seed events old s in
    let lower = lower_events plan seed events in
    let kept : SystemKept plan seed (events ++ event.Flush ∷ []) new = grind (
      arith,
      emptied_if_planned seed plan.i (events_for L1I events) _ old.i i new.i
          (events_flush L1I events) k.i of_i,
      emptied_if_planned seed plan.d (events_for L1D events) _ old.d d new.d
          (events_flush L1D events) k.d of_d,
      emptied_if_planned seed plan.u (events_for L1U events) _ old.u u new.u
          (events_flush L1U events) k.u of_u,
      emptied_if_planned seed plan.second lower _ old.second second new.second
          (lower_events_flush plan seed events) k.lower.kept of_second,
      lower_events_flush,
      memory_flush,
      references_flush,
    ) in
    stands_kept plan seed (events ++ event.Flush ∷ []) new kept
    (omega (arith, steps, s.steps, length-append events (event.Flush ∷ [])))
