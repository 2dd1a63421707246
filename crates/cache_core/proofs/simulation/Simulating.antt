-- How a simulation follows a list of events.
use Rattle.std.proofs.Common.{◌≡◌, ℕ, ◌+◌, ◌≤◌, Bool, cond, List, [], ◌∷◌, ◌++◌, length, refl, sym}
use Rattle.std.proofs.Common.{ap, ◌∙◌, arith}
use Rattle.std.specs.Prelude.{count_by, is_some}
use Rattle.std.proofs.lemmas.List.Sums.{sum_by-cons}
use Rattle.trace_core.specs.declared.events.Ref.{Ref}
use Rattle.trace_core.specs.declared.events.Event.{Event}
use Rattle.trace_core.specs.declared.events.Event.TheVariants as event
use Rattle.cache_core.specs.declared.design.WriteMode.TheVariants.{Back}
use Rattle.cache_core.specs.declared.outcome.Counts.{Counts}
use Rattle.cache_core.specs.declared.outcome.Outcome.{Outcome}
use Rattle.cache_core.specs.declared.replacement.Lru.{Lru as LruPolicy}
use Rattle.cache_core.specs.declared.simulation.Lookup.{Lookup}
use Rattle.cache_core.specs.declared.simulation.Lookup.TheVariants.{Hit, Miss, MissEviction}
use Rattle.cache_core.specs.declared.simulation.Simulation.{Simulation}
use Rattle.cache_core.specs.Geometry.{GeometryValue}
use Rattle.cache_core.specs.LruLaws.{lru_machine, occurrence_after}
use Rattle.cache_core.specs.cache.Stands.{CacheStandsFor}
use Rattle.cache_core.specs.cache.Machine.{Machine}
use Rattle.cache_core.specs.Simulation.{lookup_at, lru_policy, no_numbers, lru_contents}
use Rattle.cache_core.specs.Simulation.{counts_with, SimulationCountsWithin, SimulationStandsFor}
use Rattle.cache_core.specs.internal.cache.Lookups.{LooksUp}
use Rattle.cache_core.specs.cache.Slab.{CacheValue}
use Rattle.cache_core.specs.Windows.{Occurrence, counts, is_hit, occurrences_after}
use Rattle.cache_core.proofs.simulation.LruRun.{next_law}
use Rattle.cache_core.proofs.Occurrences.{sum_by-reference, occurrences-flush}
use Rattle.cache_core.proofs.cache.RunLaw.{access_run}

counts-reference : (g : GeometryValue) (events : List Event) (r : Ref)
    → counts g (events ++ event.Reference r ∷ []) ≡ counts_with (counts g events)
    (lookup_at g (occurrence_after g events r))
unfolding counts
counts-reference g events r = grind (arith, sum_by-reference)

-- one more reference at the cache goes as the windows say
pub looked_up : (g : GeometryValue) (events : List Event) (old new : CacheValue LruPolicy)
    (ref : Ref) (lookup : Lookup) → 1 ≤ g.e →
    CacheStandsFor (lru_machine g Back) events (lru_contents old) →
    LooksUp lru_policy no_numbers old ref lookup new →
    CacheStandsFor (lru_machine g Back) (events ++ event.Reference ref ∷ []) (lru_contents new)
    × (lookup ≡ lookup_at g (occurrence_after g events ref))
looked_up g events old new ref lookup some stands step =
    let m : Machine = lru_machine g Back in
    let p : Occurrence = occurrence_after g events ref in
    let after = access_run m events (lru_contents old) ref step.outcome (lru_contents new) some
    stands step.access in
    let next = next_law g Back events ref some in (
      after.0,
      step.told
          ∙ ap (λ h. cond h Hit (cond (is_some step.outcome.evicted) MissEviction Miss))
          (ap (λ (o : Outcome). o.hit) after.1 ∙ next.0)
          ∙ ap (λ e. cond (is_hit g p) Hit (cond e MissEviction Miss))
          (ap (λ (o : Outcome). is_some o.evicted) after.1 ∙ next.1),
    )

-- one more reference with this lookup
pub simulates_lookup : (g : GeometryValue) (events : List Event) (old : Simulation)
    (cache : CacheValue LruPolicy) (r : Ref) (told is : Lookup) →
    LooksUp lru_policy no_numbers old.cache r told cache → told ≡ is →
    SimulationStandsFor g events old →
    SimulationStandsFor g (events ++ event.Reference r ∷ []) (record {
      cache = cache;
      counts =
          counts_with old.counts is;
    })
    × (told ≡ lookup_at g (occurrence_after g events r))
simulates_lookup g events old cache r told is step same h =
    let s = looked_up g events old.cache cache r told h.some h.cache step in (
      record {
        some = h.some;
        cache = s.0;
        counts = ap (λ c. counts_with c is) h.counts ∙ ap (counts_with (counts g events))
            (sym same ∙ s.1) ∙ sym (counts-reference g events r);
      },
      s.1,
    )

-- one more flush
pub counts-flush : (g : GeometryValue) (events : List Event) →
    counts g (events ++ event.Flush ∷ []) ≡ counts g events
unfolding counts
counts-flush g events = rw (occurrences-flush g events) refl

-- a lookup adds one at most to each count
pub within_with : (n : ℕ) (c : Counts) (l : Lookup) → SimulationCountsWithin n c →
    SimulationCountsWithin (n + 1) (counts_with c l)
within_with n c l w = grind arith

-- no count is above the events
count_most : (is : Occurrence → Bool) (g : GeometryValue) (before events : List Event) →
    count_by is (occurrences_after g before events) ≤ length events
unfolding occurrences_after
count_most is g before [] = omega arith
count_most is g before (event.Reference r ∷ events) =
    grind (
      arith,
      sum_by-cons (λ (q : Occurrence). cond (is q) 1 0) (occurrence_after g before r)
          (occurrences_after g (before ++ event.Reference r ∷ []) events),
      count_most is g (before ++ event.Reference r ∷ []) events,
    )
count_most is g before (event.Flush ∷ events) =
    omega (arith, count_most is g (before ++ event.Flush ∷ []) events)

pub simulated_within : (g : GeometryValue) (events : List Event) (sim : Simulation) →
    SimulationStandsFor g events sim →
    SimulationCountsWithin (length events) sim.counts
unfolding counts
simulated_within g events sim h = grind (arith, count_most)

pub within_above : (n m : ℕ) (c : Counts) → n ≤ m → SimulationCountsWithin n c →
    SimulationCountsWithin m c
within_above n m c above w = record {
  hits = omega (arith, w.hits);
  misses =
      omega (arith, w.misses);
  evictions = omega (arith, w.evictions);
}
