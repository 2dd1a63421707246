-- What arrives at a cache is what it takes, or what the first level sends: its lines show its
-- accesses.
use Rattle.std.proofs.Common.{◌≡◌, ℕ, Bool, true, false, cond, List, [], ◌∷◌, ◌++◌, map, Option}
use Rattle.std.proofs.Common.{Some, None, refl, sym, ap, ◌∙◌}
use Rattle.std.specs.Prelude.{flat_map, filter, is_some}
use Rattle.std.proofs.lemmas.Bool.{true≢false}
use Rattle.trace_core.specs.declared.events.Ref.{Ref}
use Rattle.trace_core.specs.declared.events.Event.{Event}
use Rattle.trace_core.specs.declared.events.Event.TheVariants as event
use Rattle.trace_core.specs.Events.{references_in}
use Rattle.cache_core.specs.declared.system.arrival.Arrival.{Arrival}
use Rattle.cache_core.specs.declared.system.arrival.Arrival.TheVariants.{Cache, Memory, Bypassed}
use Rattle.cache_core.specs.declared.system.arrival.Arrival.TheVariants.{Flush}
use Rattle.cache_core.specs.declared.system.plan.PlannedCache.{PlannedCache}
use Rattle.cache_core.specs.declared.system.plan.CacheName.{CacheName}
use Rattle.cache_core.specs.declared.system.plan.CacheName.TheVariants.{L1I, L1D, L1U, L2U}
use Rattle.cache_core.specs.Geometry.{GeometryValue}
use Rattle.cache_core.specs.cache.Machine.{Machine, MachineState, start, step, next}
use Rattle.cache_core.specs.cache.Machine.{with_effects_from}
use Rattle.cache_core.specs.system.Plans.{PlannedCaches}
use Rattle.cache_core.specs.system.Systems.{machine_of, is_taken_by, events_for}
use Rattle.cache_core.specs.system.Arrivals.{arrivals}
use Rattle.cache_core.specs.system.LogLaws.{is_same, planned_of, events_at, refs_at, lines_at}
use Rattle.cache_core.specs.system.LogLaws.{access_line, access_lines, if_there, FetchCacheLaw}
use Rattle.cache_core.specs.system.LogLaws.{DataCacheLaw, UnifiedCacheLaw, SecondLevelLaw}
use Rattle.cache_laws.proofs.LinesLaw.{same, lines_law}

module _ (name : CacheName) where
  -- its references are those of its lines
  refs_of_lines : (log : List Arrival) → flat_map (refs_at name) log ≡ flat_map (refs_at name)
      (flat_map (lines_at name) log)
  refs_of_lines [] = refl
  refs_of_lines (Cache at ref hit victim ∷ log) = by_test (is_same name at) refl (refs_of_lines log)
    where
      rest : List Arrival
      rest = flat_map (lines_at name) log

      by_test : (b : Bool) → is_same name at ≡ b → flat_map (refs_at name) log ≡ flat_map
          (refs_at name) rest →
          cond (is_same name at) (ref ∷ []) [] ++ flat_map (refs_at name) log
          ≡ flat_map (refs_at name) (cond (is_same name at) (Cache at ref hit victim ∷ []) [] ++
          rest)
      by_test true t same = rw (t, t) (ap (λ refs. ref ∷ refs) same)
      by_test false t same = rw t same
  refs_of_lines (Memory ref ∷ log) = refs_of_lines log
  refs_of_lines (Bypassed ref ∷ log) = refs_of_lines log
  refs_of_lines (Flush at dirty ∷ log) = refs_of_lines log

  -- and these those that come to it
  refs_shown : (m : Machine) (g : GeometryValue) (st : MachineState) (events : List Event) →
      flat_map (refs_at name) (map (access_line name g)
      (with_effects_from m st events)) ≡ references_in events
  refs_shown m g st [] = refl
  refs_shown m g st (event.Reference ref ∷ events) =
      cc (same name, refs_shown m g (step m st ref).after events)
  refs_shown m g st (event.Flush ∷ events) = refs_shown m g (next m st event.Flush) events

  -- all of them, if there is a cache
  abbrev all_if_there : Option PlannedCache → List Ref → List Ref
  all_if_there None refs = []
  all_if_there (Some planned) refs = refs

  arrived : (plan : PlannedCaches) (seed : ℕ) (events : List Event) →
      flat_map (refs_at name) (arrivals plan seed events) ≡ all_if_there (planned_of plan name)
      (references_in (events_at plan seed name events))
  arrived plan seed events =
      refs_of_lines (arrivals plan seed events) ∙ ap (flat_map (refs_at name))
      (lines_law name plan seed events)
      ∙ by_plan (planned_of plan name) (events_at plan seed name events)
    where
      by_plan : (planned : Option PlannedCache) (here : List Event) →
          flat_map (refs_at name) (access_lines seed name planned here) ≡ all_if_there planned
          (references_in here)
      by_plan None here = refl
      by_plan (Some planned) here = refs_shown (machine_of seed planned)
          planned.design.geometry start here

  -- a cache of the first level gets what it takes
  references_for : (events : List Event) → references_in (events_for name events) ≡ filter
      (is_taken_by name) (references_in events)
  references_for [] = refl
  references_for (event.Reference ref ∷ events) =
      by_test (is_taken_by name ref) (references_for events)
    where
      by_test : (b : Bool) → references_in (events_for name events) ≡ filter (is_taken_by name)
          (references_in events) →
          references_in (cond b (event.Reference ref ∷ events_for name events)
          (events_for name events))
          ≡ cond b (ref ∷ filter (is_taken_by name) (references_in events))
          (filter (is_taken_by name) (references_in events))
      by_test true same = ap (λ refs. ref ∷ refs) same
      by_test false same = same
  references_for (event.Flush ∷ events) = references_for events

  taken : (planned : Option PlannedCache) (events : List Event) →
      all_if_there planned (references_in (events_for name events)) ≡ if_there planned
      (is_taken_by name) (references_in events)
  taken None events = refl
  taken (Some planned) events = references_for events

pub fetch_cache_law : FetchCacheLaw
fetch_cache_law plan seed events = arrived L1I plan seed events ∙ taken L1I plan.i events

pub data_cache_law : DataCacheLaw
data_cache_law plan seed events = arrived L1D plan seed events ∙ taken L1D plan.d events

pub unified_cache_law : UnifiedCacheLaw
unified_cache_law plan seed events = arrived L1U plan seed events ∙ taken L1U plan.u events

pub second_level_law : SecondLevelLaw
second_level_law plan seed events there = arrived L2U plan seed events ∙ by_plan plan.second there
  where
    by_plan : (planned : Option PlannedCache) → is_some planned ≡ true →
        all_if_there L2U planned (references_in (events_at plan seed L2U events)) ≡ references_in
        (events_at plan seed L2U events)
    by_plan None none = absurd (true≢false (sym none))
    by_plan (Some planned) t = refl
