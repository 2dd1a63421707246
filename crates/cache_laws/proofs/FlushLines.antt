-- The lines of the flushes name each cache once for each flush, and show how many dirty blocks it
-- finds.
use Rattle.std.proofs.Common.{◌≡◌, ℕ, cond, List, [], ◌∷◌, ◌++◌, Option, Some, None, refl, sym, ap}
use Rattle.std.proofs.Common.{◌∙◌, append-nil}
use Rattle.std.specs.Prelude.{flat_map}
use Rattle.std.proofs.lemmas.Grind.{flat_map-append}
use Rattle.trace_core.specs.declared.events.Ref.{Ref}
use Rattle.trace_core.specs.declared.events.Event.{Event}
use Rattle.trace_core.specs.declared.events.Event.TheVariants as event
use Rattle.cache_core.specs.declared.system.arrival.Arrival.{Arrival}
use Rattle.cache_core.specs.declared.system.arrival.Arrival.TheVariants.{Bypassed}
use Rattle.cache_core.specs.declared.system.plan.PlannedCache.{PlannedCache}
use Rattle.cache_core.specs.declared.system.plan.CacheName.{CacheName}
use Rattle.cache_core.specs.declared.system.plan.CacheName.TheVariants.{L1I, L1D, L1U, L2U}
use Rattle.cache_core.specs.system.Plans.{PlannedCaches}
use Rattle.cache_core.specs.system.Systems.{machine_of, events_for, first_level_references}
use Rattle.cache_core.specs.system.Systems.{lower_events, flush_counts_if_planned}
use Rattle.cache_core.specs.system.Arrivals.{flushes, arrivals_of}
use Rattle.cache_core.specs.system.LogLaws.{planned_of, events_at, names_in, name_if_there}
use Rattle.cache_core.specs.system.LogLaws.{names_of, dirty_at, FlushNamesLaw, FlushCountsLaw}
use Rattle.cache_core.proofs.system.SystemPushes.{events_flush, lower_events_push}
use Rattle.cache_core.proofs.system.SystemPushes.{lower_events_flush, flush_counts_flush}
use Rattle.cache_core.proofs.system.SystemPushes.{flush_counts_taken, flush_counts_refs}
use Rattle.cache_core.proofs.system.SystemPushes.{flush_counts_nil}
use Rattle.cache_laws.proofs.LogParts.{QuietAt, QuietAtMemory, flush_parts, at_lower, at_flush}
use Rattle.cache_laws.proofs.LogParts.{quiet_lower, whole_log}
use Rattle.cache_laws.proofs.LinesLaw.{same}

-- a reference has no line that is picked from flushes alone
quiet_reference : {X : Type 0} (p : Arrival → List X) (plan : PlannedCaches) (seed : ℕ)
    (earlier : List Event) (ref : Ref) →
    ((name : CacheName) → QuietAt p name) → QuietAtMemory p → p (Bypassed ref) ≡ [] →
    flat_map p (arrivals_of plan seed earlier (event.Reference ref)) ≡ []
quiet_reference p plan seed earlier ref q m n =
    cc (
      at_lower p plan seed earlier ref (q L1I) (q L1D) (q L1U),
      quiet_lower p plan seed earlier ref (q L2U) m n,
    )

-- the names
one_name : (seed : ℕ) (name : CacheName) (planned : Option PlannedCache) (before : List Event) →
    flat_map names_in (flushes seed name planned before) ≡ name_if_there name planned
one_name seed name None before = refl
one_name seed name (Some planned) before = refl

module _ (plan : PlannedCaches) (seed : ℕ) where
  names_shown : (earlier : List Event) (e : Event) →
      flat_map (names_of plan) (earlier ++ e ∷ []) ≡ flat_map (names_of plan) earlier ++
      flat_map names_in (arrivals_of plan seed earlier e)
  names_shown earlier e =
      flat_map-append (names_of plan) earlier (e ∷ [])
      ∙ ap (λ names. flat_map (names_of plan) earlier ++ names) (append-nil (names_of plan e) ∙
      sym (by_event e))
    where
      by_event : (e : Event) → flat_map names_in (arrivals_of plan seed earlier e) ≡ names_of plan e
      by_event (event.Reference ref) = quiet_reference names_in plan seed earlier ref
          (λ name r h v. refl) (λ r. refl) refl
      by_event event.Flush =
          flush_parts names_in plan seed earlier
          ∙ rw (
            one_name seed L1I plan.i (events_for L1I earlier),
            one_name seed L1D plan.d (events_for L1D earlier),
            one_name seed L1U plan.u (events_for L1U earlier),
            one_name seed L2U plan.second (lower_events plan seed earlier),
          ) refl

pub flush_names_law : FlushNamesLaw
flush_names_law plan seed events = whole_log names_in plan seed (flat_map (names_of plan)) refl
    (names_shown plan seed) events

-- the counts
flush_shown : (seed : ℕ) (name : CacheName) (planned : Option PlannedCache) (events : List Event) →
    flush_counts_if_planned seed planned (events ++ event.Flush ∷ [])
    ≡ flush_counts_if_planned seed planned events ++ flat_map (dirty_at name)
    (flushes seed name planned events)
flush_shown seed name None events = refl
flush_shown seed name (Some planned) events =
    cc (flush_counts_flush (machine_of seed planned) events, same name)

module _ (plan : PlannedCaches) (seed : ℕ) where
  abbrev counts : CacheName → List Event → List ℕ
  counts name events = flush_counts_if_planned seed (planned_of plan name)
      (events_at plan seed name events)

  counts_reference : (name : CacheName) (earlier : List Event) (ref : Ref) →
      counts name (earlier ++ event.Reference ref ∷ []) ≡ counts name earlier
  counts_reference L1I earlier ref = flush_counts_taken seed L1I plan.i earlier ref
  counts_reference L1D earlier ref = flush_counts_taken seed L1D plan.d earlier ref
  counts_reference L1U earlier ref = flush_counts_taken seed L1U plan.u earlier ref
  counts_reference L2U earlier ref =
      cc (
        lower_events_push plan seed earlier ref,
        flush_counts_refs seed plan.second (lower_events plan seed earlier)
            (first_level_references plan seed earlier ref),
      )

  counts_flush : (name : CacheName) (earlier : List Event) →
      counts name (earlier ++ event.Flush ∷ [])
      ≡ counts name earlier ++ flat_map (dirty_at name) (flushes seed name (planned_of plan name)
      (events_at plan seed name earlier))
  counts_flush L1I earlier = ap (flush_counts_if_planned seed plan.i) (events_flush L1I earlier) ∙
      flush_shown seed L1I plan.i (events_for L1I earlier)
  counts_flush L1D earlier = ap (flush_counts_if_planned seed plan.d) (events_flush L1D earlier) ∙
      flush_shown seed L1D plan.d (events_for L1D earlier)
  counts_flush L1U earlier = ap (flush_counts_if_planned seed plan.u) (events_flush L1U earlier) ∙
      flush_shown seed L1U plan.u (events_for L1U earlier)
  counts_flush L2U earlier = cc (
    lower_events_flush plan seed earlier,
    flush_shown seed L2U plan.second
        (lower_events plan seed earlier),
  )

  counts_shown : (name : CacheName) (earlier : List Event) (e : Event) →
      counts name (earlier ++ e ∷ []) ≡ counts name earlier ++ flat_map (dirty_at name)
      (arrivals_of plan seed earlier e)
  counts_shown name earlier (event.Reference ref) =
      counts_reference name earlier ref ∙ sym (append-nil (counts name earlier))
      ∙ ap (λ ns. counts name earlier ++ ns)
      (sym (quiet_reference (dirty_at name) plan seed earlier ref (λ other r h v. refl)
      (λ r. refl) refl))
  counts_shown name earlier event.Flush =
      counts_flush name earlier
      ∙ ap (λ ns. counts name earlier ++ ns)
      (sym (at_flush (dirty_at name) plan seed earlier name
      (λ other e n. ap (λ b. cond b (n ∷ []) []) e)))

  none_found : (name : CacheName) → counts name [] ≡ []
  none_found L1I = flush_counts_nil seed plan.i
  none_found L1D = flush_counts_nil seed plan.d
  none_found L1U = flush_counts_nil seed plan.u
  none_found L2U = flush_counts_nil seed plan.second

pub flush_counts_law : FlushCountsLaw
flush_counts_law name plan seed events =
    whole_log (dirty_at name) plan seed (counts plan seed name) (none_found plan seed name)
    (counts_shown plan seed name) events
