-- What arrives at memory is what the last level sends; what is bypassed is what no cache takes.
use Rattle.std.proofs.Common.{◌≡◌, ℕ, not, ◌||◌, ◌&&◌, Bool, true, false, cond, List, [], ◌∷◌, ◌++◌}
use Rattle.std.proofs.Common.{Option, Some, None, refl, sym, ap, ◌∙◌, append-nil}
use Rattle.std.specs.Prelude.{flat_map, filter, is_some, is_none}
use Rattle.std.proofs.Math.Path.{fun_ext}
use Rattle.std.proofs.lemmas.List.Elements.{filter-append}
use Rattle.trace_core.specs.declared.events.Ref.{Ref}
use Rattle.trace_core.specs.declared.events.Event.{Event}
use Rattle.trace_core.specs.declared.events.Event.TheVariants as event
use Rattle.trace_core.specs.Events.{is_fetch, references_in}
use Rattle.cache_core.specs.declared.system.arrival.Arrival.{Arrival}
use Rattle.cache_core.specs.declared.system.arrival.Arrival.TheVariants.{Bypassed}
use Rattle.cache_core.specs.declared.system.plan.PlannedCache.{PlannedCache}
use Rattle.cache_core.specs.declared.system.plan.CacheName.TheVariants.{L2U}
use Rattle.cache_core.specs.system.Plans.{PlannedCaches}
use Rattle.cache_core.specs.system.Systems.{first_level_references, lower_events, is_taken}
use Rattle.cache_core.specs.system.Systems.{to_memory}
use Rattle.cache_core.specs.system.Arrivals.{cache_arrivals, arrivals_below, all_arrivals_below}
use Rattle.cache_core.specs.system.Arrivals.{at_memory, references_passed, lower_arrivals}
use Rattle.cache_core.specs.system.Arrivals.{arrivals_of}
use Rattle.cache_core.specs.system.LogLaws.{refs_at_memory, refs_past, is_left_out, MemoryLaw}
use Rattle.cache_core.specs.system.LogLaws.{BypassedLaw}
use Rattle.cache_core.proofs.system.SystemPushes.{references_push, references_flush}
use Rattle.cache_core.proofs.system.SystemPushes.{lower_events_flush, memory_push, memory_flush}
use Rattle.cache_core.proofs.system.SystemPushes.{memory_nil}
use Rattle.cache_laws.proofs.LogParts.{none_then, quiet_arrives, quiet_below, quiet_flushes}
use Rattle.cache_laws.proofs.LogParts.{at_lower, whole_log, told_lower}

abbrev at : List Arrival → List Ref
at xs = flat_map refs_at_memory xs

all_at : (refs : List Ref) → at (at_memory refs) ≡ refs
all_at [] = refl
all_at (ref ∷ refs) = ap (λ xs. ref ∷ xs) (all_at refs)

one_at : (seed : ℕ) (second : Option PlannedCache) (before : List Event) (ref : Ref) →
    at (arrivals_below seed second before ref) ≡ references_passed seed second before ref
one_at seed second before ref =
    none_then refs_at_memory (cache_arrivals seed L2U second before ref)
    (at_memory (references_passed seed second before ref))
    (quiet_arrives refs_at_memory seed L2U second before ref (λ r h v. refl))
    ∙ all_at (references_passed seed second before ref)

module _ (plan : PlannedCaches) (seed : ℕ) where
  abbrev whole : List Event → List Ref
  whole events = to_memory seed plan.second (lower_events plan seed events)

  lower : (earlier : List Event) (ref : Ref) → whole (earlier ++ event.Reference ref ∷ []) ≡ whole
      earlier ++ at (lower_arrivals plan seed earlier ref)
  lower = told_lower refs_at_memory seed plan (to_memory seed plan.second)
      (λ before ref. memory_push seed plan.second before ref
      ∙ ap (λ xs. to_memory seed plan.second before ++ xs)
      (sym (one_at seed plan.second before ref)))
      (λ r. refl)

  more : (earlier : List Event) (e : Event) → whole (earlier ++ e ∷ []) ≡ whole earlier ++
      at (arrivals_of plan seed earlier e)
  more earlier (event.Reference ref) =
      cc (
        lower earlier ref,
        at_lower refs_at_memory plan seed earlier ref (λ r h v. refl)
            (λ r h v. refl) (λ r h v. refl),
      )
  more earlier event.Flush =
      ap (to_memory seed plan.second) (lower_events_flush plan seed earlier) ∙
      memory_flush seed plan.second (lower_events plan seed earlier)
      ∙ sym (append-nil (whole earlier))
      ∙ ap (λ xs. whole earlier ++ xs)
      (sym (quiet_flushes refs_at_memory plan seed earlier (λ n. refl) (λ n. refl) (λ n. refl)
      (λ n. refl)))

pub memory_law : MemoryLaw
memory_law plan seed events = whole_log refs_at_memory plan seed (whole plan seed)
    (memory_nil seed plan.second) (more plan seed) events

-- the bypassed references
left_out : (fetch : Bool) (i d u : Option PlannedCache) →
    cond (is_some u) false (cond fetch (is_none i) (is_none d)) ≡ not
    (is_some u || (is_some i && fetch) || (is_some d && not fetch))
left_out true None None None = refl
left_out true None (Some d) None = refl
left_out true (Some i) None None = refl
left_out true (Some i) (Some d) None = refl
left_out false None None None = refl
left_out false None (Some d) None = refl
left_out false (Some i) None None = refl
left_out false (Some i) (Some d) None = refl
left_out fetch i d (Some u) = refl

pub left_out_is : (plan : PlannedCaches) → is_left_out plan ≡ (λ ref. not (is_taken plan ref))
left_out_is plan = fun_ext (λ ref. left_out (is_fetch ref.access) plan.i plan.d plan.u)

module _ (plan : PlannedCaches) (seed : ℕ) where
  abbrev past : List Event → List Ref
  past events = filter (is_left_out plan) (references_in events)

  past_lower : (earlier : List Event) (ref : Ref) → filter (is_left_out plan) (ref ∷ []) ≡ flat_map
      refs_past (lower_arrivals plan seed earlier ref)
  past_lower earlier ref = ap (λ b. cond b (ref ∷ []) [])
      (left_out (is_fetch ref.access) plan.i plan.d plan.u) ∙ by_test (is_taken plan ref)
    where
      by_test : (b : Bool) →
          cond (not b) (ref ∷ []) []
          ≡ flat_map refs_past
          (cond b (all_arrivals_below seed plan.second (lower_events plan seed earlier)
          (first_level_references plan seed earlier ref)) (Bypassed ref ∷ []))
      by_test true =
          sym (quiet_below refs_past seed plan.second (λ r h v. refl) (λ r. refl)
          (lower_events plan seed earlier) (first_level_references plan seed earlier ref))
      by_test false = refl

  past_more : (earlier : List Event) (e : Event) → past (earlier ++ e ∷ []) ≡ past earlier ++
      flat_map refs_past (arrivals_of plan seed earlier e)
  past_more earlier (event.Reference ref) =
      ap (filter (is_left_out plan)) (references_push earlier ref) ∙
      filter-append (is_left_out plan) (references_in earlier) (ref ∷ [])
      ∙ ap (λ xs. past earlier ++ xs)
      (past_lower earlier ref ∙ sym (at_lower refs_past plan seed earlier ref (λ r h v. refl)
      (λ r h v. refl) (λ r h v. refl)))
  past_more earlier event.Flush =
      cc (
        references_flush earlier,
        append-nil (past earlier),
        quiet_flushes refs_past plan seed earlier (λ n. refl) (λ n. refl) (λ n. refl) (λ n. refl),
      )

pub bypassed_law : BypassedLaw
bypassed_law plan seed events = whole_log refs_past plan seed (past plan seed) refl
    (past_more plan seed) events
