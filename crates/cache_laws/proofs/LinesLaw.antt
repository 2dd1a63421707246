-- The lines of a cache show what it does for the references that come to it, and the log of more
-- events begins with that of fewer.
use Rattle.std.proofs.Common.{◌≡◌, ℕ, Bool, true, false, cond, List, [], ◌∷◌, ◌++◌, map, Option}
use Rattle.std.proofs.Common.{Some, None, refl, sym, ap, ◌∙◌, append_assoc, append-nil}
use Rattle.std.specs.Prelude.{flat_map}
use Rattle.std.proofs.lemmas.Grind.{flat_map-append}
use Rattle.std.proofs.lemmas.List.{map-append}
use Rattle.trace_core.specs.declared.events.Ref.{Ref}
use Rattle.trace_core.specs.declared.events.Event.{Event}
use Rattle.trace_core.specs.declared.events.Event.TheVariants as event
use Rattle.cache_core.specs.declared.system.arrival.Arrival.{Arrival}
use Rattle.cache_core.specs.declared.system.arrival.Arrival.TheVariants.{Cache}
use Rattle.cache_core.specs.declared.system.plan.PlannedCache.{PlannedCache}
use Rattle.cache_core.specs.declared.system.plan.CacheName.{CacheName}
use Rattle.cache_core.specs.declared.system.plan.CacheName.TheVariants.{L1I, L1D, L1U, L2U}
use Rattle.cache_core.specs.cache.Machine.{run, step, with_effects}
use Rattle.cache_core.specs.system.Plans.{PlannedCaches}
use Rattle.cache_core.specs.system.Systems.{machine_of, is_taken_by, events_for}
use Rattle.cache_core.specs.system.Systems.{lower_events}
use Rattle.cache_core.specs.system.Arrivals.{cache_arrivals, first_level_arrivals, at_memory}
use Rattle.cache_core.specs.system.Arrivals.{references_passed, lower_arrivals, arrivals_of}
use Rattle.cache_core.specs.system.Arrivals.{arrivals_from, arrivals_below}
use Rattle.cache_core.specs.system.LogLaws.{is_same, planned_of, events_at, lines_at, access_line}
use Rattle.cache_core.specs.system.LogLaws.{access_lines, LinesLaw, GrowthLaw}
use Rattle.cache_core.proofs.Pushes.{with_effects_push, with_effects_flush}
use Rattle.cache_core.proofs.system.SystemPushes.{events_taken, events_left, events_flush}
use Rattle.cache_core.proofs.system.SystemPushes.{lower_events_flush}
use Rattle.cache_laws.proofs.LogParts.{OnlyAt, quiet_memory, quiet_flushes, at_first, at_lower}
use Rattle.cache_laws.proofs.LogParts.{whole_log, told_lower}

pub same : (name : CacheName) → is_same name name ≡ true
same L1I = refl
same L1D = refl
same L1U = refl
same L2U = refl

-- a line more for each reference
module _ (seed : ℕ) (name : CacheName) where
  lines_push : (planned : Option PlannedCache) (events : List Event) (ref : Ref) →
      access_lines seed name planned (events ++ event.Reference ref ∷ []) ≡ access_lines seed name
      planned events ++ cache_arrivals seed name planned events ref
  lines_push None events ref = refl
  lines_push (Some planned) events ref =
      let m = machine_of seed planned in
      ap (map (access_line name planned.design.geometry)) (with_effects_push m events ref)
      ∙ map-append (access_line name planned.design.geometry) (with_effects m events)
      ((ref, (step m (run m events) ref).effect) ∷ [])

  lines_flush : (planned : Option PlannedCache) (events : List Event) →
      access_lines seed name planned (events ++ event.Flush ∷ []) ≡ access_lines seed name
      planned events
  lines_flush None events = refl
  lines_flush (Some planned) events = ap (map (access_line name planned.design.geometry))
      (with_effects_flush (machine_of seed planned) events)

  none_shown : (planned : Option PlannedCache) → access_lines seed name planned [] ≡ []
  none_shown None = refl
  none_shown (Some planned) = refl

  all_shown : (planned : Option PlannedCache) (events : List Event) (ref : Ref) →
      flat_map (lines_at name) (cache_arrivals seed name planned events ref) ≡ cache_arrivals seed
      name planned events ref
  all_shown None events ref = refl
  all_shown (Some planned) events ref = cc (same name)

  first_shown : (planned : Option PlannedCache) (earlier : List Event) (ref : Ref) →
      access_lines seed name planned (events_for name (earlier ++ event.Reference ref ∷ []))
      ≡ access_lines seed name planned (events_for name earlier) ++ flat_map (lines_at name)
      (first_level_arrivals seed name planned earlier ref)
  first_shown None earlier ref = refl
  first_shown (Some planned) earlier ref = by_test (is_taken_by name ref) refl
    where
      before : List Arrival
      before = access_lines seed name (Some planned) (events_for name earlier)

      here : List Arrival
      here = cache_arrivals seed name (Some planned) (events_for name earlier) ref

      by_test : (b : Bool) → is_taken_by name ref ≡ b →
          access_lines seed name (Some planned)
          (events_for name (earlier ++ event.Reference ref ∷ []))
          ≡ before ++ flat_map (lines_at name) (cond b here [])
      by_test true t =
          ap (access_lines seed name (Some planned)) (events_taken name earlier ref t) ∙
          lines_push (Some planned) (events_for name earlier) ref
          ∙ ap (λ lines. before ++ lines)
          (sym (all_shown (Some planned) (events_for name earlier) ref))
      by_test false t = ap (access_lines seed name (Some planned))
          (events_left name earlier ref t) ∙ sym (append-nil before)

  only_lines : OnlyAt (lines_at name) name
  only_lines = (
    λ other e r h v. ap (λ b. cond b (Cache other r h v ∷ []) []) e,
    λ r. refl,
    λ r. refl,
  )

-- the second level
below_push_shown : (seed : ℕ) (second : Option PlannedCache) (before : List Event) (ref : Ref) →
    access_lines seed L2U second (before ++ event.Reference ref ∷ [])
    ≡ access_lines seed L2U second before ++ flat_map (lines_at L2U)
    (arrivals_below seed second before ref)
below_push_shown seed second before ref =
    let one = cache_arrivals seed L2U second before ref in
    let passed = references_passed seed second before ref in
    let seen : flat_map (lines_at L2U) (one ++ at_memory passed) ≡ one =
    flat_map-append (lines_at L2U) one (at_memory passed)
    ∙ ap (λ lines. flat_map (lines_at L2U) one ++ lines)
    (quiet_memory (lines_at L2U) (λ r. refl) passed)
    ∙ append-nil (flat_map (lines_at L2U) one) ∙ all_shown seed L2U second before ref in
    lines_push seed L2U second before ref
    ∙ ap (λ lines. access_lines seed L2U second before ++ lines) (sym seen)

module _ (plan : PlannedCaches) (seed : ℕ) where
  lower_shown : (earlier : List Event) (ref : Ref) →
      access_lines seed L2U plan.second
      (lower_events plan seed (earlier ++ event.Reference ref ∷ []))
      ≡ access_lines seed L2U plan.second (lower_events plan seed earlier) ++
      flat_map (lines_at L2U)
      (lower_arrivals plan seed earlier ref)
  lower_shown = told_lower (lines_at L2U) seed plan (access_lines seed L2U plan.second)
      (below_push_shown seed plan.second) (λ r. refl)

  abbrev whole : CacheName → List Event → List Arrival
  whole name events = access_lines seed name (planned_of plan name)
      (events_at plan seed name events)

  reference_shown : (name : CacheName) (earlier : List Event) (ref : Ref) →
      whole name (earlier ++ event.Reference ref ∷ [])
      ≡ whole name earlier ++ flat_map (lines_at name)
      (arrivals_of plan seed earlier (event.Reference ref))
  reference_shown L1I earlier ref = cc (
    first_shown seed L1I plan.i earlier ref,
    at_first (lines_at L1I) plan seed earlier ref L1I refl (only_lines seed L1I),
  )
  reference_shown L1D earlier ref = cc (
    first_shown seed L1D plan.d earlier ref,
    at_first (lines_at L1D) plan seed earlier ref L1D refl (only_lines seed L1D),
  )
  reference_shown L1U earlier ref = cc (
    first_shown seed L1U plan.u earlier ref,
    at_first (lines_at L1U) plan seed earlier ref L1U refl (only_lines seed L1U),
  )
  reference_shown L2U earlier ref =
      cc (
        lower_shown earlier ref,
        at_lower (lines_at L2U) plan seed earlier ref (λ r h v. refl)
            (λ r h v. refl) (λ r h v. refl),
      )

  flush_shown : (name : CacheName) (earlier : List Event) →
      whole name (earlier ++ event.Flush ∷ []) ≡ whole name earlier
  flush_shown L1I earlier = ap (access_lines seed L1I plan.i) (events_flush L1I earlier) ∙
      lines_flush seed L1I plan.i (events_for L1I earlier)
  flush_shown L1D earlier = ap (access_lines seed L1D plan.d) (events_flush L1D earlier) ∙
      lines_flush seed L1D plan.d (events_for L1D earlier)
  flush_shown L1U earlier = ap (access_lines seed L1U plan.u) (events_flush L1U earlier) ∙
      lines_flush seed L1U plan.u (events_for L1U earlier)
  flush_shown L2U earlier = ap (access_lines seed L2U plan.second)
      (lower_events_flush plan seed earlier) ∙
      lines_flush seed L2U plan.second (lower_events plan seed earlier)

  more : (name : CacheName) (earlier : List Event) (e : Event) →
      whole name (earlier ++ e ∷ []) ≡ whole name earlier ++ flat_map (lines_at name)
      (arrivals_of plan seed earlier e)
  more name earlier (event.Reference ref) = reference_shown name earlier ref
  more name earlier event.Flush =
      flush_shown name earlier ∙ sym (append-nil (whole name earlier))
      ∙ ap (λ lines. whole name earlier ++ lines)
      (sym (quiet_flushes (lines_at name) plan seed earlier (λ n. refl) (λ n. refl) (λ n. refl)
      (λ n. refl)))

  none : (name : CacheName) → whole name [] ≡ []
  none L1I = none_shown seed L1I plan.i
  none L1D = none_shown seed L1D plan.d
  none L1U = none_shown seed L1U plan.u
  none L2U = none_shown seed L2U plan.second

pub lines_law : LinesLaw
lines_law name plan seed events = whole_log (lines_at name) plan seed (whole plan seed name)
    (none plan seed name) (more plan seed name) events

-- the log grows
grows_from : (plan : PlannedCaches) (seed : ℕ) (earlier events more : List Event) →
    arrivals_from plan seed earlier (events ++ more) ≡ arrivals_from plan seed earlier events ++
    arrivals_from plan seed (earlier ++ events) more
grows_from plan seed earlier [] more = ap (λ es. arrivals_from plan seed es more)
    (sym (append-nil earlier))
grows_from plan seed earlier (e ∷ events) more =
    let now = arrivals_of plan seed earlier e in
    let next = earlier ++ e ∷ [] in
    ap (λ lines. now ++ lines) (grows_from plan seed next events more)
    ∙ sym (append_assoc now (arrivals_from plan seed next events)
    (arrivals_from plan seed (next ++ events) more))
    ∙ ap (λ es. now ++ arrivals_from plan seed next events ++ arrivals_from plan seed es more)
    (append_assoc earlier (e ∷ []) events)

pub growth_law : GrowthLaw
growth_law plan seed events more = grows_from plan seed [] events more
