-- A reader of the log picks something from each of its lines. Here is what this gives for one line,
-- for the lines of one event, and for the whole log.
use Rattle.std.proofs.Common.{◌≡◌, ℕ, Bool, true, false, cond, List, [], ◌∷◌, ◌++◌, Option, Some}
use Rattle.std.proofs.Common.{None, refl, sym, ap, ◌∙◌, append_assoc, append-nil}
use Rattle.std.specs.Prelude.{flat_map}
use Rattle.std.proofs.lemmas.Bool.{true≢false}
use Rattle.std.proofs.lemmas.Grind.{flat_map-append}
use Rattle.trace_core.specs.declared.events.Ref.{Ref}
use Rattle.trace_core.specs.declared.events.Event.{Event}
use Rattle.trace_core.specs.declared.events.Event.TheVariants as event
use Rattle.cache_core.specs.declared.system.arrival.Victim.{Victim}
use Rattle.cache_core.specs.declared.system.arrival.Arrival.{Arrival}
use Rattle.cache_core.specs.declared.system.arrival.Arrival.TheVariants.{Cache, Memory, Bypassed}
use Rattle.cache_core.specs.declared.system.arrival.Arrival.TheVariants.{Flush}
use Rattle.cache_core.specs.declared.system.plan.PlannedCache.{PlannedCache}
use Rattle.cache_core.specs.declared.system.plan.CacheName.{CacheName}
use Rattle.cache_core.specs.declared.system.plan.CacheName.TheVariants.{L1I, L1D, L1U, L2U}
use Rattle.cache_core.specs.system.LogLaws.{is_same, planned_of, events_at}
use Rattle.cache_core.specs.system.Plans.{PlannedCaches}
use Rattle.cache_core.specs.system.Systems.{is_taken_by, events_for, first_level_references}
use Rattle.cache_core.specs.system.Systems.{lower_events, is_taken}
use Rattle.cache_core.specs.system.Arrivals.{cache_arrivals, first_level_arrivals, arrivals_below}
use Rattle.cache_core.specs.system.Arrivals.{all_arrivals_below, at_memory, references_passed}
use Rattle.cache_core.specs.system.Arrivals.{flushes, lower_arrivals, arrivals_of, arrivals_from}
use Rattle.cache_core.specs.system.Arrivals.{arrivals}
use Rattle.cache_core.proofs.system.SystemPushes.{lower_events_push, with_refs, with_refs-cons}
use Rattle.cache_core.proofs.system.SystemPushes.{untaken_sent}

-- of four lists all but one are empty
pub only_first : {X : Type 0} (a b c d : List X) → b ≡ [] → c ≡ [] → d ≡ [] → a ++ b ++ c ++ d ≡ a
only_first a b c d eb ec ed = rw (eb, ec, ed) (append-nil (a ++ [] ++ []) ∙ append-nil (a ++ []) ∙
    append-nil a)

pub only_second : {X : Type 0} (a b c d : List X) → a ≡ [] → c ≡ [] → d ≡ [] → a ++ b ++ c ++ d ≡ b
only_second a b c d ea ec ed = rw (ea, ec, ed) (append-nil (b ++ []) ∙ append-nil b)

pub only_third : {X : Type 0} (a b c d : List X) → a ≡ [] → b ≡ [] → d ≡ [] → a ++ b ++ c ++ d ≡ c
only_third a b c d ea eb ed = rw (ea, eb, ed) (append-nil c)

pub only_fourth : {X : Type 0} (a b c d : List X) → a ≡ [] → b ≡ [] → c ≡ [] → a ++ b ++ c ++ d ≡ d
only_fourth a b c d ea eb ec = rw (ea, eb, ec) refl

module _ {X : Type 0} (p : Arrival → List X) where
  -- nothing is picked from the lines of a cache, of memory, or of a flush
  abbrev pub QuietAt : CacheName → Type 0
  QuietAt name = (ref : Ref) (hit : Bool) (victim : Option Victim) →
      p (Cache name ref hit victim) ≡ []

  abbrev pub QuietAtMemory : Type 0
  QuietAtMemory = (ref : Ref) → p (Memory ref) ≡ []

  abbrev pub QuietAtFlush : CacheName → Type 0
  QuietAtFlush name = (dirty : ℕ) → p (Flush name dirty) ≡ []

  pub none_then : (xs ys : List Arrival) → flat_map p xs ≡ [] →
      flat_map p (xs ++ ys) ≡ flat_map p ys
  none_then xs ys e = flat_map-append p xs ys ∙ ap (λ zs. zs ++ flat_map p ys) e

  pub quiet_arrives : (seed : ℕ) (name : CacheName) (planned : Option PlannedCache)
      (before : List Event) (ref : Ref) → QuietAt name →
      flat_map p (cache_arrivals seed name planned before ref) ≡ []
  quiet_arrives seed name None before ref q = refl
  quiet_arrives seed name (Some planned) before ref q = ap (λ xs. xs ++ []) (q ref _ _)

  pub quiet_first : (seed : ℕ) (name : CacheName) (planned : Option PlannedCache)
      (earlier : List Event) (ref : Ref) → QuietAt name →
      flat_map p (first_level_arrivals seed name planned earlier ref) ≡ []
  quiet_first seed name None earlier ref q = refl
  quiet_first seed name (Some planned) earlier ref q = by_test (is_taken_by name ref)
    where
      by_test : (b : Bool) → flat_map p
          (cond b (cache_arrivals seed name (Some planned) (events_for name earlier) ref) []) ≡ []
      by_test true = quiet_arrives seed name (Some planned) (events_for name earlier) ref q
      by_test false = refl

  pub quiet_memory : QuietAtMemory → (refs : List Ref) → flat_map p (at_memory refs) ≡ []
  quiet_memory q [] = refl
  quiet_memory q (ref ∷ refs) = ap (λ xs. xs ++ flat_map p (at_memory refs)) (q ref) ∙
      quiet_memory q refs

  pub quiet_below : (seed : ℕ) (second : Option PlannedCache) → QuietAt L2U → QuietAtMemory →
      (before : List Event) (refs : List Ref) →
      flat_map p (all_arrivals_below seed second before refs) ≡ []
  quiet_below seed second q m before [] = refl
  quiet_below seed second q m before (ref ∷ refs) =
      none_then (arrivals_below seed second before ref) (all_arrivals_below seed second (before ++
      event.Reference ref ∷ []) refs)
      (none_then (cache_arrivals seed L2U second before ref)
      (at_memory (references_passed seed second before ref))
      (quiet_arrives seed L2U second before ref q)
      ∙ quiet_memory m (references_passed seed second before ref))
      ∙ quiet_below seed second q m (before ++ event.Reference ref ∷ []) refs

  pub quiet_flush : (seed : ℕ) (name : CacheName) (planned : Option PlannedCache)
      (before : List Event) → QuietAtFlush name →
      flat_map p (flushes seed name planned before) ≡ []
  quiet_flush seed name None before q = refl
  quiet_flush seed name (Some planned) before q = ap (λ xs. xs ++ []) (q _)

  -- what is picked from the lines of one event
  pub reference_parts : (plan : PlannedCaches) (seed : ℕ) (earlier : List Event) (ref : Ref) →
      flat_map p (arrivals_of plan seed earlier (event.Reference ref))
      ≡ flat_map p (first_level_arrivals seed L1I plan.i earlier ref) ++
      flat_map p (first_level_arrivals seed L1D plan.d earlier ref)
      ++ flat_map p (first_level_arrivals seed L1U plan.u earlier ref) ++
      flat_map p (lower_arrivals plan seed earlier ref)
  reference_parts plan seed earlier ref =
      let i = first_level_arrivals seed L1I plan.i earlier ref in
      let d = first_level_arrivals seed L1D plan.d earlier ref in
      let u = first_level_arrivals seed L1U plan.u earlier ref in
      let lower = lower_arrivals plan seed earlier ref in
      flat_map-append p (i ++ d ++ u) lower
      ∙ ap (λ xs. xs ++ flat_map p lower) (flat_map-append p (i ++ d) u ∙
      ap (λ xs. xs ++ flat_map p u) (flat_map-append p i d))

  pub flush_parts : (plan : PlannedCaches) (seed : ℕ) (earlier : List Event) →
      flat_map p (arrivals_of plan seed earlier event.Flush)
      ≡ flat_map p (flushes seed L1I plan.i (events_for L1I earlier)) ++
      flat_map p (flushes seed L1D plan.d (events_for L1D earlier))
      ++ flat_map p (flushes seed L1U plan.u (events_for L1U earlier)) ++
      flat_map p (flushes seed L2U plan.second (lower_events plan seed earlier))
  flush_parts plan seed earlier =
      let i = flushes seed L1I plan.i (events_for L1I earlier) in
      let d = flushes seed L1D plan.d (events_for L1D earlier) in
      let u = flushes seed L1U plan.u (events_for L1U earlier) in
      let second = flushes seed L2U plan.second (lower_events plan seed earlier) in
      flat_map-append p (i ++ d ++ u) second
      ∙ ap (λ xs. xs ++ flat_map p second) (flat_map-append p (i ++ d) u ∙
      ap (λ xs. xs ++ flat_map p u) (flat_map-append p i d))

  pub quiet_flushes : (plan : PlannedCaches) (seed : ℕ) (earlier : List Event) →
      QuietAtFlush L1I → QuietAtFlush L1D → QuietAtFlush L1U → QuietAtFlush L2U →
      flat_map p (arrivals_of plan seed earlier event.Flush) ≡ []
  quiet_flushes plan seed earlier i d u second =
      flush_parts plan seed earlier
      ∙ only_first (flat_map p (flushes seed L1I plan.i (events_for L1I earlier))) _ _ _
      (quiet_flush seed L1D plan.d (events_for L1D earlier) d)
      (quiet_flush seed L1U plan.u (events_for L1U earlier) u) (quiet_flush seed L2U plan.second
      (lower_events plan seed earlier) second)
      ∙ quiet_flush seed L1I plan.i (events_for L1I earlier) i

  -- nothing is picked from the lines below the first level
  pub quiet_lower : (plan : PlannedCaches) (seed : ℕ) (earlier : List Event) (ref : Ref) →
      QuietAt L2U → QuietAtMemory → p (Bypassed ref) ≡ [] →
      flat_map p (lower_arrivals plan seed earlier ref) ≡ []
  quiet_lower plan seed earlier ref q m n = by_test (is_taken plan ref)
    where
      by_test : (b : Bool) →
          flat_map p (cond b (all_arrivals_below seed plan.second (lower_events plan seed earlier)
          (first_level_references plan seed earlier ref)) (Bypassed ref ∷ [])) ≡ []
      by_test true = quiet_below seed plan.second q m (lower_events plan seed earlier)
          (first_level_references plan seed earlier ref)
      by_test false = ap (λ xs. xs ++ []) n

  -- something is picked only from the lines of one cache
  abbrev pub OnlyAt : CacheName → Type 0
  OnlyAt name = ((other : CacheName) → is_same name other ≡ false → QuietAt other) × QuietAtMemory ×
      ((ref : Ref) → p (Bypassed ref) ≡ [])

  pub at_first : (plan : PlannedCaches) (seed : ℕ) (earlier : List Event) (ref : Ref)
      (name : CacheName) → is_same name L2U ≡ false → OnlyAt name →
      flat_map p (arrivals_of plan seed earlier (event.Reference ref)) ≡ flat_map p
      (first_level_arrivals seed name (planned_of plan name) earlier ref)
  at_first plan seed earlier ref L1I first (q, m, n) =
      reference_parts plan seed earlier ref
      ∙ only_first (flat_map p (first_level_arrivals seed L1I plan.i earlier ref)) _ _ _
      (quiet_first seed L1D plan.d earlier ref (q L1D refl))
      (quiet_first seed L1U plan.u earlier ref (q L1U refl)) (quiet_lower plan seed earlier ref
      (q L2U refl) m (n ref))
  at_first plan seed earlier ref L1D first (q, m, n) =
      reference_parts plan seed earlier ref
      ∙ only_second _ (flat_map p (first_level_arrivals seed L1D plan.d earlier ref)) _ _
      (quiet_first seed L1I plan.i earlier ref (q L1I refl))
      (quiet_first seed L1U plan.u earlier ref (q L1U refl)) (quiet_lower plan seed earlier ref
      (q L2U refl) m (n ref))
  at_first plan seed earlier ref L1U first (q, m, n) =
      reference_parts plan seed earlier ref
      ∙ only_third _ _ (flat_map p (first_level_arrivals seed L1U plan.u earlier ref)) _
      (quiet_first seed L1I plan.i earlier ref (q L1I refl))
      (quiet_first seed L1D plan.d earlier ref (q L1D refl)) (quiet_lower plan seed earlier ref
      (q L2U refl) m (n ref))
  at_first plan seed earlier ref L2U first o = absurd (true≢false first)

  -- from the lines of a reference below the first level alone
  pub at_lower : (plan : PlannedCaches) (seed : ℕ) (earlier : List Event) (ref : Ref) →
      QuietAt L1I → QuietAt L1D → QuietAt L1U →
      flat_map p (arrivals_of plan seed earlier (event.Reference ref)) ≡ flat_map p
      (lower_arrivals plan seed earlier ref)
  at_lower plan seed earlier ref i d u =
      reference_parts plan seed earlier ref
      ∙ only_fourth _ _ _ (flat_map p (lower_arrivals plan seed earlier ref))
      (quiet_first seed L1I plan.i earlier ref i)
      (quiet_first seed L1D plan.d earlier ref d) (quiet_first seed L1U plan.u earlier ref u)

  -- from the line of a flush of one cache alone
  pub at_flush : (plan : PlannedCaches) (seed : ℕ) (earlier : List Event) (name : CacheName) →
      ((other : CacheName) → is_same name other ≡ false → QuietAtFlush other) →
      flat_map p (arrivals_of plan seed earlier event.Flush)
      ≡ flat_map p (flushes seed name (planned_of plan name) (events_at plan seed name earlier))
  at_flush plan seed earlier L1I q =
      flush_parts plan seed earlier
      ∙ only_first (flat_map p (flushes seed L1I plan.i (events_for L1I earlier))) _ _ _
      (quiet_flush seed L1D plan.d (events_for L1D earlier) (q L1D refl))
      (quiet_flush seed L1U plan.u (events_for L1U earlier) (q L1U refl))
      (quiet_flush seed L2U plan.second (lower_events plan seed earlier) (q L2U refl))
  at_flush plan seed earlier L1D q =
      flush_parts plan seed earlier
      ∙ only_second _ (flat_map p (flushes seed L1D plan.d (events_for L1D earlier))) _ _
      (quiet_flush seed L1I plan.i (events_for L1I earlier) (q L1I refl))
      (quiet_flush seed L1U plan.u (events_for L1U earlier) (q L1U refl))
      (quiet_flush seed L2U plan.second (lower_events plan seed earlier) (q L2U refl))
  at_flush plan seed earlier L1U q =
      flush_parts plan seed earlier
      ∙ only_third _ _ (flat_map p (flushes seed L1U plan.u (events_for L1U earlier))) _
      (quiet_flush seed L1I plan.i (events_for L1I earlier) (q L1I refl))
      (quiet_flush seed L1D plan.d (events_for L1D earlier) (q L1D refl))
      (quiet_flush seed L2U plan.second (lower_events plan seed earlier) (q L2U refl))
  at_flush plan seed earlier L2U q =
      flush_parts plan seed earlier
      ∙ only_fourth _ _ _
      (flat_map p (flushes seed L2U plan.second (lower_events plan seed earlier)))
      (quiet_flush seed L1I plan.i (events_for L1I earlier) (q L1I refl))
      (quiet_flush seed L1D plan.d (events_for L1D earlier) (q L1D refl))
      (quiet_flush seed L1U plan.u (events_for L1U earlier) (q L1U refl))

-- The picks from a whole log, if each event adds the picks from its own lines.
module _ {X : Type 0} (p : Arrival → List X) (plan : PlannedCaches) (seed : ℕ) (whole : List Event →
    List X) (none : whole [] ≡ [])
    (more : (earlier : List Event) (e : Event) → whole (earlier ++ e ∷ []) ≡ whole earlier ++
    flat_map p (arrivals_of plan seed earlier e)) where
  from : (earlier events : List Event) → whole earlier ++
      flat_map p (arrivals_from plan seed earlier events) ≡ whole (earlier ++ events)
  from earlier [] = append-nil (whole earlier) ∙ ap whole (sym (append-nil earlier))
  from earlier (e ∷ events) =
      let now = arrivals_of plan seed earlier e in
      let later = arrivals_from plan seed (earlier ++ e ∷ []) events in
      ap (λ xs. whole earlier ++ xs) (flat_map-append p now later) ∙
      sym (append_assoc (whole earlier) (flat_map p now) (flat_map p later))
      ∙ ap (λ xs. xs ++ flat_map p later) (sym (more earlier e)) ∙ from (earlier ++ e ∷ []) events
      ∙ ap whole (append_assoc earlier (e ∷ []) events)

  pub whole_log : (events : List Event) → flat_map p (arrivals plan seed events) ≡ whole events
  whole_log events = ap (λ xs. xs ++ flat_map p (arrivals plan seed events)) (sym none) ∙
      from [] events

-- A list grows with each reference below the first level by the picks from that reference's lines.
module _ {X : Type 0} (p : Arrival → List X) (seed : ℕ) (plan : PlannedCaches)
    (told : List Event → List X)
    (one : (before : List Event) (ref : Ref) → told (before ++ event.Reference ref ∷ [])
    ≡ told before ++ flat_map p (arrivals_below seed plan.second before ref)) where
  told_below : (before : List Event) (refs : List Ref) → told (with_refs before refs)
      ≡ told before ++ flat_map p (all_arrivals_below seed plan.second before refs)
  told_below before [] = ap told (append-nil before) ∙ sym (append-nil (told before))
  told_below before (ref ∷ refs) =
      let more = before ++ event.Reference ref ∷ [] in
      let here = arrivals_below seed plan.second before ref in
      let later = all_arrivals_below seed plan.second more refs in
      ap told (sym (with_refs-cons before ref refs)) ∙ told_below more refs
      ∙ ap (λ xs. xs ++ flat_map p later) (one before ref)
      ∙ append_assoc (told before) (flat_map p here) (flat_map p later)
      ∙ ap (λ xs. told before ++ xs) (sym (flat_map-append p here later))

  pub told_lower : ((ref : Ref) → p (Bypassed ref) ≡ []) → (earlier : List Event) (ref : Ref) →
      told (lower_events plan seed (earlier ++ event.Reference ref ∷ []))
      ≡ told (lower_events plan seed earlier) ++ flat_map p (lower_arrivals plan seed earlier ref)
  told_lower quiet earlier ref =
      ap told (lower_events_push plan seed earlier ref) ∙ by_test (is_taken plan ref) refl
    where
      before : List Event
      before = lower_events plan seed earlier

      by_test : (b : Bool) → is_taken plan ref ≡ b →
          told (with_refs before (first_level_references plan seed earlier ref))
          ≡ told before ++ flat_map p (cond b (all_arrivals_below seed plan.second before
          (first_level_references plan seed earlier ref)) (Bypassed ref ∷ []))
      by_test true t = told_below before (first_level_references plan seed earlier ref)
      by_test false t = cc (
        untaken_sent plan seed earlier ref t,
        append-nil before,
        append-nil (told before),
        quiet ref,
      )
