-- The lines of the log follow from one another: what a line of a cache must send arrives next.
use Rattle.std.proofs.Common.{◌≡◌, ℕ, false, List, [], ◌∷◌, ◌++◌, Option, Some, None, refl}
use Rattle.std.proofs.Common.{sym, subst, arith, ◌∙◌, append-nil}
use Rattle.std.proofs.lemmas.Bool.{true≢false}
use Rattle.std.specs.Prelude.{is_some, ◌&&◌, ◌||◌}
use Rattle.std.specs.Option.{option_map}
use Rattle.trace_core.specs.declared.events.Ref.{Ref}
use Rattle.trace_core.specs.declared.events.Access.{Access}
use Rattle.trace_core.specs.declared.events.Access.TheVariants.{Fetch, Read, Write}
use Rattle.trace_core.specs.declared.events.Event.{Event}
use Rattle.trace_core.specs.declared.events.Event.TheVariants as event
use Rattle.cache_core.specs.declared.system.arrival.Arrival.{Arrival}
use Rattle.cache_core.specs.declared.system.plan.PlannedCache.{PlannedCache}
use Rattle.cache_core.specs.declared.system.plan.CacheName.{CacheName}
use Rattle.cache_core.specs.declared.system.plan.CacheName.TheVariants.{L1I, L1D, L1U}
use Rattle.cache_core.specs.cache.Machine.{run, step}
use Rattle.cache_core.specs.system.Plans.{PlannedCaches}
use Rattle.cache_core.specs.system.Systems.{machine_of, events_for, first_level_references}
use Rattle.cache_core.specs.system.Systems.{lower_events}
use Rattle.cache_core.specs.system.Arrivals.{victim_of, all_arrivals_below, references_passed}
use Rattle.cache_core.specs.system.Arrivals.{arrivals_of, arrivals_from}
use Rattle.cache_core.specs.system.LogLaws.{required_references_of, direct_references}
use Rattle.cache_core.specs.system.LogLaws.{second_level_references, Follow, FollowLaw}

-- a line says what its reference sends
says_of : (seed : ℕ) (planned : PlannedCache) (before : List Event) (ref : Ref) →
    let effect = (step (machine_of seed planned) (run (machine_of seed planned) before)
    ref).effect in
    required_references_of (Some planned) ref effect.hit
    (option_map (victim_of planned.design.geometry) effect.evicted)
    ≡ references_passed seed (Some planned) before ref
says_of seed planned before ref = grind arith

abbrev plan_with : Option PlannedCache → Option PlannedCache → Option PlannedCache →
    Option PlannedCache → PlannedCaches
plan_with i d u second = record { i = i; d = d; u = u; second = second }

lower_follows : (i d u second : Option PlannedCache) (seed : ℕ) (before : List Event)
    (refs : List Ref) (rest : List Arrival) →
    Follow (plan_with i d u second) [] [] rest →
    Follow (plan_with i d u second) (direct_references second refs)
    (second_level_references second refs) (all_arrivals_below seed second before refs ++ rest)
lower_follows i d u None seed before [] rest f = f
lower_follows i d u None seed before (ref ∷ refs) rest f =
    (refl, lower_follows i d u None seed (before ++ event.Reference ref ∷ []) refs rest f)
lower_follows i d u (Some second) seed before [] rest f = f
lower_follows i d u (Some second) seed before (ref ∷ refs) rest f =
    grind (
      arith,
      lower_follows i d u (Some second) seed (before ++
          event.Reference ref ∷ []) refs rest f,
    )

-- one event
module _ (seed : ℕ) (second : Option PlannedCache) (earlier : List Event) (addr : ℕ)
    (rest : List Arrival) where
  abbrev Follows : Option PlannedCache → Option PlannedCache → Option PlannedCache → Access → Type 0
  Follows i d u access =
      Follow (plan_with i d u second) [] []
      (arrivals_of (plan_with i d u second) seed earlier
      (event.Reference (record { access = access; addr = addr })) ++ rest)

  abbrev Before : Option PlannedCache → Option PlannedCache → Option PlannedCache → Type 0
  Before i d u = Follow (plan_with i d u second) [] [] rest

  -- a reference that this cache of the first level takes, and what it sends
  sent_follow : (i d u : Option PlannedCache) (name : CacheName) (planned : PlannedCache)
      (access : Access) → Before i d u →
      let plan = plan_with i d u second in
      let ref : Ref = record { access = access; addr = addr } in
      let here = events_for name earlier in
      let effect = (step (machine_of seed planned) (run (machine_of seed planned) here)
      ref).effect in
      let sends = required_references_of (Some planned) ref effect.hit
      (option_map (victim_of planned.design.geometry) effect.evicted) in
      first_level_references plan seed earlier ref ≡ references_passed seed
      (Some planned) here ref →
      Follow plan (direct_references second sends) (second_level_references second sends)
      (all_arrivals_below seed second (lower_events plan seed earlier)
      (first_level_references plan seed earlier ref) ++ rest)
  sent_follow i d u name planned access f e =
      let plan = plan_with i d u second in
      let ref : Ref = record { access = access; addr = addr } in
      let down = first_level_references plan seed earlier ref in
      subst (λ (sends : List Ref).
      Follow plan (direct_references second sends) (second_level_references second sends)
      (all_arrivals_below seed second (lower_events plan seed earlier) down ++ rest))
      (e ∙ sym (says_of seed planned (events_for name earlier) ref))
      (lower_follows i d u second seed (lower_events plan seed earlier) down rest f)

  reference_follows : (i d u : Option PlannedCache) →
      (is_some u && (is_some i || is_some d)) ≡ false → (access : Access) → Before i d u →
      Follows i d u access
  reference_follows None None (Some pu) e access f =
      sent_follow None None (Some pu) L1U pu access f refl
  reference_follows (Some pi) d (Some pu) e access f = absurd (true≢false e)
  reference_follows None (Some pd) (Some pu) e access f = absurd (true≢false e)
  reference_follows None None None e Fetch f = f
  reference_follows None (Some pd) None e Fetch f = f
  reference_follows (Some pi) None None e Fetch f = sent_follow (Some pi) None None L1I pi Fetch f
      (simp append-nil)
  reference_follows (Some pi) (Some pd) None e Fetch f =
      sent_follow (Some pi) (Some pd) None L1I pi Fetch f (simp append-nil)
  reference_follows None None None e Read f = f
  reference_follows (Some pi) None None e Read f = f
  reference_follows None (Some pd) None e Read f = sent_follow None (Some pd) None L1D pd Read f
      (simp append-nil)
  reference_follows (Some pi) (Some pd) None e Read f =
      sent_follow (Some pi) (Some pd) None L1D pd Read f (simp append-nil)
  reference_follows None None None e Write f = f
  reference_follows (Some pi) None None e Write f = f
  reference_follows None (Some pd) None e Write f = sent_follow None (Some pd) None L1D pd Write f
      (simp append-nil)
  reference_follows (Some pi) (Some pd) None e Write f =
      sent_follow (Some pi) (Some pd) None L1D pd Write f (simp append-nil)

module _ (plan : PlannedCaches) (seed : ℕ)
    (apart : (is_some plan.u && (is_some plan.i || is_some plan.d)) ≡ false) where
  event_follows : (earlier : List Event) (e : Event) (rest : List Arrival) →
      Follow plan [] [] rest →
      Follow plan [] [] (arrivals_of plan seed earlier e ++ rest)
  event_follows earlier (event.Reference ref) rest f =
      grind (
        arith,
        reference_follows seed plan.second earlier ref.addr rest plan.i plan.d plan.u apart
            ref.access f,
      )
  event_follows earlier event.Flush rest f = grind arith

  from : (earlier events : List Event) → Follow plan [] [] (arrivals_from plan seed earlier events)
  from earlier [] = tt
  from earlier (e ∷ events) = event_follows earlier e (arrivals_from plan seed (earlier ++ e ∷ [])
      events) (from (earlier ++ e ∷ []) events)

pub follow_law : FollowLaw
follow_law plan seed events p = from plan seed p.apart [] events
