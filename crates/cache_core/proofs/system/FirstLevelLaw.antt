-- One reference at the first level of a system, as its caches see it and as their machines see it.
use Rattle.std.proofs.Common.{◌≡◌, ℕ, ◌≤◌, ◌&&◌, ◌||◌, not, Bool, true, false, cond, List, [], ◌∷◌}
use Rattle.std.proofs.Common.{◌++◌, length, Option, Some, None, refl, sym, ◌∙◌, ap, subst, arith}
use Rattle.std.proofs.Common.{append-nil}
use Rattle.std.specs.Prelude.{is_some, is_none, ◌≢◌}
use Rattle.std.proofs.lemmas.Bool.{MatchBool-at_true, MatchBool-at_false, true≢false}
use Rattle.trace_core.specs.declared.events.Ref.{Ref}
use Rattle.trace_core.specs.declared.events.Event.{Event}
use Rattle.trace_core.specs.declared.events.Event.TheVariants as event
use Rattle.trace_core.specs.Events.{is_fetch}
use Rattle.cache_core.specs.declared.outcome.Outcome.{Outcome}
use Rattle.cache_core.specs.declared.system.plan.PlannedCache.{PlannedCache}
use Rattle.cache_core.specs.declared.system.plan.CacheName.{CacheName}
use Rattle.cache_core.specs.declared.system.plan.CacheName.TheVariants.{L1I, L1D, L1U}
use Rattle.cache_core.specs.declared.system.system_cache.SystemCache.{SystemCache}
use Rattle.cache_core.specs.cache.Outcomes.{two_options}
use Rattle.cache_core.specs.cache.Machine.{Machine, run, step}
use Rattle.cache_core.specs.system.Plans.{IsPlannedCache}
use Rattle.cache_core.specs.cache.Stands.{CacheStandsFor}
use Rattle.cache_core.specs.system.SystemStands.{system_cache_contents, PlannedCacheStandsFor}
use Rattle.cache_core.specs.internal.system.CacheSteps.{Enters}
use Rattle.cache_core.specs.system.Systems.{machine_of, is_taken_by, events_for, references_sent}
use Rattle.cache_core.specs.system.Systems.{cache_stats, counts_if_planned}
use Rattle.cache_core.specs.internal.system.SystemSteps.{present_refs, AccessesFirst}
use Rattle.cache_core.specs.internal.system.SystemSteps.{AccessesUnified, AccessesSplit}
use Rattle.cache_core.specs.internal.system.SystemSteps.{AccessesFirstLevel, first_name}
use Rattle.cache_core.specs.system.SystemSteps.{stats_held}
use Rattle.cache_core.proofs.cache.RunLaw.{access_run}
use Rattle.cache_core.proofs.cache.DownLaw.{down_law}
use Rattle.cache_core.proofs.system.SystemPushes.{counts_push, events_taken, events_left}

pub present_refs_two : (xs : List Ref) → length xs ≤ 2 → present_refs (two_options xs) ≡ xs
present_refs_two [] h = refl
present_refs_two (x ∷ []) h = refl
present_refs_two (x ∷ y ∷ []) h = refl
present_refs_two (x ∷ y ∷ z ∷ xs) h = absurd (omega arith)

-- what the name of the cache that takes a reference says of the system and of the reference
pub unified_takes : (u : Option SystemCache) (ref : Ref) (name : CacheName) →
    name ≡ first_name u ref → name ≡ L1U → is_some u ≡ true
unified_takes u ref name is n = grind arith

pub fetch_cache_takes : (u : Option SystemCache) (ref : Ref) (name : CacheName) →
    name ≡ first_name u ref → name ≡ L1I → (is_some u ≡ false) × (is_fetch ref.access ≡ true)
fetch_cache_takes u ref name is n = grind arith

pub data_cache_takes : (u : Option SystemCache) (ref : Ref) (name : CacheName) →
    name ≡ first_name u ref → name ≢ L1U → name ≢ L1I →
    (is_some u ≡ false) × (is_fetch ref.access ≡ false) × (name ≡ L1D)
data_cache_takes u ref name is not_u not_i = grind arith

-- one cache
pub record Kept (m : Machine) (events : List Event) (cache : SystemCache) : Type 0 where
  pub stands : CacheStandsFor m events (system_cache_contents cache)
  pub counts : cache.stats ≡ cache_stats m events

pub record Entered (m : Machine) (events : List Event) (ref : Ref) (outcome : Outcome)
    (new : SystemCache) : Type 0 where
  pub kept : Kept m (events ++ event.Reference ref ∷ []) new
  pub sends : present_refs outcome.down ≡ (step m (run m events) ref).effect.down

pub enters : (m : Machine) (events : List Event) (old : SystemCache) (ref : Ref) (outcome : Outcome)
    (new : SystemCache) → 1 ≤ m.design.geometry.e →
    Kept m events old → Enters old ref outcome new → Entered m events ref outcome new
enters m events old ref outcome new some k e =
    grind (
      arith,
      access_run m events (system_cache_contents old) ref outcome (system_cache_contents new) some
          k.stands e.access,
      counts_push m events ref,
      present_refs_two (step m (run m events) ref).effect.down (down_law m events ref),
    )

-- a cache, if it is there
abbrev pub KeptIfPlanned : ℕ → Option PlannedCache → List Event → Option SystemCache → Type 0
KeptIfPlanned seed None events cache = cache ≡ None
KeptIfPlanned seed (Some planned) events cache = (there : SystemCache) × (cache ≡ Some there) ×
    Kept (machine_of seed planned) events there

pub with_counts : (seed : ℕ) (planned : Option PlannedCache) (events : List Event)
    (cache : Option SystemCache) →
    PlannedCacheStandsFor seed planned events cache →
    stats_held cache ≡ counts_if_planned seed planned events →
    KeptIfPlanned seed planned events cache
with_counts seed None events cache s c = s
with_counts seed (Some planned) events cache s c =
    let both : Some s.0.stats ≡ Some (cache_stats (machine_of seed planned) events) =
    ap stats_held (sym s.1) ∙ c in
    let same : s.0.stats ≡ cache_stats (machine_of seed planned) events = cc in
    (s.0, s.1, record { stands = s.2; counts = same })

pub stands_of : (seed : ℕ) (planned : Option PlannedCache) (events : List Event)
    (cache : Option SystemCache) → KeptIfPlanned seed planned events cache →
    PlannedCacheStandsFor seed planned events cache
stands_of seed None events cache k = k
stands_of seed (Some planned) events cache k = (k.0, k.1, k.2.stands)

-- the references that were sent down, none where no cache took the reference
abbrev pub down_list : Option (List (Option Ref)) → List Ref
down_list None = []
down_list (Some xs) = present_refs xs

-- what a cache sends down for a reference that it takes, if it is there
abbrev pub sends_of : ℕ → Option PlannedCache → List Event → Ref → List Ref
sends_of seed None events ref = []
sends_of seed (Some planned) events ref =
    (step (machine_of seed planned) (run (machine_of seed planned) events) ref).effect.down

-- a first-level cache after a reference that it takes, if it is there
record AccessedFirst (seed : ℕ) (planned : Option PlannedCache) (events : List Event) (ref : Ref)
    (down : Option (List (Option Ref)))
    (next : Option SystemCache) : Type 0 where
  kept : KeptIfPlanned seed planned (events ++ event.Reference ref ∷ []) next
  sends : down_list down ≡ sends_of seed planned events ref
  none : is_none down ≡ is_none planned

first_access_keeps : (seed : ℕ) (planned : Option PlannedCache) (events : List Event)
    (cache : Option SystemCache) (ref : Ref)
    (down : Option (List (Option Ref))) (next : Option SystemCache) →
    IsPlannedCache planned → KeptIfPlanned seed planned events cache →
    AccessesFirst cache ref down next → AccessedFirst seed planned events ref down next
first_access_keeps seed None events cache ref None next l k a =
    record { kept = a.1; sends = refl; none = refl }
first_access_keeps seed None events cache ref (Some down) next l k a = let both : None ≡ Some a.0 =
    sym k ∙ a.3 in absurd cc
first_access_keeps seed (Some planned) events cache ref None next l k a =
    let both : None ≡ Some k.0 = sym a.0 ∙ k.1 in absurd cc
first_access_keeps seed (Some planned) events cache ref (Some down) next l k a =
    let m = machine_of seed planned in
    let both : Some k.0 ≡ Some a.0 = sym k.1 ∙ a.3 in
    let same : k.0 ≡ a.0 = cc in
    let r = enters m events a.0 ref a.2 a.1 l.some (subst (λ (s : SystemCache). Kept m events s)
    same k.2) a.6 in
    record { kept = (a.1, a.4, r.kept); sends = ap present_refs a.5 ∙ r.sends; none = refl }

-- a reference that comes to a cache of the first level, or not
module _ (seed : ℕ) (name : CacheName) (planned : Option PlannedCache) (events : List Event)
    (ref : Ref) where
  abbrev more : List Event
  more = events_for name (events ++ event.Reference ref ∷ [])

  references_sent_taken : is_taken_by name ref ≡ true →
      references_sent seed name planned events ref ≡
      sends_of seed planned (events_for name events) ref
  references_sent_taken t = by_plan planned
    where
      by_plan : (p : Option PlannedCache) → references_sent seed name p events ref ≡ sends_of seed p
          (events_for name events) ref
      by_plan None = refl
      by_plan (Some p) = ap (λ b. cond b
          (step (machine_of seed p) (run (machine_of seed p) (events_for name events))
          ref).effect.down []) t

  references_sent_left : is_taken_by name ref ≡ false →
      references_sent seed name planned events ref ≡ []
  references_sent_left t = by_plan planned
    where
      by_plan : (p : Option PlannedCache) → references_sent seed name p events ref ≡ []
      by_plan None = refl
      by_plan (Some p) = ap (λ b. cond b
          (step (machine_of seed p) (run (machine_of seed p) (events_for name events))
          ref).effect.down []) t

  kept_taken : (cache : Option SystemCache) → is_taken_by name ref ≡ true →
      KeptIfPlanned seed planned (events_for name events ++ event.Reference ref ∷ []) cache →
      KeptIfPlanned seed planned more cache
  kept_taken cache t k = subst (λ (es : List Event). KeptIfPlanned seed planned es cache)
      (sym (events_taken name events ref t)) k

  kept_left : (cache next : Option SystemCache) → is_taken_by name ref ≡ false → next ≡ cache →
      KeptIfPlanned seed planned (events_for name events) cache →
      KeptIfPlanned seed planned more next
  kept_left cache next t e k = rw (e, events_left name events ref t) k

-- the first level after a reference: its caches, what they sent down, and whether none took it
pub record FirstKept (seed : ℕ) (pi pd pu : Option PlannedCache) (events : List Event) (ref : Ref)
    (down : Option (List (Option Ref)))
    (i d u : Option SystemCache) : Type 0 where
  pub i_kept : KeptIfPlanned seed pi (events_for L1I (events ++ event.Reference ref ∷ [])) i
  pub d_kept : KeptIfPlanned seed pd (events_for L1D (events ++ event.Reference ref ∷ [])) d
  pub u_kept : KeptIfPlanned seed pu (events_for L1U (events ++ event.Reference ref ∷ [])) u
  pub all_sent : down_list down ≡ references_sent seed L1I pi events ref ++
      references_sent seed L1D pd events ref ++ references_sent seed L1U pu events ref
  pub untaken : is_none down ≡ not (is_some pu || (is_some pi && is_taken_by L1I ref) ||
      (is_some pd && is_taken_by L1D ref))

none_first : (o p : Option PlannedCache) (a b : Bool) → a ≡ true → b ≡ false →
    is_none o ≡ not ((is_some o && a) || (is_some p && b))
none_first o p a b s t = grind arith

none_second : (o p : Option PlannedCache) (a b : Bool) → a ≡ false → b ≡ true →
    is_none p ≡ not ((is_some o && a) || (is_some p && b))
none_second o p a b s t = grind arith

module _ (seed : ℕ) (events : List Event) (ref : Ref) (down : Option (List (Option Ref)))
    (i d u i' d' u' : Option SystemCache) where
  unified : (planned : PlannedCache) → IsPlannedCache (Some planned) → i ≡ None → d ≡ None →
      KeptIfPlanned seed (Some planned) (events_for L1U events) u →
      AccessesFirstLevel i d u ref down i' d' u' → FirstKept seed None None (Some planned) events
      ref down i' d' u'
  unified planned l ki kd ku f =
      let there : is_some u ≡ true = ap is_some ku.1 in
      let g = MatchBool-at_true (AccessesUnified i d u ref down i' d' u')
      (AccessesSplit (is_fetch ref.access) i d u ref down i' d' u') there f in
      let a = first_access_keeps seed (Some planned) (events_for L1U events) u ref down
      u' l ku g.0 in
      grind (arith, kept_taken seed L1U (Some planned) events ref u' refl a.kept)

  split : (pi pd : Option PlannedCache) (fetch : Bool) → is_fetch ref.access ≡ fetch →
      IsPlannedCache pi → IsPlannedCache pd →
      KeptIfPlanned seed pi (events_for L1I events) i →
      KeptIfPlanned seed pd (events_for L1D events) d → u ≡ None →
      AccessesSplit fetch i d u ref down i' d' u' →
      FirstKept seed pi pd None events ref down i' d' u'
  split pi pd true t li ld ki kd ku g =
      let n : not (is_fetch ref.access) ≡ false = ap not t in
      let a = first_access_keeps seed pi (events_for L1I events) i ref down i' li ki g.0 in
      record {
        i_kept = kept_taken seed L1I pi events ref i' t a.kept;
        d_kept = kept_left seed L1D pd events ref d d' n g.1 kd;
        u_kept = g.2 ∙ ku;
        all_sent = rw (
          references_sent_taken seed L1I pi events ref t,
          references_sent_left seed L1D pd events ref n,
        )
            (simp append-nil a.sends);
        untaken = a.none ∙ none_first pi pd (is_fetch ref.access) (not (is_fetch ref.access)) t n;
      }
  split pi pd false t li ld ki kd ku g =
      let n : not (is_fetch ref.access) ≡ true = ap not t in
      let a = first_access_keeps seed pd (events_for L1D events) d ref down d' ld kd g.0 in
      record {
        i_kept = kept_left seed L1I pi events ref i i' t g.1 ki;
        d_kept = kept_taken seed L1D pd events ref d' n a.kept;
        u_kept = g.2 ∙ ku;
        all_sent = rw (
          references_sent_left seed L1I pi events ref t,
          references_sent_taken seed L1D pd events ref n,
        )
            (simp append-nil a.sends);
        untaken = a.none ∙ none_second pi pd (is_fetch ref.access) (not (is_fetch ref.access)) t n;
      }

  pub first_keeps : (pi pd pu : Option PlannedCache) → IsPlannedCache pi → IsPlannedCache pd →
      IsPlannedCache pu →
      (is_some pu && (is_some pi || is_some pd)) ≡ false →
      KeptIfPlanned seed pi (events_for L1I events) i →
      KeptIfPlanned seed pd (events_for L1D events) d →
      KeptIfPlanned seed pu (events_for L1U events) u →
      AccessesFirstLevel i d u ref down i' d' u' → FirstKept seed pi pd pu events ref down i' d' u'
  first_keeps pi pd None li ld lu apart ki kd ku f =
      let none : is_some u ≡ false = ap is_some ku in
      let g = MatchBool-at_false (AccessesUnified i d u ref down i' d' u')
      (AccessesSplit (is_fetch ref.access) i d u ref down i' d' u') none f in
      split pi pd (is_fetch ref.access) refl li ld ki kd ku g
  first_keeps None None (Some pu) li ld lu apart ki kd ku f = unified pu lu ki kd ku f
  first_keeps None (Some pd) (Some pu) li ld lu apart ki kd ku f = absurd (true≢false apart)
  first_keeps (Some pi) pd (Some pu) li ld lu apart ki kd ku f = absurd (true≢false apart)
