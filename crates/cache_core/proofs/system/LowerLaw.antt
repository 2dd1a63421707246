-- The second level and memory: what arrives at them, and what they count.
use Rattle.std.proofs.Common.{◌≡◌, ℕ, ◌+◌, not, Bool, List, [], ◌∷◌, ◌++◌, Option, Some, None}
use Rattle.std.proofs.Common.{◌∙◌}
use Rattle.std.proofs.Common.{ap, subst, arith, append-nil}
use Rattle.std.specs.Prelude.{count_by, MatchOption}
use Rattle.std.proofs.lemmas.List.Sums.{sum_by-append}
use Rattle.trace_core.specs.declared.events.Ref.{Ref}
use Rattle.trace_core.specs.declared.events.Event.{Event}
use Rattle.trace_core.specs.declared.events.Event.TheVariants as event
use Rattle.trace_core.specs.Events.{is_write}
use Rattle.cache_core.specs.declared.system.plan.PlannedCache.{PlannedCache}
use Rattle.cache_core.specs.declared.system.system_cache.SystemCache.{SystemCache}
use Rattle.cache_core.specs.declared.system.below.Memory.{Memory}
use Rattle.cache_core.specs.system.Plans.{IsPlannedCache}
use Rattle.cache_core.specs.system.Systems.{machine_of, to_memory}
use Rattle.cache_core.specs.internal.system.SystemSteps.{present_refs, memory_after_all, Descends}
use Rattle.cache_core.specs.internal.system.SystemSteps.{AllDescend}
use Rattle.cache_core.specs.system.Arrivals.{references_passed}
use Rattle.cache_core.proofs.system.SystemPushes.{memory_push, with_refs, with_refs-cons}
use Rattle.cache_core.proofs.system.FirstLevelLaw.{enters, KeptIfPlanned, down_list}

abbrev pub is_read_of : Ref → Bool
is_read_of ref = not (is_write ref.access)

abbrev pub is_write_of : Ref → Bool
is_write_of ref = is_write ref.access

-- the second level and memory after the events that came to them, where so many lines were flushed
pub record Lower (seed : ℕ) (planned : Option PlannedCache) (events : List Event) (flushed : ℕ)
    (cache : Option SystemCache)
    (memory : Memory) : Type 0 where
  pub kept : KeptIfPlanned seed planned events cache
  pub reads : memory.reads ≡ count_by is_read_of (to_memory seed planned events)
  pub writes : memory.writes ≡ count_by is_write_of (to_memory seed planned events) + flushed

module _ (seed flushed : ℕ) where
  reached : (planned : Option PlannedCache) (events : List Event) (cache next : Option SystemCache)
      (memory after : Memory) (ref : Ref) →
      Lower seed planned events flushed cache memory →
      KeptIfPlanned seed planned (events ++ event.Reference ref ∷ []) next →
      after ≡ memory_after_all memory (references_passed seed planned events ref) →
      Lower seed planned (events ++ event.Reference ref ∷ []) flushed next after
  reached planned events cache next memory after ref l k e =
      grind (arith, memory_push, sum_by-append)

  descends : (planned : Option PlannedCache) (events : List Event) (cache next : Option SystemCache)
      (memory after : Memory) (ref : Ref) →
      IsPlannedCache planned → Lower seed planned events flushed cache memory →
      Descends ref cache memory next after →
      Lower seed planned (events ++ event.Reference ref ∷ []) flushed next after
  descends None events cache next memory after ref l low d =
      let e = subst (λ (s : Option SystemCache). Descends ref s memory next after) low.kept d in
      reached None events cache next memory after ref low e.0 e.1
  descends (Some planned) events cache next memory after ref l low d =
      let e = subst (λ (s : Option SystemCache). Descends ref s memory next after) low.kept.1 d in
      let r = enters (machine_of seed planned) events low.kept.0 ref e.0 e.1 l.some
      low.kept.2 e.2 in
      reached (Some planned) events cache next memory after ref low (e.1, e.3, r.kept)
      (e.4 ∙ ap (memory_after_all memory) r.sends)

  -- nothing is sent down
  stays : (planned : Option PlannedCache) (events : List Event) (cache next : Option SystemCache)
      (memory after : Memory) →
      Lower seed planned events flushed cache memory → next ≡ cache → after ≡ memory →
      Lower seed planned (events ++ []) flushed next after
  stays planned events cache next memory after low same unread = rw (same, unread, append-nil) low

  all_descend : (planned : Option PlannedCache) (events : List Event)
      (cache next : Option SystemCache) (memory after : Memory) (refs : List Ref) →
      IsPlannedCache planned → Lower seed planned events flushed cache memory →
      AllDescend refs cache memory next after →
      Lower seed planned (with_refs events refs) flushed next after
  all_descend planned events cache next memory after [] l low d =
      stays planned events cache next memory after low d.0 d.1
  all_descend planned events cache next memory after (ref ∷ refs) l low (mid, half, one, more) =
      subst (λ (es : List Event). Lower seed planned es flushed next after)
      (with_refs-cons events ref refs)
      (all_descend planned (events ++ event.Reference ref ∷ []) mid next half after refs l
      (descends planned events cache mid memory half ref l low one) more)

  -- what the first level sends down, if a cache of it took the reference
  pub lower_after : (planned : Option PlannedCache) (events : List Event)
      (cache next : Option SystemCache) (memory after : Memory)
      (down : Option (List (Option Ref))) →
      IsPlannedCache planned → Lower seed planned events flushed cache memory →
      MatchOption down ((next ≡ cache) × (after ≡ memory))
      (λ refs. AllDescend (present_refs refs) cache memory next after) →
      Lower seed planned (with_refs events (down_list down)) flushed next after
  lower_after planned events cache next memory after None l low d =
      stays planned events cache next memory after low d.0 d.1
  lower_after planned events cache next memory after (Some down) l low d =
      all_descend planned events cache next memory after (present_refs down) l low d
