-- The contents of a system as those of its machines after a list of events.
use Rattle.std.specs.Prelude.{◌≡◌, ℕ, List, length, Option, Some, None}
use Rattle.trace_core.specs.declared.events.Event.{Event}
use Rattle.cache_core.specs.declared.system.plan.PlannedCache.{PlannedCache}
use Rattle.cache_core.specs.declared.system.plan.CacheName.TheVariants.{L1I, L1D, L1U}
use Rattle.cache_core.specs.declared.system.system_cache.SystemCache.{SystemCache}
use Rattle.cache_core.specs.cache.Order.{Contents}
use Rattle.cache_core.specs.cache.Slab.{contents_of}
use Rattle.cache_core.specs.cache.Stands.{CacheStandsFor}
use Rattle.cache_core.specs.replacement.Chosen.{policy_of, random_numbers_of}
use Rattle.cache_core.specs.system.Plans.{PlannedCaches}
use Rattle.cache_core.specs.system.Systems.{machine_of, events_for, lower_events, system_run}
use Rattle.cache_core.specs.system.SystemSteps.{SystemValue, stats_of}

-- the contents of a cache of a system
abbrev pub system_cache_contents : SystemCache → Contents
system_cache_contents cache = contents_of policy_of random_numbers_of cache.cache

-- a cache of a system stands for the events that come to it
abbrev pub PlannedCacheStandsFor : ℕ → Option PlannedCache → List Event →
    Option SystemCache → Type 0
PlannedCacheStandsFor seed None events cache = cache ≡ None
PlannedCacheStandsFor seed (Some planned) events cache =
    (there : SystemCache) × (cache ≡ Some there) × CacheStandsFor (machine_of seed planned) events
    (system_cache_contents there)

-- a system stands for a list of events
pub record SystemStandsFor (plan : PlannedCaches) (seed : ℕ) (events : List Event)
    (v : SystemValue) : Type 0 where
  pub i : PlannedCacheStandsFor seed plan.i (events_for L1I events) v.i
  pub d : PlannedCacheStandsFor seed plan.d (events_for L1D events) v.d
  pub u : PlannedCacheStandsFor seed plan.u (events_for L1U events) v.u
  pub second : PlannedCacheStandsFor seed plan.second (lower_events plan seed events) v.second
  pub stats : stats_of v ≡ system_run plan seed events
  pub steps : v.steps ≡ length events
