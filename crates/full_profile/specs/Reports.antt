-- What `din` reports of an LRU cache with write-allocate and write-back, and the counts of the same
-- cache.
use Rattle.std.specs.Prelude.{◌≡◌, ◌+◌, Some, None, List}
use Rattle.trace_core.specs.declared.events.Event.{Event}
use Rattle.cache_core.specs.declared.design.WriteMode.TheVariants.{Back}
use Rattle.cache_core.specs.declared.design.AllocMode.TheVariants.{Always}
use Rattle.cache_core.specs.declared.design.Repl.TheVariants.{Lru}
use Rattle.cache_core.specs.declared.system.plan.PlannedCache.{PlannedCache}
use Rattle.cache_core.specs.declared.system.plan.CacheName.{CacheName}
use Rattle.cache_core.specs.declared.system.plan.CacheName.TheVariants.{L1I, L1D, L1U, L2U}
use Rattle.cache_core.specs.declared.system.stats.CacheStats.{CacheStats}
use Rattle.cache_core.specs.Geometry.{GeometryValue}
use Rattle.cache_core.specs.LruLaws.{lru_machine}
use Rattle.cache_core.specs.system.Plans.{PlannedCaches}
use Rattle.cache_core.specs.system.Systems.{cache_stats}
use Rattle.full_profile.specs.declared.counts.FullCounts.{FullCounts}

-- the statistics of such a cache over its events
abbrev pub lru_stats : GeometryValue → List Event → CacheStats
lru_stats g es = cache_stats (lru_machine g Back) es

-- counts that say the same as the statistics of a cache
pub record IsReported (c : FullCounts) (s : CacheStats) : Type 0 where
  pub references : c.hits + c.misses ≡ s.fetches + s.reads + s.writes
  pub misses : c.misses ≡ s.fetch_misses + s.read_misses + s.write_misses
  pub fetch_misses : c.fetch_misses ≡ s.fetch_misses
  pub read_misses : c.read_misses ≡ s.read_misses
  pub write_misses : c.write_misses ≡ s.write_misses
  pub evictions : c.evictions ≡ s.evictions
  pub copybacks : c.copybacks ≡ s.copybacks

-- such a cache, as it is planned
abbrev pub planned_lru : GeometryValue → PlannedCache
planned_lru g = record {
  design = record { geometry = g; write = Back; allocate = Always };
  policy = Lru;
}

-- a system with this cache alone, under a name
abbrev pub plan_alone : CacheName → PlannedCache → PlannedCaches
plan_alone L1I planned = record { i = Some planned; d = None; u = None; second = None }
plan_alone L1D planned = record { i = None; d = Some planned; u = None; second = None }
plan_alone L1U planned = record { i = None; d = None; u = Some planned; second = None }
plan_alone L2U planned = record { i = None; d = None; u = None; second = Some planned }
