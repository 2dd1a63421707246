-- What a system has, and its statistics.
use Rattle.std.specs.Prelude.{◌≤◌, ℕ, Option, Some, None}
use Rattle.cache_core.specs.declared.system.stats.CacheStats.{CacheStats}
use Rattle.cache_core.specs.declared.system.stats.Stats.{Stats}
use Rattle.cache_core.specs.declared.system.system_cache.SystemCache.{SystemCache}
use Rattle.cache_core.specs.declared.system.below.Memory.{Memory}

-- a system: its caches, what reached memory, the references that no cache took, and its steps
pub record SystemValue : Type 0 where
  pub i : Option SystemCache
  pub d : Option SystemCache
  pub u : Option SystemCache
  pub second : Option SystemCache
  pub memory : Memory
  pub bypassed : ℕ
  pub steps : ℕ

-- the counts of a cache, if there is one
abbrev pub stats_held : Option SystemCache → Option CacheStats
stats_held None = None
stats_held (Some cache) = Some cache.stats

-- the statistics of a system
abbrev pub stats_of : SystemValue → Stats
stats_of v = record {
  l1i = stats_held v.i;
  l1d = stats_held v.d;
  l1u = stats_held v.u;
  l2u = stats_held v.second;
  memory_reads = v.memory.reads;
  memory_writes = v.memory.writes;
  bypassed = v.bypassed;
}

-- a cache, if there is one, copied back no more blocks than it took writes
abbrev pub HasWritten : Option CacheStats → Type 0
HasWritten None = Unit {0}
HasWritten (Some stats) = stats.copybacks ≤ stats.writes
