-- An LRU cache with its counts, and the lists of events that it stands for.
use Rattle.std.specs.Prelude.{◌≡◌, ◌≤◌, ℕ, ◌+◌, List, Option, Some, if◌then◌else◌}
use Rattle.trace_core.specs.declared.events.Event.{Event}
use Rattle.cache_core.specs.declared.design.Repl.{Repl}
use Rattle.cache_core.specs.declared.design.Repl.TheVariants.{Lru}
use Rattle.cache_core.specs.declared.design.WriteMode.TheVariants.{Back}
use Rattle.cache_core.specs.declared.replacement.Lru.{Lru as LruPolicy}
use Rattle.cache_core.specs.declared.outcome.Counts.{Counts}
use Rattle.cache_core.specs.declared.simulation.Lookup.{Lookup}
use Rattle.cache_core.specs.declared.simulation.Lookup.TheVariants.{Hit, Miss, MissEviction}
use Rattle.cache_core.specs.declared.simulation.Simulation.{Simulation}
use Rattle.cache_core.specs.Geometry.{GeometryValue}
use Rattle.cache_core.specs.LruLaws.{lru_machine}
use Rattle.cache_core.specs.Windows.{Occurrence, counts, is_hit, is_evict}
use Rattle.cache_core.specs.cache.Order.{Contents}
use Rattle.cache_core.specs.cache.Slab.{CacheValue, contents_of}
use Rattle.cache_core.specs.cache.Stands.{CacheStandsFor}

-- how a reference goes in an LRU cache
abbrev pub lookup_at : GeometryValue → Occurrence → Lookup
lookup_at g p = if is_hit g p then Hit else if is_evict g p then MissEviction else Miss

-- the policy of a cache under LRU
abbrev pub lru_policy : LruPolicy → Option Repl
lru_policy _ = Some Lru

-- its random numbers
abbrev pub no_numbers : LruPolicy → ℕ → ℕ
no_numbers _ _ = 0

-- the contents of a cache under LRU
abbrev pub lru_contents : CacheValue LruPolicy → Contents
lru_contents cache = contents_of lru_policy no_numbers cache

-- the counts with one more lookup
abbrev pub counts_with : Counts → Lookup → Counts
counts_with c Hit = record c { hits = c.hits + 1 }
counts_with c Miss = record c { misses = c.misses + 1 }
counts_with c MissEviction = record c { misses = c.misses + 1; evictions = c.evictions + 1 }

-- each count is at most n
pub record SimulationCountsWithin (n : ℕ) (c : Counts) : Type 0 where
  pub hits : c.hits ≤ n
  pub misses : c.misses ≤ n
  pub evictions : c.evictions ≤ n

-- the cache and the counts are those of a list of events
pub record SimulationStandsFor (g : GeometryValue) (events : List Event)
    (sim : Simulation) : Type 0 where
  pub some : 1 ≤ g.e
  pub cache : CacheStandsFor (lru_machine g Back) events (lru_contents sim.cache)
  pub counts : sim.counts ≡ counts g events
