-- The statistics of a cache, and the events that each of them counts.
use Rattle.std.specs.Prelude.{ℕ, ◌+◌, Bool, false, ◌&&◌, not, List, [], Option, is_some}
use Rattle.std.specs.Prelude.{unwrap_or, count_by}
use Rattle.trace_core.specs.declared.events.Access.{Access}
use Rattle.trace_core.specs.declared.events.Ref.{Ref}
use Rattle.trace_core.specs.Events.{is_fetch, is_read, is_write, one_if}
use Rattle.cache_core.specs.declared.system.stats.CacheStats.{CacheStats}
use Rattle.cache_core.specs.cache.Order.{is_dirty}
use Rattle.cache_core.specs.cache.Outcomes.{Effect}

-- the statistics of accesses, each a reference with its effect
abbrev pub stats_from : List (Ref × Effect) → CacheStats
stats_from all = record {
  fetches = count_by (λ p. is_fetch p.0.access) all;
  fetch_misses = count_by (λ p. is_fetch p.0.access && not p.1.hit) all;
  reads = count_by (λ p. is_read p.0.access) all;
  read_misses = count_by (λ p. is_read p.0.access && not p.1.hit) all;
  writes = count_by (λ p. is_write p.0.access) all;
  write_misses = count_by (λ p. is_write p.0.access && not p.1.hit) all;
  evictions = count_by (λ p. is_some p.1.evicted) all;
  copybacks = count_by (λ p. is_dirty p.1.evicted) all;
}

-- nothing is counted yet
abbrev pub no_counts : CacheStats
no_counts = stats_from []

-- one access more: whether it hits, and whether the block that it evicts is dirty, if it evicts one
abbrev pub stats_after_access : Access → Bool → Option Bool → CacheStats → CacheStats
stats_after_access access hit evicted s = record {
  fetches = s.fetches + one_if (is_fetch access);
  fetch_misses = s.fetch_misses + one_if (is_fetch access && not hit);
  reads = s.reads + one_if (is_read access);
  read_misses = s.read_misses + one_if (is_read access && not hit);
  writes = s.writes + one_if (is_write access);
  write_misses = s.write_misses + one_if (is_write access && not hit);
  evictions = s.evictions + one_if (is_some evicted);
  copybacks = s.copybacks + one_if (unwrap_or evicted false);
}

-- a flush more, which finds so many dirty blocks
abbrev pub stats_after_flush : ℕ → CacheStats → CacheStats
stats_after_flush dirty s = record s { copybacks = s.copybacks + dirty }
