-- The counts of a cache in their bounds. Only the proofs need these definitions.
use Rattle.std.specs.Prelude.{◌≤◌, ℕ, ◌+◌, ◌^◌}
use Rattle.cache_core.specs.declared.system.stats.CacheStats.{CacheStats}

-- how many accesses are counted
abbrev pub accesses : CacheStats → ℕ
accesses s = s.fetches + s.reads + s.writes

-- The invariant of the counts of a cache: there are at most 2^62 accesses, misses are accesses of
-- their kind, and an eviction is an access.
pub record IsCounted (s : CacheStats) : Type 0 where
  pub few : accesses s ≤ 2 ^ 62
  pub fetch_misses : s.fetch_misses ≤ s.fetches
  pub read_misses : s.read_misses ≤ s.reads
  pub write_misses : s.write_misses ≤ s.writes
  pub evictions : s.evictions ≤ accesses s
