-- The statistics of a system as counts of its log: each arrival counts once, at its place, and so
-- does each copyback of a flush.
use Rattle.std.specs.Prelude.{◌≡◌, ℕ, ◌+◌, not, List, fold}
use Rattle.std.specs.Option.{option_map}
use Rattle.trace_core.specs.declared.events.Ref.{Ref}
use Rattle.trace_core.specs.declared.events.Event.{Event}
use Rattle.trace_core.specs.Events.{is_write, one_if}
use Rattle.cache_core.specs.declared.system.plan.CacheName.{CacheName}
use Rattle.cache_core.specs.declared.system.plan.CacheName.TheVariants.{L1I, L1D, L1U, L2U}
use Rattle.cache_core.specs.declared.system.arrival.Arrival.{Arrival}
use Rattle.cache_core.specs.declared.system.arrival.Arrival.TheVariants.{Cache, Memory, Bypassed}
use Rattle.cache_core.specs.declared.system.arrival.Arrival.TheVariants.{Flush}
use Rattle.cache_core.specs.declared.system.stats.CacheStats.{CacheStats}
use Rattle.cache_core.specs.declared.system.stats.Stats.{Stats}
use Rattle.cache_core.specs.system.Plans.{PlannedCaches}
use Rattle.cache_core.specs.system.CacheStats.{no_counts, stats_after_access, stats_after_flush}
use Rattle.cache_core.specs.system.Systems.{system_run}
use Rattle.cache_core.specs.system.Arrivals.{arrivals}

-- a change of the counts of the cache of this name, if there is one
abbrev pub stats_with_change : CacheName → (CacheStats → CacheStats) → Stats → Stats
stats_with_change L1I f s = record s { l1i = option_map f s.l1i }
stats_with_change L1D f s = record s { l1d = option_map f s.l1d }
stats_with_change L1U f s = record s { l1u = option_map f s.l1u }
stats_with_change L2U f s = record s { l2u = option_map f s.l2u }

-- the statistics with one more reference at memory
abbrev pub stats_after_memory : Ref → Stats → Stats
stats_after_memory ref s =
    record s {
      memory_reads = s.memory_reads + one_if (not (is_write ref.access));
      memory_writes =
          s.memory_writes + one_if (is_write ref.access);
    }

-- the statistics with one more arrival
abbrev pub stats_after_arrival : Stats → Arrival → Stats
stats_after_arrival s (Cache name ref hit victim) =
    stats_with_change name (stats_after_access ref.access hit (option_map (λ v. v.dirty) victim)) s
stats_after_arrival s (Memory ref) = stats_after_memory ref s
stats_after_arrival s (Bypassed ref) = record s { bypassed = s.bypassed + 1 }
stats_after_arrival s (Flush name dirty) =
    (let t = stats_with_change name (stats_after_flush dirty) s in
    record t { memory_writes = t.memory_writes + dirty })

-- the statistics before any arrival
abbrev pub no_stats : PlannedCaches → Stats
no_stats plan = record {
  l1i = option_map (λ p. no_counts) plan.i;
  l1d = option_map (λ p. no_counts) plan.d;
  l1u = option_map (λ p. no_counts) plan.u;
  l2u = option_map (λ p. no_counts) plan.second;
  memory_reads = 0;
  memory_writes = 0;
  bypassed = 0;
}

-- the statistics are the counts of the log
abbrev pub LogLaw : Type 0
LogLaw = (plan : PlannedCaches) (seed : ℕ) (events : List Event) →
    fold stats_after_arrival (no_stats plan) (arrivals plan seed events) ≡ system_run
    plan seed events
