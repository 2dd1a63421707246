-- Worked runs of systems of caches, computed.
use Rattle.std.proofs.Common.{◌≡◌, ℕ, [], ◌∷◌, Option, Some, None, refl}
use Rattle.trace_core.specs.declared.events.Event.TheVariants as event
use Rattle.cache_core.specs.declared.design.Repl.{Repl}
use Rattle.cache_core.specs.declared.design.Repl.TheVariants.{Lru, Random}
use Rattle.cache_core.specs.declared.design.WriteMode.{WriteMode}
use Rattle.cache_core.specs.declared.design.WriteMode.TheVariants.{Back, Through}
use Rattle.cache_core.specs.declared.design.AllocMode.{AllocMode}
use Rattle.cache_core.specs.declared.design.AllocMode.TheVariants.{Always, Never}
use Rattle.cache_core.specs.declared.system.plan.PlannedCache.{PlannedCache}
use Rattle.cache_core.specs.declared.system.stats.Stats.{Stats}
use Rattle.cache_core.specs.system.Systems.{system_run}
use Rattle.cache_core.specs.system.CacheStats.{no_counts}
use Rattle.cache_core.specs.system.Plans.{PlannedCaches}
use Rattle.rand_pcg.specs.Lcg.{state_after}
use Rattle.cache_core.proofs.cache.MachineRows.{read, write, fetch, six}

-- one set of so many lines of 16 bytes
abbrev pub planned : ℕ → Repl → WriteMode → AllocMode → PlannedCache
planned ways policy w a = record {
  design =
      record { geometry = record { s = 0; e = ways; b = 4 }; write = w; allocate = a };
  policy =
      policy;
}

abbrev pub one : PlannedCache
one = planned 1 Lru Back Always

abbrev pub unified : PlannedCache → Option PlannedCache → PlannedCaches
unified u second = record { i = None; d = None; u = Some u; second = second }

-- the statistics of a system that counted nothing
abbrev no_stats : Stats
no_stats = record {
  l1i = None;
  l1d = None;
  l1u = None;
  l2u = None;
  memory_reads =
      0;
  memory_writes = 0;
  bypassed = 0;
}

written_block_is_copied_back : system_run (unified one None) 42 (write 0 ∷ read 0x10 ∷ [])
    ≡ record no_stats {
      l1u = Some (record no_counts {
        reads = 1;
        read_misses = 1;
        writes = 1;
        write_misses =
            1;
        evictions = 1;
        copybacks = 1;
      });
      memory_reads = 2;
      memory_writes = 1;
    }
written_block_is_copied_back = refl

written_through : system_run (unified (planned 1 Lru Through Always) None) 42
    (write 0 ∷ read 0x10 ∷ [])
    ≡ record no_stats {
      l1u = Some (record no_counts {
        reads = 1;
        read_misses = 1;
        writes = 1;
        write_misses =
            1;
        evictions = 1;
      });
      memory_reads = 2;
      memory_writes = 1;
    }
written_through = refl

written_around : system_run (unified (planned 1 Lru Through Never) None) 42
    (write 0 ∷ read 0x10 ∷ [])
    ≡ record no_stats {
      l1u = Some (record no_counts { reads = 1; read_misses = 1; writes = 1; write_misses = 1 });
      memory_reads = 1;
      memory_writes = 1;
    }
written_around = refl

second_level_hits : system_run (unified one (Some (planned 2 Lru Back Always))) 42
    (read 0 ∷ read 0x10 ∷ read 0 ∷ [])
    ≡ record no_stats {
      l1u = Some (record no_counts { reads = 3; read_misses = 3; evictions = 2 });
      l2u = Some (record no_counts { reads = 3; read_misses = 2 });
      memory_reads = 2;
    }
second_level_hits = refl

fetch_bypasses : system_run (record { i = None; d = Some one; u = None; second = None }) 42
    (fetch 0 ∷ read 0 ∷ [])
    ≡ record no_stats {
      l1d = Some (record no_counts { reads = 1; read_misses = 1 });
      memory_reads = 1;
      bypassed = 1;
    }
fetch_bypasses = refl

flush_copies_back : system_run (unified one None) 42 (write 0 ∷ event.Flush ∷ read 0 ∷ [])
    ≡ record no_stats {
      l1u = Some (record no_counts {
        reads = 1;
        read_misses = 1;
        writes = 1;
        write_misses =
            1;
        copybacks = 1;
      });
      memory_reads = 2;
      memory_writes = 1;
    }
flush_copies_back = refl

copyback_enters_the_second_level : system_run (unified one (Some one)) 42 (write 0 ∷ read 0x10 ∷ [])
    ≡ record no_stats {
      l1u = Some (record no_counts {
        reads = 1;
        read_misses = 1;
        writes = 1;
        write_misses =
            1;
        evictions = 1;
        copybacks = 1;
      });
      l2u = Some (record no_counts {
        reads = 2;
        read_misses = 2;
        writes = 1;
        evictions =
            1;
        copybacks = 1;
      });
      memory_reads = 2;
      memory_writes = 1;
    }
copyback_enters_the_second_level = refl

bypassed_reference_enters_no_level : system_run (record {
  i = None;
  d = Some one;
  u = None;
  second =
      Some (planned 2 Lru Back Always);
}) 42
    (fetch 0 ∷ read 0 ∷ [])
    ≡ record no_stats {
      l1d = Some (record no_counts { reads = 1; read_misses = 1 });
      l2u = Some (record no_counts { reads = 1; read_misses = 1 });
      memory_reads = 1;
      bypassed = 1;
    }
bypassed_reference_enters_no_level = refl

split_first_level : system_run (record { i = Some one; d = Some one; u = None; second = None }) 42
    (fetch 0 ∷ write 0 ∷ fetch 4 ∷ [])
    ≡ record no_stats {
      l1i = Some (record no_counts { fetches = 2; fetch_misses = 1 });
      l1d = Some (record no_counts { writes = 1; write_misses = 1 });
      memory_reads = 2;
    }
split_first_level = refl

each_level_is_flushed : system_run (unified one (Some (planned 2 Lru Back Always))) 42
    (write 0 ∷ read 0x10 ∷ event.Flush ∷ [])
    ≡ record no_stats {
      l1u = Some (record no_counts {
        reads = 1;
        read_misses = 1;
        writes = 1;
        write_misses =
            1;
        evictions = 1;
        copybacks = 1;
      });
      l2u = Some (record no_counts { reads = 2; read_misses = 2; writes = 1; copybacks = 1 });
      memory_reads = 2;
      memory_writes = 1;
    }
each_level_is_flushed = refl

flushed_lines_go_past_the_second_level : system_run (unified one (Some (planned 2 Lru Back Always)))
    42 (write 0 ∷ event.Flush ∷ [])
    ≡ record no_stats {
      l1u = Some (record no_counts { writes = 1; write_misses = 1; copybacks = 1 });
      l2u = Some (record no_counts { reads = 1; read_misses = 1 });
      memory_reads = 1;
      memory_writes = 1;
    }
flushed_lines_go_past_the_second_level = refl

random_victims : system_run (unified (planned 2 Random Back Always) None) 42 six ≡ record no_stats {
  l1u = Some (record no_counts { reads = 6; read_misses = 4; evictions = 2 });
  memory_reads = 4;
}
unfolding state_after
random_victims = refl
