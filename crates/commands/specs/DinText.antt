-- The output of `din` for a trace: a line for each cache, one for memory and one for the references
-- that no cache took. The layout and the words are this project's.
use Rattle.std.specs.Prelude.{false, ℕ, List, [], ◌++◌, Option, None, Some, codes}
use Rattle.std.specs.Fmt.{decimal}
use Rattle.trace_core.specs.declared.events.Kind.TheVariants.{All}
use Rattle.trace_core.specs.declared.line.Format.{Format}
use Rattle.trace_core.specs.Reading.{events}
use Rattle.trace_core.specs.Task.{Task}
use Rattle.cache_core.specs.declared.system.stats.CacheStats.{CacheStats}
use Rattle.cache_core.specs.declared.system.stats.Stats.{Stats}
use Rattle.cache_core.specs.declared.system.plan.CacheName.{CacheName}
use Rattle.cache_core.specs.declared.system.plan.CacheName.TheVariants.{L1I, L1D, L1U, L2U}
use Rattle.cache_core.specs.system.Plans.{PlannedCaches, cache_name}
use Rattle.cache_core.specs.system.Systems.{system_run}

-- a name, and its number after it
abbrev pub field : List ℕ → ℕ → List ℕ
field name n = name ++ decimal n

-- the line of a cache, if there is one
abbrev pub cache_line : CacheName → Option CacheStats → List ℕ
cache_line name None = []
cache_line name (Some c) =
    cache_name name ++ field (codes " fetches=") c.fetches ++
    field (codes " fetch-misses=") c.fetch_misses
    ++ field (codes " reads=") c.reads ++ field (codes " read-misses=") c.read_misses
    ++ field (codes " writes=") c.writes ++ field (codes " write-misses=") c.write_misses
    ++ field (codes " evictions=") c.evictions ++ field (codes " copybacks=") c.copybacks ++
    codes "\n"

-- the report of a system
abbrev pub report_of : Stats → List ℕ
report_of s =
    cache_line L1I s.l1i ++ cache_line L1D s.l1d ++ cache_line L1U s.l1u ++ cache_line L2U s.l2u
    ++ field (codes "memory reads=") s.memory_reads ++ field (codes " writes=") s.memory_writes ++
    codes "\n"
    ++ field (codes "bypassed=") s.bypassed ++ codes "\n"

-- all that `din` writes of a text without a fault
abbrev pub din_text : PlannedCaches → ℕ → Format → List ℕ → List ℕ
din_text plan seed format text = report_of (system_run plan seed (events format All text))

-- At a fault `din` has written nothing.
unfoldable pub din_task : PlannedCaches → ℕ → Format → ℕ → Task
din_task plan seed format limit = record {
  format = format;
  limit = limit;
  writes_early =
      false;
  whole = din_text plan seed format;
  partial = λ es. [];
}
