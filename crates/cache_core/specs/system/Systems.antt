-- A system of caches: a first level, perhaps a second one, and memory below. (The levels -l1-i,
-- -l1-d, -l1-u and -l2-u of the Dinero IV manual.)
use Rattle.std.specs.Prelude.{ℕ, ◌+◌, Bool, true, false, ◌||◌, ◌&&◌, not, List, [], ◌∷◌, ◌++◌}
use Rattle.std.specs.Prelude.{Option, Some, None, if◌then◌else◌, sum, count_by, map, flat_map}
use Rattle.std.specs.Prelude.{filter, is_some}
use Rattle.trace_core.specs.declared.events.Ref.{Ref}
use Rattle.trace_core.specs.declared.events.Event.{Event}
use Rattle.trace_core.specs.declared.events.Event.TheVariants as event
use Rattle.trace_core.specs.Events.{is_fetch, is_write, references_in}
use Rattle.cache_core.specs.declared.design.Repl.{Repl}
use Rattle.cache_core.specs.declared.system.plan.PlannedCache.{PlannedCache}
use Rattle.cache_core.specs.declared.system.plan.CacheName.{CacheName}
use Rattle.cache_core.specs.declared.system.plan.CacheName.TheVariants.{L1I, L1D, L1U, L2U}
use Rattle.cache_core.specs.declared.system.stats.CacheStats.{CacheStats}
use Rattle.cache_core.specs.declared.system.stats.Stats.{Stats}
use Rattle.cache_core.specs.cache.Machine.{Machine, MachineState, start, step, next, run}
use Rattle.cache_core.specs.cache.Machine.{dirty_count, with_effects}
use Rattle.cache_core.specs.system.CacheStats.{stats_from, stats_after_flush}
use Rattle.cache_core.specs.system.Plans.{PlannedCaches}
use Rattle.cache_core.specs.replacement.RandomNumbers.{random_number, generator_of}
use Rattle.cache_core.specs.replacement.Rules.{rules, is_random}

-- the random numbers of a policy: only random has a generator
abbrev pub random_numbers_for : Repl → ℕ → ℕ → ℕ
random_numbers_for policy seed = if is_random (rules policy).victim then random_number
    (generator_of seed) else (λ n. 0)

-- each cache with random replacement has a generator of its own, of the same seed
abbrev pub machine_of : ℕ → PlannedCache → Machine
machine_of seed planned = record {
  design = planned.design;
  policy =
      planned.policy;
  random_numbers = random_numbers_for planned.policy seed;
}

-- which references a cache of the first level takes
abbrev pub is_taken_by : CacheName → Ref → Bool
is_taken_by L1I ref = is_fetch ref.access
is_taken_by L1D ref = not (is_fetch ref.access)
is_taken_by L1U ref = true
is_taken_by L2U ref = false

-- which events it takes: those references, and each flush
abbrev pub is_event_of : CacheName → Event → Bool
is_event_of name (event.Reference ref) = is_taken_by name ref
is_event_of name event.Flush = true

-- the events of a list that come to a cache of the first level
abbrev pub events_for : CacheName → List Event → List Event
events_for name events = filter (is_event_of name) events

-- the references that a cache of the first level sends on for one reference, after earlier events
abbrev pub references_sent : ℕ → CacheName → Option PlannedCache → List Event → Ref → List Ref
references_sent seed name None earlier ref = []
references_sent seed name (Some planned) earlier ref =
    if is_taken_by name ref then (step (machine_of seed planned)
    (run (machine_of seed planned) (events_for name earlier)) ref).effect.down else []

-- the references that the first level sends on for one reference
abbrev pub first_level_references : PlannedCaches → ℕ → List Event → Ref → List Ref
first_level_references plan seed earlier ref =
    references_sent seed L1I plan.i earlier ref ++ references_sent seed L1D plan.d earlier ref ++
    references_sent seed L1U plan.u earlier ref

-- the events of the second level for events that come after earlier ones: the references that the
-- first level sends on, in order, and each flush
abbrev pub lower_events_from : PlannedCaches → ℕ → List Event → List Event → List Event
lower_events_from plan seed earlier [] = []
lower_events_from plan seed earlier (event.Reference ref ∷ events) =
    map event.Reference (first_level_references plan seed earlier ref) ++
    lower_events_from plan seed (earlier ++ event.Reference ref ∷ []) events
lower_events_from plan seed earlier (event.Flush ∷ events) =
    event.Flush ∷ lower_events_from plan seed (earlier ++ event.Flush ∷ []) events

-- the events of the second level for a whole list
abbrev pub lower_events : PlannedCaches → ℕ → List Event → List Event
lower_events plan seed events = lower_events_from plan seed [] events

-- how many dirty blocks each flush of a list finds, from a state
abbrev pub flush_counts_from : Machine → MachineState → List Event → List ℕ
flush_counts_from m st [] = []
flush_counts_from m st (event.Reference ref ∷ events) =
    flush_counts_from m (step m st ref).after events
flush_counts_from m st (event.Flush ∷ events) = dirty_count st ∷ flush_counts_from m
    (next m st event.Flush) events

-- how many dirty blocks each flush of a list finds, from the start
abbrev pub flush_counts : Machine → List Event → List ℕ
flush_counts m events = flush_counts_from m start events

-- the statistics of a cache over its events: its accesses, and the copybacks of its flushes
abbrev pub cache_stats : Machine → List Event → CacheStats
cache_stats m events = stats_after_flush (sum (flush_counts m events))
    (stats_from (with_effects m events))

-- the statistics of a cache over its events, if the plan has it
abbrev pub counts_if_planned : ℕ → Option PlannedCache → List Event → Option CacheStats
counts_if_planned seed None events = None
counts_if_planned seed (Some planned) events = Some (cache_stats (machine_of seed planned) events)

-- how many dirty blocks each of its flushes finds, if the plan has it
abbrev pub flush_counts_if_planned : ℕ → Option PlannedCache → List Event → List ℕ
flush_counts_if_planned seed None events = []
flush_counts_if_planned seed (Some planned) events = flush_counts (machine_of seed planned) events

-- how many dirty blocks its flushes find in all
abbrev pub flush_copybacks : ℕ → Option PlannedCache → List Event → ℕ
flush_copybacks seed planned events = sum (flush_counts_if_planned seed planned events)

-- the references that the last level sends on, if these events come to the second
abbrev pub to_memory : ℕ → Option PlannedCache → List Event → List Ref
to_memory seed None events = references_in events
to_memory seed (Some planned) events =
    flat_map (λ p. p.1.down) (with_effects (machine_of seed planned) events)

-- whether some cache of the first level takes a reference
abbrev pub is_taken : PlannedCaches → Ref → Bool
is_taken plan ref = is_some plan.u || (is_some plan.i && is_taken_by L1I ref) ||
    (is_some plan.d && is_taken_by L1D ref)

-- the statistics of a system after a list of events
abbrev pub system_run : PlannedCaches → ℕ → List Event → Stats
system_run plan seed events =
    let lower = lower_events plan seed events in
    let memory = to_memory seed plan.second lower in
    record {
      l1i = counts_if_planned seed plan.i (events_for L1I events);
      l1d = counts_if_planned seed plan.d (events_for L1D events);
      l1u = counts_if_planned seed plan.u (events_for L1U events);
      l2u = counts_if_planned seed plan.second lower;
      memory_reads = count_by (λ ref. not (is_write ref.access)) memory;
      memory_writes = count_by (λ ref. is_write ref.access) memory
          + (flush_copybacks seed plan.i (events_for L1I events) + flush_copybacks seed plan.d
          (events_for L1D events)
          + flush_copybacks seed plan.u (events_for L1U events) + flush_copybacks seed
          plan.second lower);
      bypassed = count_by (λ ref. not (is_taken plan ref)) (references_in events);
    }
