-- The statistics of a system are the counts over its log: so the laws of the log's lines say.
use Rattle.std.proofs.Common.{◌≡◌, ℕ, ◌+◌, Bool, cond, List, [], ◌∷◌, length, Option, Some, None}
use Rattle.std.proofs.Common.{refl, sym, ap, ap₂, ◌∙◌, arith, add-zero}
use Rattle.std.specs.Prelude.{fold, sum, flat_map, count_by}
use Rattle.std.specs.Option.{option_map}
use Rattle.std.proofs.Math.Path.{fun_ext}
use Rattle.std.proofs.lemmas.List.Folds.{fold-map}
use Rattle.std.proofs.lemmas.List.Sums.{sum_by-cons, length-filter}
use Rattle.trace_core.specs.declared.events.Ref.{Ref}
use Rattle.trace_core.specs.declared.events.Event.{Event}
use Rattle.trace_core.specs.Events.{references_in}
use Rattle.cache_core.specs.declared.outcome.Slot.{Slot}
use Rattle.cache_core.specs.declared.system.arrival.Victim.{Victim}
use Rattle.cache_core.specs.declared.system.arrival.Arrival.{Arrival}
use Rattle.cache_core.specs.declared.system.arrival.Arrival.TheVariants.{Cache, Memory, Bypassed}
use Rattle.cache_core.specs.declared.system.arrival.Arrival.TheVariants.{Flush}
use Rattle.cache_core.specs.declared.system.plan.PlannedCache.{PlannedCache}
use Rattle.cache_core.specs.declared.system.plan.CacheName.{CacheName}
use Rattle.cache_core.specs.declared.system.plan.CacheName.TheVariants.{L1I, L1D, L1U, L2U}
use Rattle.cache_core.specs.declared.system.stats.CacheStats.{CacheStats}
use Rattle.cache_core.specs.declared.system.stats.Stats.{Stats}
use Rattle.cache_core.specs.system.CacheStats.{no_counts, stats_after_access, stats_after_flush}
use Rattle.cache_core.specs.Geometry.{GeometryValue}
use Rattle.cache_core.specs.cache.Machine.{with_effects}
use Rattle.cache_core.specs.system.Systems.{machine_of, lower_events, counts_if_planned}
use Rattle.cache_core.specs.system.Systems.{flush_counts, flush_counts_if_planned, to_memory}
use Rattle.cache_core.specs.system.Systems.{system_run}
use Rattle.cache_core.specs.system.Arrivals.{victim_of, arrivals}
use Rattle.cache_core.specs.system.ArrivalStats.{stats_after_arrival, no_stats, LogLaw}
use Rattle.cache_core.specs.system.LogLaws.{planned_of, events_at, lines_at, access_line}
use Rattle.cache_core.specs.system.LogLaws.{access_lines, dirty_at, refs_at_memory, refs_past}
use Rattle.cache_core.specs.system.LogLaws.{is_left_out}
use Rattle.cache_core.proofs.system.SystemPushes.{two_flushes, stats_steps}
use Rattle.cache_core.proofs.system.LowerLaw.{is_read_of, is_write_of}
use Rattle.cache_laws.proofs.LinesLaw.{lines_law}
use Rattle.cache_laws.proofs.FlushLines.{flush_counts_law}
use Rattle.cache_laws.proofs.MemoryLaw.{memory_law, bypassed_law, left_out_is}

-- what a line of a cache counts
abbrev count_line : CacheStats → Arrival → CacheStats
count_line s (Cache at ref hit victim) =
    stats_after_access ref.access hit (option_map (λ v. v.dirty) victim) s
count_line s (Memory ref) = s
count_line s (Bypassed ref) = s
count_line s (Flush at dirty) = s

flush_then_lines : (dirty : ℕ) (s : CacheStats) (lines : List Arrival) →
    fold count_line (stats_after_flush dirty s) lines ≡ stats_after_flush dirty
    (fold count_line s lines)
flush_then_lines dirty s [] = refl
flush_then_lines dirty s (Cache at ref hit victim ∷ lines) =
    grind (arith, flush_then_lines dirty (count_line s (Cache at ref hit victim)) lines)
flush_then_lines dirty s (Memory ref ∷ lines) = flush_then_lines dirty s lines
flush_then_lines dirty s (Bypassed ref ∷ lines) = flush_then_lines dirty s lines
flush_then_lines dirty s (Flush at n ∷ lines) = flush_then_lines dirty s lines

-- the counts of a cache after its lines
abbrev counts_after : CacheName → List Arrival → CacheStats → CacheStats
counts_after name log s = stats_after_flush (sum (flat_map (dirty_at name) log))
    (fold count_line s (flat_map (lines_at name) log))

-- and after one more flush
one_flush : (dirty : ℕ) (counts : List ℕ) (lines : List Arrival) (s : Option CacheStats) →
    option_map (λ c. stats_after_flush (sum counts) (fold count_line c lines))
    (option_map (stats_after_flush dirty) s)
    ≡ option_map (λ c. stats_after_flush (sum (dirty ∷ counts)) (fold count_line c lines)) s
one_flush dirty counts lines None = refl
one_flush dirty counts lines (Some c) =
    ap Some
    (ap (stats_after_flush (sum counts)) (flush_then_lines dirty c lines) ∙
    two_flushes dirty (sum counts) (fold count_line c lines)
    ∙ ap (λ n. stats_after_flush n (fold count_line c lines))
    (sym (sum_by-cons (λ n. n) dirty counts)))

-- how many dirty blocks the flushes of a cache find
abbrev dirty_in : CacheName → List Arrival → ℕ
dirty_in name log = sum (flat_map (dirty_at name) log)

one_more : (name : CacheName) (dirty : ℕ) (log : List Arrival) →
    sum (dirty ∷ flat_map (dirty_at name) log) ≡ dirty + dirty_in name log
one_more name dirty log = sum_by-cons (λ n. n) dirty (flat_map (dirty_at name) log)

-- the statistics after a log
abbrev after : List Arrival → Stats → Stats
after log s = record {
  l1i = option_map (counts_after L1I log) s.l1i;
  l1d = option_map (counts_after L1D log) s.l1d;
  l1u = option_map (counts_after L1U log) s.l1u;
  l2u = option_map (counts_after L2U log) s.l2u;
  memory_reads = s.memory_reads + count_by is_read_of (flat_map refs_at_memory log);
  memory_writes = s.memory_writes + count_by is_write_of (flat_map refs_at_memory log)
      + (dirty_in L1I log + dirty_in L1D log + dirty_in L1U log + dirty_in L2U log);
  bypassed = s.bypassed + length (flat_map refs_past log);
}

module _ (log : List Arrival) (s : Stats) where
  cached : (name : CacheName) (ref : Ref) (hit : Bool) (victim : Option Victim) →
      after log (stats_after_arrival s (Cache name ref hit victim)) ≡ after
      (Cache name ref hit victim ∷ log) s
  cached name ref hit victim = grind arith

  written : (name : CacheName) (dirty : ℕ) →
      (after log (stats_after_arrival s (Flush name dirty))).memory_writes ≡ (after
      (Flush name dirty ∷ log) s).memory_writes
  written L1I dirty = omega (arith, one_more L1I dirty log)
  written L1D dirty = omega (arith, one_more L1D dirty log)
  written L1U dirty = omega (arith, one_more L1U dirty log)
  written L2U dirty = omega (arith, one_more L2U dirty log)

  flushed : (name : CacheName) (dirty : ℕ) (held : Option CacheStats) →
      option_map (counts_after name log) (option_map (stats_after_flush dirty) held)
      ≡ option_map (λ c. stats_after_flush (sum (dirty ∷ flat_map (dirty_at name) log))
      (fold count_line c (flat_map (lines_at name) log))) held
  flushed name dirty held =
      one_flush dirty (flat_map (dirty_at name) log) (flat_map (lines_at name) log) held

  emptied : (name : CacheName) (dirty : ℕ) →
      after log (stats_after_arrival s (Flush name dirty)) ≡ after (Flush name dirty ∷ log) s
  emptied L1I dirty = grind (arith, flushed L1I dirty s.l1i, written L1I dirty)
  emptied L1D dirty = grind (arith, flushed L1D dirty s.l1d, written L1D dirty)
  emptied L1U dirty = grind (arith, flushed L1U dirty s.l1u, written L1U dirty)
  emptied L2U dirty = grind (arith, flushed L2U dirty s.l2u, written L2U dirty)

  reached : (ref : Ref) → after log (stats_after_arrival s (Memory ref)) ≡ after
      (Memory ref ∷ log) s
  reached ref =
      grind (
        arith,
        sum_by-cons (λ (x : Ref). cond (is_read_of x) 1 0) ref (flat_map refs_at_memory log),
        sum_by-cons (λ (x : Ref). cond (is_write_of x) 1 0) ref (flat_map refs_at_memory log),
      )

  bypassed : (ref : Ref) → after log (stats_after_arrival s (Bypassed ref)) ≡ after
      (Bypassed ref ∷ log) s
  bypassed ref = grind arith

none_more : (s : Option CacheStats) → option_map (stats_after_flush 0) s ≡ s
none_more s = grind arith

counted : (log : List Arrival) (s : Stats) → fold stats_after_arrival s log ≡ after log s
counted [] s = sym (simp (none_more, add-zero))
counted (Cache name ref hit victim ∷ log) s =
    counted log (stats_after_arrival s (Cache name ref hit victim)) ∙
    cached log s name ref hit victim
counted (Memory ref ∷ log) s = counted log (stats_after_arrival s (Memory ref)) ∙ reached log s ref
counted (Bypassed ref ∷ log) s = counted log (stats_after_arrival s (Bypassed ref)) ∙
    bypassed log s ref
counted (Flush name dirty ∷ log) s = counted log (stats_after_arrival s (Flush name dirty)) ∙
    emptied log s name dirty

-- the counts of a cache, by the laws of its lines
victim_dirty : (g : GeometryValue) (evicted : Option Slot) →
    option_map (λ v. v.dirty) (option_map (victim_of g) evicted) ≡ option_map
    (λ slot. slot.dirty) evicted
victim_dirty g evicted = grind arith

same_counts : (seed : ℕ) (name : CacheName) (planned : Option PlannedCache) (events : List Event)
    (log : List Arrival) →
    flat_map (lines_at name) log ≡ access_lines seed name planned events →
    flat_map (dirty_at name) log ≡ flush_counts_if_planned seed planned events →
    option_map (counts_after name log) (option_map (λ p. no_counts) planned) ≡ counts_if_planned
    seed planned events
same_counts seed name None events log l f = refl
same_counts seed name (Some planned) events log l f =
    let g = planned.design.geometry in
    let counts = flush_counts (machine_of seed planned) events in
    let effects = with_effects (machine_of seed planned) events in
    ap₂ (λ (ns : List ℕ) (lines : List Arrival). Some (stats_after_flush (sum ns)
    (fold count_line no_counts lines))) f l
    ∙ ap (λ c. Some (stats_after_flush (sum counts) c))
    (fold-map count_line (access_line name g) no_counts effects
    ∙ ap (λ step. fold step no_counts effects)
    (fun_ext (λ s. fun_ext (λ p. ap (λ e. stats_after_access p.0.access p.1.hit e s)
    (victim_dirty g p.1.evicted))))
    ∙ stats_steps [] effects)

same_stats : {i i' d d' u u' l l' : Option CacheStats} {r r' w w' b b' : ℕ} → i ≡ i' → d ≡ d' →
    u ≡ u' → l ≡ l' → r ≡ r' → w ≡ w' → b ≡ b' →
    ◌≡◌ {A = Stats} (record {
      l1i = i;
      l1d = d;
      l1u = u;
      l2u = l;
      memory_reads = r;
      memory_writes =
          w;
      bypassed = b;
    })
    (record {
      l1i = i';
      l1d = d';
      l1u = u';
      l2u = l';
      memory_reads = r';
      memory_writes =
          w';
      bypassed = b';
    })
same_stats i d u l r w b = cc

pub log_law : LogLaw
log_law plan seed events =
    let log = arrivals plan seed events in
    let counts : (name : CacheName) → option_map (counts_after name log)
    (option_map (λ p. no_counts) (planned_of plan name))
    ≡ counts_if_planned seed (planned_of plan name) (events_at plan seed name events) =
    λ name. same_counts seed name (planned_of plan name) (events_at plan seed name events) log
    (lines_law name plan seed events)
    (flush_counts_law name plan seed events) in
    let memory = memory_law plan seed events in
    let flushes : (name : CacheName) →
    dirty_in name log ≡ sum (flush_counts_if_planned seed (planned_of plan name)
    (events_at plan seed name events)) =
    λ name. ap sum (flush_counts_law name plan seed events) in
    let reads : 0 + count_by is_read_of (flat_map refs_at_memory log) ≡ count_by is_read_of
    (to_memory seed plan.second (lower_events plan seed events)) =
    omega (arith, ap (count_by is_read_of) memory) in
    let writes : (after log (no_stats plan)).memory_writes ≡ (system_run plan seed
    events).memory_writes =
    omega (
      arith,
      ap (count_by is_write_of) memory,
      flushes L1I,
      flushes L1D,
      flushes L1U,
      flushes L2U,
    ) in
    let bypassed : 0 + length (flat_map refs_past log) ≡ (system_run plan seed events).bypassed =
    omega (
      arith,
      ap length (bypassed_law plan seed events) ∙ length-filter (is_left_out plan)
          (references_in events)
          ∙ ap (λ p. count_by p (references_in events)) (left_out_is plan),
    ) in
    counted log (no_stats plan)
    ∙ same_stats (counts L1I) (counts L1D) (counts L1U) (counts L2U) reads writes bypassed
