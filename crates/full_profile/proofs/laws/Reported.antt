-- What `din` reports of one cache is what look-back says of it.
use Rattle.std.proofs.Common.{◌≡◌, ℕ, ◌+◌, ◌≤◌, ◌&&◌, Bool, true}
use Rattle.std.proofs.Common.{false, not, cond, List, [], ◌∷◌, ◌++◌}
use Rattle.std.proofs.Common.{reverse, Option, Some, None, is_some, find}
use Rattle.std.proofs.Common.{refl, sym, ◌∙◌, ap, subst, arith}
use Rattle.std.specs.List.{count_by}
use Rattle.std.specs.Option.{option_map}
use Rattle.std.proofs.lemmas.List.Sums.{fold_push}
use Rattle.trace_core.specs.declared.events.Access.{Access}
use Rattle.trace_core.specs.declared.events.Access.TheVariants.{Fetch, Read, Write}
use Rattle.trace_core.specs.declared.events.Ref.{Ref}
use Rattle.trace_core.specs.declared.events.Event.{Event}
use Rattle.trace_core.specs.declared.events.Event.TheVariants as event
use Rattle.trace_core.specs.Events.{is_fetch, is_read, is_write, one_if}
use Rattle.cache_core.specs.declared.design.WriteMode.TheVariants.{Back}
use Rattle.cache_core.specs.declared.outcome.Slot.{Slot}
use Rattle.cache_core.specs.Geometry.{GeometryValue, block_of, set_of}
use Rattle.cache_core.specs.Windows.{window, window_after, is_hit, is_evict}
use Rattle.cache_core.specs.Windows.{Occurrence, counts, occurrences_after}
use Rattle.cache_core.specs.LruLaws.{lru_machine, occurrence_after}
use Rattle.cache_core.specs.cache.Machine.{MachineState, is_block}
use Rattle.cache_core.specs.cache.Machine.{victim_line, step}
use Rattle.cache_core.specs.cache.Machine.{next, run, start, dirty_count}
use Rattle.cache_core.specs.cache.Outcomes.{Effect}
use Rattle.cache_core.specs.system.CacheStats.{stats_after_flush}
use Rattle.cache_core.proofs.Occurrences.{window-push, window-nil, occurrences-flush}
use Rattle.cache_core.proofs.Occurrences.{sum_by-reference}
use Rattle.cache_core.proofs.system.SystemPushes.{count_effect, counts_push, counts_flush}
use Rattle.cache_core.proofs.simulation.LruRun.{IsStacked, stacked_start, stacked_run}
use Rattle.cache_core.proofs.simulation.LruRun.{next_law}
use Rattle.full_profile.specs.LookBack.{copybacks_at}
use Rattle.full_profile.specs.LookBack.{full_counts, misses_at, sum_after}
use Rattle.full_profile.specs.Reports.{IsReported, lru_stats, planned_lru, plan_alone}
use Rattle.cache_core.specs.declared.system.plan.CacheName.TheVariants.{L1I, L1D, L1U}
use Rattle.cache_core.specs.system.Systems.{system_run, events_for}
use Rattle.full_profile.proofs.laws.LookingBack.{sum_after_push}
use Rattle.full_profile.proofs.laws.Runs.{each_event}
use Rattle.full_profile.proofs.laws.Marks.{Marked, marked_at, copied_at, flushed}

-- a full profile's counts with one event more
module _ (g : GeometryValue) (es : List Event) (r : Ref) where
  abbrev there : Occurrence
  there = occurrence_after g es r

  hits_more : (counts g (es ++ event.Reference r ∷ [])).hits
      ≡ (counts g es).hits + cond (is_hit g there) 1 0
  unfolding counts
  hits_more = sum_by-reference (λ p. cond (is_hit g p) 1 0) g es r

  misses_more : (counts g (es ++ event.Reference r ∷ [])).misses
      ≡ (counts g es).misses + cond (not (is_hit g there)) 1 0
  unfolding counts
  misses_more = sum_by-reference (λ p. cond (not (is_hit g p)) 1 0) g es r

  evictions_more : (counts g (es ++ event.Reference r ∷ [])).evictions
      ≡ (counts g es).evictions + cond (is_evict g there) 1 0
  unfolding counts
  evictions_more = sum_by-reference (λ p. cond (is_evict g p) 1 0) g es r

counts_stay : (g : GeometryValue) (es : List Event) →
    counts g (es ++ event.Flush ∷ []) ≡ counts g es
unfolding counts
counts_stay g es = ap (λ ps. record {
  hits = count_by (is_hit g) ps;
  misses = count_by (λ p. not (is_hit g p)) ps;
  evictions = count_by (is_evict g) ps;
}) (occurrences-flush g es)

one_each : (access : Access) →
    one_if (is_fetch access) + one_if (is_read access) + one_if (is_write access) ≡ 1
one_each Fetch = refl
one_each Read = refl
one_each Write = refl

one_kind : (access : Access) (b : Bool) →
    one_if (is_fetch access && b) + one_if (is_read access && b) + one_if (is_write access && b)
    ≡ one_if b
one_kind Fetch b = omega arith
one_kind Read b = omega arith
one_kind Write b = omega arith

hit_or_miss : (b : Bool) → one_if b + one_if (not b) ≡ 1
hit_or_miss true = refl
hit_or_miss false = refl

some_marked : (evicted : Option Slot) →
    is_some (option_map (λ slot. slot.dirty) evicted) ≡ is_some evicted
some_marked None = refl
some_marked (Some slot) = refl

-- the machine after a list of events, and its statistics
record IsFollowed (g : GeometryValue) (es : List Event) : Type 0 where
  stacked : IsStacked g Back (window g es) (run (lru_machine g Back) es)
  marked : Marked g (reverse es) (run (lru_machine g Back) es).lines
  reported : IsReported (full_counts g es) (lru_stats g es)

module _ (g : GeometryValue) (some : 1 ≤ g.e) (es : List Event) (h : IsFollowed g es) where
  abbrev st : MachineState
  st = run (lru_machine g Back) es

  run_more : (e : Event) →
      run (lru_machine g Back) (es ++ e ∷ []) ≡ next (lru_machine g Back) st e
  run_more e = fold_push (next (lru_machine g Back)) start es e

  stacked_more : (e : Event) →
      IsStacked g Back (window g (es ++ e ∷ [])) (run (lru_machine g Back) (es ++ e ∷ []))
  stacked_more e = subst (λ w. IsStacked g Back w (run (lru_machine g Back) (es ++ e ∷ [])))
      (sym (window-push g es e)) (subst (λ s. IsStacked g Back (window_after g (window g es) e) s)
      (sym (run_more e)) (stacked_run g Back (window g es) st (e ∷ []) some h.stacked))

  reported_reference : (r : Ref) → IsReported (full_counts g (es ++ event.Reference r ∷ []))
      (count_effect (lru_stats g es) (r, (step (lru_machine g Back) st r).effect))
  unfolding full_counts
  reported_reference r =
      let law = next_law g Back es r some in
      let effect : Effect = (step (lru_machine g Back) st r).effect in
      let was = h.reported in
      let hit = ap one_if law.0 in
      let miss = ap (λ b. one_if (not b)) law.0 in
      let fetch = ap (λ b. one_if (is_fetch r.access && not b)) law.0 in
      let read = ap (λ b. one_if (is_read r.access && not b)) law.0 in
      let write = ap (λ b. one_if (is_write r.access && not b)) law.0 in
      let evict = ap one_if (some_marked effect.evicted ∙ law.1) in
      let copied = copied_at g some es r st h.stacked h.marked
      (victim_line (lru_machine g Back) st (set_of g r.addr))
      (find (is_block (block_of g r.addr)) st.lines) refl law.1 in
      record {
        references = omega (
          arith,
          was.references,
          hits_more g es r,
          misses_more g es r,
          hit_or_miss (is_hit g (occurrence_after g es r)),
          one_each r.access,
        );
        misses = omega (
          arith,
          was.misses,
          misses_more g es r,
          miss,
          one_kind r.access (not effect.hit),
        );
        fetch_misses = omega (
          arith,
          was.fetch_misses,
          fetch,
          sum_after_push (misses_at is_fetch g) [] es (event.Reference r),
        );
        read_misses = omega (
          arith,
          was.read_misses,
          read,
          sum_after_push (misses_at is_read g) [] es (event.Reference r),
        );
        write_misses = omega (
          arith,
          was.write_misses,
          write,
          sum_after_push (misses_at is_write g) [] es (event.Reference r),
        );
        evictions = omega (arith, was.evictions, evict, evictions_more g es r);
        copybacks = omega (
          arith,
          was.copybacks,
          copied,
          sum_after_push (copybacks_at g) [] es (event.Reference r),
        );
      }

  reported_flush : IsReported (full_counts g (es ++ event.Flush ∷ []))
      (stats_after_flush (dirty_count st) (lru_stats g es))
  unfolding full_counts
  reported_flush =
      let was = h.reported in
      let same = counts_stay g es in
      let found = flushed g es st h.stacked h.marked in
      record {
        references = omega (arith, was.references, ap (λ c. c.hits) same, ap (λ c. c.misses) same);
        misses = omega (arith, was.misses, ap (λ c. c.misses) same);
        fetch_misses = omega (
          arith,
          was.fetch_misses,
          sum_after_push (misses_at is_fetch g) [] es event.Flush,
        );
        read_misses = omega (
          arith,
          was.read_misses,
          sum_after_push (misses_at is_read g) [] es event.Flush,
        );
        write_misses = omega (
          arith,
          was.write_misses,
          sum_after_push (misses_at is_write g) [] es event.Flush,
        );
        evictions = omega (arith, was.evictions, ap (λ c. c.evictions) same);
        copybacks = omega (
          arith,
          was.copybacks,
          found,
          sum_after_push (copybacks_at g) [] es event.Flush,
        );
      }

  followed_more : (e : Event) → IsFollowed g (es ++ e ∷ [])
  followed_more (event.Reference r) = record {
    stacked = stacked_more (event.Reference r);
    marked = subst (λ s. Marked g (reverse (es ++ event.Reference r ∷ [])) s.lines)
        (sym (run_more (event.Reference r)))
        (marked_at g es r st (victim_line (lru_machine g Back) st (set_of g r.addr))
        (find (is_block (block_of g r.addr)) st.lines) refl (next_law g Back es r some).0 h.marked);
    reported = subst (IsReported (full_counts g (es ++ event.Reference r ∷ [])))
        (sym (counts_push (lru_machine g Back) es r)) (reported_reference r);
  }
  followed_more event.Flush = record {
    stacked = stacked_more event.Flush;
    marked = subst (λ s. Marked g (reverse (es ++ event.Flush ∷ [])) s.lines)
        (sym (run_more event.Flush)) tt;
    reported = subst (IsReported (full_counts g (es ++ event.Flush ∷ [])))
        (sym (counts_flush (lru_machine g Back) es)) reported_flush;
  }

followed_new : (g : GeometryValue) → IsFollowed g []
unfolding full_counts counts sum_after occurrences_after
followed_new g = record {
  stacked = subst (λ w. IsStacked g Back w start) (sym (window-nil g)) (stacked_start g Back);
  marked = tt;
  reported = record {
    references = refl;
    misses = refl;
    fetch_misses = refl;
    read_misses = refl;
    write_misses = refl;
    evictions = refl;
    copybacks = refl;
  };
}

pub counts_reported : (g : GeometryValue) (es : List Event) → 1 ≤ g.e →
    IsReported (full_counts g es) (lru_stats g es)
counts_reported g es some = (each_event (IsFollowed g) (followed_new g)
    (λ xs e h. followed_more g some xs h e) es).reported

-- such a cache alone in a system
pub alone_instructions : (g : GeometryValue) (seed : ℕ) (es : List Event) →
    (system_run (plan_alone L1I (planned_lru g)) seed es).l1i ≡ Some (lru_stats g
    (events_for L1I es))
alone_instructions g seed es = refl

pub alone_data : (g : GeometryValue) (seed : ℕ) (es : List Event) →
    (system_run (plan_alone L1D (planned_lru g)) seed es).l1d ≡ Some (lru_stats g
    (events_for L1D es))
alone_data g seed es = refl

all_taken : (es : List Event) → events_for L1U es ≡ es
all_taken [] = refl
all_taken (event.Reference r ∷ es) = ap (λ xs. event.Reference r ∷ xs) (all_taken es)
all_taken (event.Flush ∷ es) = ap (λ xs. event.Flush ∷ xs) (all_taken es)

pub alone_unified : (g : GeometryValue) (seed : ℕ) (es : List Event) →
    (system_run (plan_alone L1U (planned_lru g)) seed es).l1u ≡ Some (lru_stats g es)
alone_unified g seed es = ap (λ xs. Some (lru_stats g xs)) (all_taken es)
