-- What a full sweep has read, fed and written when it ends.
use Rattle.std.proofs.Common.{◌≡◌, ℕ, List, [], ◌++◌, Result, Err, map, refl}
use Rattle.std.proofs.Common.{sym, ap, ◌∙◌, subst}
use Rattle.std.specs.Prelude.{flat_map, sum_by, OnOk}
use Rattle.std.proofs.lemmas.Option.{IfSome_then}
use Rattle.std.proofs.lemmas.Simd.{map-map}
use Rattle.std.specs.Option.{IfSome}
use Rattle.trace_core.specs.declared.events.Event.{Event}
use Rattle.trace_core.specs.declared.fault.RunFault.{RunFault}
use Rattle.trace_core.specs.declared.fault.RunFault.TheVariants.{Memory, Trace, Write}
use Rattle.trace_core.specs.declared.line.Format.{Format}
use Rattle.trace_core.specs.declared.state.ReaderState.TheVariants as state
use Rattle.trace_core.specs.Device.{SourceView, SinkView}
use Rattle.trace_core.specs.Events.{events_of}
use Rattle.trace_core.specs.Reader.{Progress}
use Rattle.trace_core.specs.Reading.{events}
use Rattle.trace_core.specs.Task.{Performs, Finished}
use Rattle.trace_core.proofs.Tasks.{ReadWhole, if_known}
use Rattle.trace_core.proofs.Performing.{Stopped-at, Performs-trace}
use Rattle.trace_core.proofs.Written.{Wrote-none}
use Rattle.sweep_core.specs.declared.request.Request.{Request}
use Rattle.sweep_core.specs.declared.full.profiles.FullPair.{FullPair}
use Rattle.sweep_core.specs.SweepText.{rows_of}
use Rattle.sweep_core.specs.FullText.{full_header_of, full_csv_rows, full_table_text}
use Rattle.sweep_core.specs.FullText.{full_sweep_text, full_sweep_task}
use Rattle.sweep_core.specs.FullRows.{FullCountedSweep, full_counted_sweep, ReadsFullCounts}
use Rattle.sweep_core.specs.Rows.{ReadsTo, events_read}
use Rattle.sweep_core.specs.Work.{sweep_work}
use Rattle.sweep_core.specs.internal.Full.{FullStandsFor, EndsFull, full_pair_after}
use Rattle.sweep_core.specs.internal.Full.{full_pairs_after, full_pairs_after_all}
use Rattle.sweep_core.proofs.Sweeping.{read-whole}
use Rattle.sweep_core.specs.internal.FullRuns.{full_counted_profiles}
use Rattle.sweep_core.proofs.FullStanding.{full-events, ended, full-counted-is}
use Rattle.sweep_core.proofs.FullWriting.{csv-counted}

-- profiles after their last event
pub record FullEnded (r : Request) (es : List Event)
    (xs : List FullPair) : Type 0 where
  pub before : List FullPair
  pub stands : FullStandsFor r es before
  pub is : xs ≡ map ended before

-- a request's new profiles, as slices, after what was read
pub ended-after : {r : Request} {format : Format} {limit : ℕ} {start now : SourceView}
    {p : Progress} {made xs ys zs : List FullPair}
    → FullStandsFor r [] made → xs ≡ made →
    (run : EndsFull r.kind format limit start now p xs ys) →
    zs ≡ ys → FullEnded r (events_read r.kind run.read) zs
ended-after {r = r} {made = made} {zs = zs} begin same run end =
    let es = events_read r.kind run.read in
    record {
      before = full_pairs_after es made;
      stands = full-events r es made begin;
      is = end ∙ run.holds ∙ ap (full_pairs_after_all es) same
          ∙ sym (map-map ended (full_pair_after es) made);
    }

pub full-counts-known : (r : Request) {start now : SourceView} {counted : FullCountedSweep}
    (run : ReadsTo r.format r.max_lines start now state.Ended)
    → counted ≡ full_counted_sweep r (events_read r.kind run.read)
    → IfSome start.remaining (λ text. counted ≡ full_counted_sweep r (events r.format r.kind text))
full-counts-known r {start = start} {counted = counted} run is =
    if_known start.remaining (λ text. counted ≡ full_counted_sweep r (events r.format r.kind text))
    (λ text known. is ∙ ap (full_counted_sweep r) (read-whole r.kind run text known).1)

-- a full sweep that has read a whole text has its table to write
pub full-whole : (r : Request) {start now : SourceView} {counted : FullCountedSweep}
    (run : ReadsTo r.format r.max_lines start now state.Ended)
    → counted ≡ full_counted_sweep r (events_read r.kind run.read) →
    ReadWhole (full_sweep_task r) start now
    (full_header_of r.after ++ full_csv_rows counted.rows)
unfolding full_sweep_task full_sweep_text
full-whole r run is = record {
  read = run.read;
  at = run.at;
  reached = run.reached;
  ended = run.stopped;
  output = λ text same. ap (λ es. full_table_text r (flat_map (events_of r.kind) es)) (sym same)
      ∙ sym (ap (λ (x : FullCountedSweep). full_header_of r.after ++ full_csv_rows x.rows) is
      ∙ ap (λ l. full_header_of r.after ++ l)
      (csv-counted (events_read r.kind run.read) (rows_of r)));
}

-- a full sweep that could not read a whole text has written nothing
pub full-stopped : {T S K : Type 0} (r : Request) {result : Result T RunFault} {source_view : S →
    SourceView} {source source' : S}
    {sink_view : K → SinkView} {sink : K} (e : RunFault) → result ≡ Err e →
    ReadsFullCounts r (source_view source) (source_view source') (Err e)
    → (e ≡ Memory → source' ≡ source) → Performs (full_sweep_task r) result source_view source
    source' sink_view sink sink
unfolding full_sweep_task
full-stopped r {sink_view = view} {sink = sink} (Trace fault) is run untouched =
    Performs-trace fault is (Stopped-at fault run.stopped run.reached (Wrote-none (view sink)))
    (λ late. refl)
full-stopped r Write is run untouched = absurd run
full-stopped r {source_view = v} {source = source} {source' = source'} {sink_view = w} {sink =
    sink} Memory is run untouched = record {
      ok = subst (λ x. OnOk x (Finished (full_sweep_task r) (v source) (v source') (w sink)
          (w sink))) (sym is) tt;
      trace = λ f given. absurd cc;
      silent = λ f given late. absurd cc;
      write = λ given. absurd cc;
      memory = λ given. (untouched refl, refl);
    }

-- the comparisons are those of the text
pub full-works : (r : Request) (start : SourceView) (counted : FullCountedSweep) (n : ℕ) →
    n ≡ counted.comparisons
    → IfSome start.remaining (λ text. counted ≡ full_counted_sweep r (events r.format r.kind text))
    → IfSome start.remaining (λ text. n ≡ sweep_work r text)
unfolding sweep_work
full-works r start counted n is known =
    IfSome_then start.remaining known (λ text same. is ∙ ap (λ x. x.comparisons) same)

-- what they have counted
pub counted-ended : (r : Request) (es : List Event) (xs : List FullPair) → FullEnded r es xs
    → ◌≡◌ {A = FullCountedSweep} (record {
      rows = full_counted_profiles r.space.powers xs;
      comparisons =
          sum_by (λ x. x.profile.plain.probes) xs;
    }) (full_counted_sweep r es)
counted-ended r es xs h =
    ap (λ ys. record {
      rows = full_counted_profiles r.space.powers ys;
      comparisons = sum_by (λ x. x.profile.plain.probes) ys;
    }) h.is ∙ full-counted-is r es h.before h.stands
