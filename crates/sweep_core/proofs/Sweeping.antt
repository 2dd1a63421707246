-- What a sweep has read, fed and written when it ends.
use Rattle.std.proofs.Common.{◌≡◌, ℕ, ◌+◌, List, [], ◌∷◌, ◌++◌, Some, None, Result, Err, map, refl}
use Rattle.std.proofs.Common.{sym, ap, ap₂, ◌∙◌, subst, arith}
use Rattle.std.specs.Prelude.{flat_map, sum_by, OnOk}
use Rattle.std.proofs.lemmas.Option.{IfSome_then}
use Rattle.std.specs.Option.{IfSome}
use Rattle.std.proofs.lemmas.Simd.{map-map}
use Rattle.std.specs.List.{AllByRecursion as Each}
use Rattle.std.proofs.lemmas.List.Folds.{sum_by-replicate}
use Rattle.trace_core.specs.declared.events.Event.{Event}
use Rattle.trace_core.specs.declared.fault.RunFault.{RunFault}
use Rattle.trace_core.specs.declared.fault.RunFault.TheVariants.{Memory, Trace, Write}
use Rattle.trace_core.specs.declared.events.Kind.{Kind}
use Rattle.trace_core.specs.Reading.{events, first_fault}
use Rattle.trace_core.specs.declared.line.Format.{Format}
use Rattle.trace_core.specs.declared.state.ReaderState.TheVariants as state
use Rattle.trace_core.specs.Device.{SourceView, SinkView}
use Rattle.trace_core.specs.Events.{events_of}
use Rattle.trace_core.specs.Reader.{Progress}
use Rattle.trace_core.specs.Task.{Performs, Finished}
use Rattle.trace_core.proofs.Entries.{entries-reading}
use Rattle.trace_core.proofs.Runs.{Reached-end}
use Rattle.trace_core.proofs.Tasks.{ReadWhole, if_known}
use Rattle.trace_core.proofs.Performing.{Stopped-at, Performs-trace}
use Rattle.trace_core.proofs.Written.{Wrote-none}
use Rattle.cache_core.specs.Geometry.{GeometryValue}
use Rattle.profile_core.specs.profile.State.{empty, fed_of}
use Rattle.sweep_core.specs.declared.request.Request.{Request}
use Rattle.sweep_core.specs.declared.profiles.PairProfile.{PairProfile}
use Rattle.sweep_core.specs.SweepText.{table_text, header_of, csv_rows, configs_of, rows_of}
use Rattle.sweep_core.specs.SweepText.{sweep_text, sweep_task}
use Rattle.sweep_core.specs.Rows.{CountedSweep, counted_sweep, ReadsTo, ReadsCounts, events_read}
use Rattle.sweep_core.specs.Work.{pair_of, sweep_work}
use Rattle.sweep_core.specs.internal.Runs.{rows_of_profile, counted_profiles}
use Rattle.sweep_core.specs.internal.Pass.{SweepStandsFor, Feeds, WasFed, pair_after_events}
use Rattle.sweep_core.specs.internal.Pass.{profiles_after}
use Rattle.sweep_core.proofs.Standing.{work-is, fed-after}
use Rattle.sweep_core.proofs.Serving.{swept-counted}
use Rattle.sweep_core.proofs.Writing.{csv-counted}

pub empty-fed : (g : GeometryValue) → fed_of (empty g) ≡ 0
empty-fed g = omega (arith, sum_by-replicate (λ x. x) g.e 0, sum_by-replicate (λ x. x) (g.e + 1) 0)

-- a request's new profiles, as slices, after what was read
pub swept-after : {r : Request} {format : Format} {limit : ℕ} {start now : SourceView}
    {p : Progress} {made xs ys zs : List PairProfile}
    → SweepStandsFor r [] made → xs ≡ made → (run : Feeds r.kind format limit start now p xs ys) →
    zs ≡ ys → SweepStandsFor r (events_read r.kind run.read) zs
swept-after {r = r} {made = made} {zs = zs} begin same run end =
    let es = events_read r.kind run.read in
    let are : zs ≡ profiles_after es made = end ∙ run.holds ∙ ap (profiles_after es) same in
    record {
      space = begin.space;
      pairs = ap (map (λ x. pair_of x.first)) are ∙ map-map (λ x. pair_of x.first)
          (pair_after_events es) made ∙ begin.pairs;
      rows = ap (flat_map (rows_of_profile r.space.powers)) are ∙ rows-kept es made ∙ begin.rows;
      fed = subst (Each (WasFed (configs_of r) es)) (sym are)
          (fed-after (configs_of r) es made begin.fed);
    }
  where
    rows-kept : (es : List Event) (xs : List PairProfile)
        → flat_map (rows_of_profile r.space.powers) (profiles_after es xs) ≡ flat_map
        (rows_of_profile r.space.powers) xs
    rows-kept es [] = refl
    rows-kept es (x ∷ xs) = ap (λ l. rows_of_profile r.space.powers x ++ l) (rows-kept es xs)

-- what the profiles of a sweep have counted
pub counted-is : (r : Request) (es : List Event) (xs : List PairProfile) → SweepStandsFor r es xs
    → ◌≡◌ {A = CountedSweep} (record {
      rows = counted_profiles r.space.powers xs;
      comparisons =
          sum_by (λ x. x.profile.probes) xs;
    }) (counted_sweep r es)
counted-is r es xs swept =
    ap₂ (λ rows n. record { rows = rows; comparisons = n }) (swept-counted r es xs swept)
    (work-is (configs_of r) (rows_of r) es xs swept.pairs swept.fed)

-- what was read of a text to its end are its events
pub read-whole : {f : Format} {limit : ℕ} {start now : SourceView} (kind : Kind)
    (run : ReadsTo f limit start now state.Ended) (text : List ℕ)
    → start.remaining ≡ Some text → (first_fault f limit text ≡ None) ×
    (events_read kind run.read ≡ events f kind text)
read-whole {f = f} {limit = limit} {start = start} {now = now} kind run text known =
    let end = Reached-end f limit text start now run.read run.at known run.reached run.stopped in (
      ap (λ x. x.fault) end,
      ap (flat_map (events_of kind))
          (entries-reading f limit text run.read end),
    )

pub counts-known : (r : Request) {start now : SourceView} {counted : CountedSweep}
    (run : ReadsTo r.format r.max_lines start now state.Ended)
    → counted ≡ counted_sweep r (events_read r.kind run.read)
    → IfSome start.remaining (λ text. counted ≡ counted_sweep r (events r.format r.kind text))
counts-known r {start = start} {counted = counted} run is =
    if_known start.remaining (λ text. counted ≡ counted_sweep r (events r.format r.kind text))
    (λ text known. is ∙ ap (counted_sweep r) (read-whole r.kind run text known).1)

pub faultless-known : (r : Request) {start now : SourceView} →
    ReadsTo r.format r.max_lines start now state.Ended
    → IfSome start.remaining (λ text. first_fault r.format r.max_lines text ≡ None)
faultless-known r {start = start} run =
    if_known start.remaining (λ text. first_fault r.format r.max_lines text ≡ None)
    (λ text known. (read-whole r.kind run text known).0)

-- a sweep that has read a whole text has its table to write
pub sweep-whole : (r : Request) {start now : SourceView} {counted : CountedSweep}
    (run : ReadsTo r.format r.max_lines start now state.Ended)
    → counted ≡ counted_sweep r (events_read r.kind run.read) → ReadWhole (sweep_task r) start now
    (header_of r.after ++ csv_rows counted.rows)
unfolding sweep_task sweep_text
sweep-whole r run is = record {
  read = run.read;
  at = run.at;
  reached = run.reached;
  ended = run.stopped;
  output = λ text same. ap (λ es. table_text r (flat_map (events_of r.kind) es)) (sym same)
      ∙ sym (ap (λ (x : CountedSweep). header_of r.after ++ csv_rows x.rows) is
      ∙ ap (λ l. header_of r.after ++ l) (csv-counted (events_read r.kind run.read) (rows_of r)));
}

-- a sweep that could not read a whole text has written nothing
pub sweep-stopped : {T S K : Type 0} (r : Request) {result : Result T RunFault} {source_view : S →
    SourceView} {source source' : S}
    {sink_view : K → SinkView} {sink : K} (e : RunFault) → result ≡ Err e →
    ReadsCounts r (source_view source) (source_view source') (Err e)
    → (e ≡ Memory → source' ≡ source) → Performs (sweep_task r) result source_view source source'
    sink_view sink sink
unfolding sweep_task
sweep-stopped r {sink_view = view} {sink = sink} (Trace fault) is run untouched =
    Performs-trace fault is (Stopped-at fault run.stopped run.reached (Wrote-none (view sink)))
    (λ late. refl)
sweep-stopped r Write is run untouched = absurd run
sweep-stopped r {source_view = v} {source = source} {source' = source'} {sink_view = w} {sink =
    sink} Memory is run untouched = record {
      ok = subst (λ x. OnOk x (Finished (sweep_task r) (v source) (v source') (w sink) (w sink)))
          (sym is) tt;
      trace = λ f given. absurd cc;
      silent = λ f given late. absurd cc;
      write = λ given. absurd cc;
      memory = λ given. (untouched refl, refl);
    }

-- the comparisons are those of the text
pub sweep-works : (r : Request) (start : SourceView) (counted : CountedSweep) (n : ℕ) →
    n ≡ counted.comparisons
    → IfSome start.remaining (λ text. counted ≡ counted_sweep r (events r.format r.kind text)) →
    IfSome start.remaining (λ text. n ≡ sweep_work r text)
unfolding sweep_work
sweep-works r start counted n is known =
    IfSome_then start.remaining known (λ text same. is ∙ ap (λ x. x.comparisons) same)
