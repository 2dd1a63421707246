-- The rows of a sweep as values, and the effects of reading a trace for them.
use Rattle.std.specs.Prelude.{◌≡◌, ℕ, List, map, flat_map, Result, Ok, Err}
use Rattle.trace_core.specs.Device.{SourceView}
use Rattle.trace_core.specs.Events.{events_of}
use Rattle.trace_core.specs.Reader.{Progress, Reached}
use Rattle.trace_core.specs.Task.{entries_of}
use Rattle.trace_core.specs.declared.events.Entry.{Entry}
use Rattle.trace_core.specs.declared.events.Event.{Event}
use Rattle.trace_core.specs.declared.events.Kind.{Kind}
use Rattle.trace_core.specs.declared.fault.RunFault.{RunFault}
use Rattle.trace_core.specs.declared.fault.RunFault.TheVariants.{Memory, Trace, Write}
use Rattle.trace_core.specs.declared.line.Format.{Format}
use Rattle.trace_core.specs.declared.state.ReaderState.{ReaderState}
use Rattle.trace_core.specs.declared.state.ReaderState.TheVariants.{Ended, Failed}
use Rattle.cache_core.specs.declared.outcome.Counts.{Counts}
use Rattle.sweep_core.specs.declared.space.Config.{Config}
use Rattle.sweep_core.specs.declared.request.Request.{Request}
use Rattle.sweep_core.specs.SweepText.{row_counts, configs_of, rows_of}
use Rattle.sweep_core.specs.Work.{work}

-- some configurations, each with its counts over a trace
abbrev pub counted_rows : List Event → List Config → List (Config × Counts)
counted_rows es rows = map (λ c. (c, row_counts es c)) rows

-- the counts of a sweep: its rows in order, and its comparisons
pub record CountedSweep : Type 0 where
  pub rows : List (Config × Counts)
  pub comparisons : ℕ

-- a sweep's counts over a trace: the rows of its request, and the comparisons of their profiles
abbrev pub counted_sweep : Request → List Event → CountedSweep
counted_sweep r es = record {
  rows = counted_rows es (rows_of r);
  comparisons =
      work es (configs_of r) (rows_of r);
}

-- A reader that was begun on a source came to this state, and has read these entries.
pub record ReadsTo (format : Format) (limit : ℕ) (start now : SourceView)
    (state : ReaderState) : Type 0 where
  pub read : List (ℕ × Entry)
  pub at : Progress
  pub reached : Reached format limit start now read at
  pub stopped : at.state ≡ state

-- the events that some entries give a cache: the references of a kind, and the flushes
abbrev pub events_read : Kind → List (ℕ × Entry) → List Event
events_read kind read = flat_map (events_of kind) (entries_of read)

-- The effects of reading a trace for a request on its source, by its result: it came to the end and
-- counted what it read, or to a fault; for lack of memory nothing was read.
abbrev pub ReadsCounts : Request → SourceView → SourceView → Result CountedSweep RunFault → Type 0
ReadsCounts r start now (Ok counts) =
    (run : ReadsTo r.format r.max_lines start now Ended) ×
    (counts ≡ counted_sweep r (events_read r.kind run.read))
ReadsCounts r start now (Err (Trace fault)) = ReadsTo r.format r.max_lines start now (Failed fault)
ReadsCounts r start now (Err Memory) = now ≡ start
ReadsCounts r start now (Err Write) = ⊥
