-- The rows of a full sweep as values, and the effects of reading a trace for them.
use Rattle.std.specs.Prelude.{◌≡◌, ℕ, List, map, Result, Ok, Err}
use Rattle.trace_core.specs.Device.{SourceView}
use Rattle.trace_core.specs.declared.events.Event.{Event}
use Rattle.trace_core.specs.declared.fault.RunFault.{RunFault}
use Rattle.trace_core.specs.declared.fault.RunFault.TheVariants.{Memory, Trace, Write}
use Rattle.trace_core.specs.declared.state.ReaderState.TheVariants.{Ended, Failed}
use Rattle.full_profile.specs.declared.counts.FullCounts.{FullCounts}
use Rattle.sweep_core.specs.declared.space.Config.{Config}
use Rattle.sweep_core.specs.declared.request.Request.{Request}
use Rattle.sweep_core.specs.SweepText.{configs_of, rows_of}
use Rattle.sweep_core.specs.FullText.{full_row_counts}
use Rattle.sweep_core.specs.Rows.{ReadsTo, events_read}
use Rattle.sweep_core.specs.Work.{work}

-- some configurations, each with all its counts over a trace
abbrev pub full_counted_rows : List Event → List Config → List (Config × FullCounts)
full_counted_rows es rows = map (λ c. (c, full_row_counts es c)) rows

-- the counts of a full sweep: its rows in order, and its comparisons
pub record FullCountedSweep : Type 0 where
  pub rows : List (Config × FullCounts)
  pub comparisons : ℕ

-- a full sweep's counts over a trace: the rows of its request, and the comparisons of their
-- profiles, which are those of a sweep
abbrev pub full_counted_sweep : Request → List Event → FullCountedSweep
full_counted_sweep r es = record {
  rows = full_counted_rows es (rows_of r);
  comparisons =
      work es (configs_of r) (rows_of r);
}

-- The effects of reading a trace for a request on its source, by its result: it came to the end and
-- counted what it read, or to a fault; for lack of memory nothing was read.
abbrev pub ReadsFullCounts : Request → SourceView → SourceView → Result FullCountedSweep RunFault →
    Type 0
ReadsFullCounts r start now (Ok counts) =
    (run : ReadsTo r.format r.max_lines start now Ended) ×
    (counts ≡ full_counted_sweep r (events_read r.kind run.read))
ReadsFullCounts r start now (Err (Trace fault)) =
    ReadsTo r.format r.max_lines start now (Failed fault)
ReadsFullCounts r start now (Err Memory) = now ≡ start
ReadsFullCounts r start now (Err Write) = ⊥
