-- Runs over traces: what each has to read and write, and what it did.
use Rattle.std.specs.Prelude.{◌≡◌, ℕ, List, [], ◌++◌, map, Option, None, Some, Bool, true, false}
use Rattle.std.specs.Prelude.{Result, Err, IfSome, OnOk}
use Rattle.std.specs.Io.KnownBytes.{Appends, IsAtEnd}
use Rattle.trace_core.specs.Device.{SourceView, SinkView, WritesPrefix, one_more, failures_after}
use Rattle.trace_core.specs.Device.{FlushesAfter, FlushesAtMostOnce}
use Rattle.trace_core.specs.Reading.{Reading, reading, cut_reading}
use Rattle.trace_core.specs.Reader.{Progress, Reached, device_failed}
use Rattle.trace_core.specs.declared.events.Entry.{Entry}
use Rattle.trace_core.specs.declared.line.Format.{Format}
use Rattle.trace_core.specs.declared.fault.TraceFault.{TraceFault}
use Rattle.trace_core.specs.declared.fault.RunFault.{RunFault}
use Rattle.trace_core.specs.declared.fault.RunFault.TheVariants.{Memory, Trace, Write}
use Rattle.trace_core.specs.declared.state.ReaderState.TheVariants as state

-- The task of a run over a trace: what it reads, and what it has to write.
pub record Task : Type 0 where
  -- the format of the trace
  pub format : Format
  -- how many lines it takes at most
  pub limit : ℕ
  -- whether it writes while it reads, and not only after the end of the trace
  pub writes_early : Bool
  -- its output for a text without a fault
  pub whole : List ℕ → List ℕ
  -- its output for these entries before a fault
  pub partial : List Entry → List ℕ

-- entries without the numbers of their lines
abbrev pub entries_of : List (ℕ × Entry) → List Entry
entries_of xs = map (λ x. x.1) xs

-- These entries were read of a source, and this holds of them.
pub record HasRead (format : Format) (limit : ℕ) (start now : SourceView) (p : Progress)
    (Holds : List Entry → Type 0) : Type 0 where
  -- the entries, with the numbers of their lines
  pub read : List (ℕ × Entry)
  -- the reader has come so far
  pub reached : Reached format limit start now read p
  pub holds : Holds (entries_of read)

-- the entries of a reading
abbrev pub entries_in : Reading → List Entry
entries_in r = entries_of r.entries

-- the output of a run if these entries come before the end of a text, or before its first fault
abbrev pub output_for : Task → List ℕ → List Entry → Option TraceFault → List ℕ
output_for task text before None = task.whole text
output_for task text before (Some f) = task.partial before

-- all that a run writes of a text which its source gives to the end
abbrev pub output : Task → List ℕ → List ℕ
output task text = let r = reading task.format task.limit text in
    output_for task text (entries_in r) r.fault

-- A run has read this text to its end and written all of its output. Devices are seen before and
-- after the run, here and below.
pub record Completes (task : Task) (text : List ℕ) (source' : SourceView)
    (sink sink' : SinkView) : Type 0 where
  -- the text has no fault
  pub faultless : (reading task.format task.limit text).fault ≡ None
  -- no byte is left to read
  pub read : source'.remaining ≡ Some []
  -- the output was written
  pub wrote : Appends sink.written sink'.written (task.whole text)

-- A run has met this fault of the text.
pub record StopsAt (task : Task) (f : TraceFault) (text : List ℕ)
    (sink sink' : SinkView) : Type 0 where
  -- it is the first fault
  pub first : (reading task.format task.limit text).fault ≡ Some f
  -- the output for the entries before it was written, and no more
  pub wrote : Appends sink.written sink'.written
      (task.partial (entries_in (reading task.format task.limit text)))

-- The source of a run failed within this text, and left the rest.
pub record CutsOff (task : Task) (f : TraceFault) (text rest : List ℕ)
    (sink sink' : SinkView) : Type 0 where
  -- the bytes that it delivered before
  pub delivered : List ℕ
  pub delivers : text ≡ delivered ++ rest
  -- this is their first fault
  pub first : (cut_reading task.format task.limit delivered).fault ≡ Some f
  -- the output for the entries before it was written, and no more
  pub wrote : Appends sink.written sink'.written
      (task.partial (entries_in (cut_reading task.format task.limit delivered)))

-- A run has read this text to its end, and the sink failed within its output.
pub record BreaksOff (task : Task) (text : List ℕ) (source' : SourceView)
    (sink sink' : SinkView) : Type 0 where
  -- the text has no fault
  pub faultless : (reading task.format task.limit text).fault ≡ None
  -- no byte is left to read
  pub read : source'.remaining ≡ Some []
  -- some part of the output was written
  pub wrote : WritesPrefix sink.written sink'.written (task.whole text)

-- whether a fault of the trace is its source's failure
abbrev pub is_failed_read : TraceFault → Bool
is_failed_read f = device_failed (state.Failed f)

-- The effects of a run that returned `Ok`.
pub record Finished (task : Task) (source source' : SourceView)
    (sink sink' : SinkView) : Type 0 where
  -- the text has no fault, was read to its end, and its whole output was written
  pub completes : IfSome source.remaining (λ text. Completes task text source' sink sink')
  -- no byte is left to read
  pub at_end : IsAtEnd source'.remaining
  -- no read failed
  pub read_failures : source'.failures ≡ source.failures
  -- no write failed
  pub write_failures : sink'.failures ≡ sink.failures
  -- the sink was flushed once
  pub flushes : sink'.flushes ≡ one_more sink.flushes

-- The effects of a run that returned this fault of the trace, or this failure of its source.
pub record Stopped (task : Task) (f : TraceFault) (source source' : SourceView)
    (sink sink' : SinkView) : Type 0 where
  -- a fault of the trace is the first of the text, and the output for the entries before it was
  -- written
  pub fault : is_failed_read f ≡ false →
      IfSome source.remaining (λ text. StopsAt task f text sink sink')
  -- a failure of the source came after some bytes, and the output for their entries was written
  pub cut : is_failed_read f ≡ true →
      IfSome source.remaining (λ text. IfSome source'.remaining
      (λ rest. CutsOff task f text rest sink sink'))
  -- one read failed if the fault is the source's failure, and none otherwise
  pub read_failures : source'.failures ≡ failures_after (is_failed_read f) source.failures
  -- no write failed
  pub write_failures : sink'.failures ≡ sink.failures
  -- the sink was not flushed
  pub flushes : sink'.flushes ≡ sink.flushes

-- The effects of a run that returned a failed write: a write or the flush failed.
pub record WriteFailed (task : Task) (source source' : SourceView)
    (sink sink' : SinkView) : Type 0 where
  -- the sink took some part of the output
  pub part : IfSome source.remaining (λ text. WritesPrefix sink.written sink'.written
      (output task text))
  -- a run that does not write early had read the whole text, which has no fault
  pub late : task.writes_early ≡ false →
      IfSome source.remaining (λ text. BreaksOff task text source' sink sink')
  -- a run that does not write early has left no byte to read
  pub at_end : task.writes_early ≡ false → IsAtEnd source'.remaining
  -- no read failed
  pub read_failures : source'.failures ≡ source.failures
  -- one write failed, or the flush
  pub write_failures : sink'.failures ≡ one_more sink.failures
  -- the sink was flushed once or not at all
  pub flushes : FlushesAtMostOnce sink.flushes sink'.flushes
  -- a sink that was flushed had taken the whole output
  pub last : IfSome source.remaining (λ text. FlushesAfter (task.whole text) sink sink')

-- The effects of a run of a task on a source and a sink, by its result. Each device is seen through
-- its view.
pub record Performs {T S K : Type 0} (task : Task) (result : Result T RunFault) (source_view : S →
    SourceView) (source source' : S)
    (sink_view : K → SinkView) (sink sink' : K) : Type 0 where
  -- it finished
  pub ok : OnOk result (Finished task (source_view source) (source_view source') (sink_view sink)
      (sink_view sink'))
  -- it stopped at a fault of the trace, or at a failure of its source
  pub trace : (f : TraceFault) → result ≡ Err (Trace f) →
      Stopped task f (source_view source) (source_view source') (sink_view sink) (sink_view sink')
  -- there, a run that does not write early has not touched its sink
  pub silent : (f : TraceFault) → result ≡ Err (Trace f) → task.writes_early ≡ false → sink' ≡ sink
  -- its sink failed
  pub write : result ≡ Err Write → WriteFailed task (source_view source) (source_view source')
      (sink_view sink) (sink_view sink')
  -- for lack of memory it has touched neither device
  pub memory : result ≡ Err Memory → (source' ≡ source) × (sink' ≡ sink)
