-- The ways in which a run of a task ends, and what it did to its devices.
use Rattle.std.proofs.Common.{◌≡◌, ◌≢◌, ℕ, List, true, false, Result, Ok, Err, inl, refl, sym, ap}
use Rattle.std.proofs.Common.{◌∙◌, subst}
use Rattle.std.specs.Prelude.{OnOk, IsErrAnd}
use Rattle.std.specs.Io.KnownBytes.{Appends}
use Rattle.trace_core.specs.declared.events.Entry.{Entry}
use Rattle.trace_core.specs.declared.fault.RunFault.{RunFault}
use Rattle.trace_core.specs.declared.fault.RunFault.TheVariants.{Trace, Write}
use Rattle.trace_core.specs.declared.fault.TraceFault.{TraceFault}
use Rattle.trace_core.specs.declared.state.ReaderState.{ReaderState}
use Rattle.trace_core.specs.declared.state.ReaderState.TheVariants as state
use Rattle.trace_core.specs.Device.{SourceView, SinkView, WritesPrefix, FlushesAfter, Wrote}
use Rattle.trace_core.specs.Device.{WrotePart, WroteLast, WroteLastPart}
use Rattle.trace_core.specs.Reading.{reading}
use Rattle.trace_core.specs.Reader.{Progress, Reached}
use Rattle.trace_core.specs.Task.{Task, Completes, BreaksOff, Finished, Stopped, WriteFailed}
use Rattle.trace_core.specs.Task.{Performs, entries_of, entries_in, output, output_for}
use Rattle.trace_core.proofs.Tasks.{ReadWhole, ReadWhole-read, WritesAlong, if_known, task_stops}
use Rattle.trace_core.proofs.Tasks.{task_cut, task_fails}

-- All was read, written and flushed.
pub Finished-written : {task : Task} {source source' : SourceView} {sink sink' : SinkView}
    {bytes : List ℕ}
    → ReadWhole task source source' bytes → WroteLast sink sink' bytes →
    Finished task source source' sink sink'
Finished-written {task = task} {source = source} {source' = source'} {sink = sink} {sink' =
    sink'} whole wrote = record {
      completes = if_known source.remaining (λ text. Completes task text source' sink sink')
          (λ text reported.
          let is = ReadWhole-read whole text reported in
          record {
            faultless = is.faultless;
            read = is.left;
            wrote =
                subst (Appends sink.written sink'.written) (sym is.output) wrote.took;
          });
      at_end = whole.reached.at_end whole.ended;
      read_failures = rw whole.ended at whole.reached.counted;
      write_failures = wrote.unfailed;
      flushes = wrote.flushed;
    }

-- A fault of the trace, or a failure of the source.
pub Stopped-at : {task : Task} {source source' : SourceView} {sink sink' : SinkView}
    {xs : List (ℕ × Entry)} {p : Progress} (x : TraceFault)
    → p.state ≡ state.Failed x → Reached task.format task.limit source source' xs p →
    Wrote sink sink' (task.partial (entries_of xs))
    → Stopped task x source source' sink sink'
Stopped-at {task = task} {source = source} {source' = source'} {sink = sink} {sink' = sink'} {xs =
    xs} {p = p} x failed reached wrote = record {
      fault = λ own. task_stops task source source' xs p reached sink sink' x failed own wrote;
      cut = λ own. task_cut task source source' xs p reached sink sink' x failed own wrote;
      read_failures = rw failed at reached.counted;
      write_failures = wrote.unfailed;
      flushes = wrote.unflushed;
    }

-- The sink failed after the whole text was read.
pub WriteFailed-late : {task : Task} {source source' : SourceView} {sink sink' : SinkView}
    {bytes : List ℕ}
    → ReadWhole task source source' bytes → WroteLastPart sink sink' bytes →
    WriteFailed task source source' sink sink'
WriteFailed-late {task = task} {source = source} {source' = source'} {sink = sink} {sink' =
    sink'} whole wrote = record {
      part = if_known source.remaining (λ text. WritesPrefix sink.written sink'.written
          (output task text)) (λ text reported.
          let is = ReadWhole-read whole text reported in
          let in_part = subst (WritesPrefix sink.written sink'.written) (sym is.output)
          wrote.part in
          subst (λ o. WritesPrefix sink.written sink'.written
          (output_for task text (entries_in (reading task.format task.limit text)) o))
          (sym is.faultless) in_part);
      late = λ late. if_known source.remaining (λ text. BreaksOff task text source' sink sink')
          (λ text reported.
          let is = ReadWhole-read whole text reported in
          record {
            faultless = is.faultless;
            read = is.left;
            wrote =
                subst (WritesPrefix sink.written sink'.written) (sym is.output) wrote.part;
          });
      at_end = λ late. whole.reached.at_end whole.ended;
      read_failures = rw whole.ended at whole.reached.counted;
      write_failures = wrote.failed;
      flushes = wrote.flushes;
      last = if_known source.remaining (λ text. FlushesAfter (task.whole text) sink sink')
          (λ text reported.
          subst (λ t. FlushesAfter t sink sink') (sym (ReadWhole-read whole text reported).output)
          wrote.last);
    }

-- The sink failed while a run that writes early was reading.
pub WriteFailed-early : {task : Task} {source source' : SourceView} {sink sink' : SinkView}
    {xs : List (ℕ × Entry)} {p : Progress}
    → task.writes_early ≡ true → WritesAlong task →
    Reached task.format task.limit source source' xs p
    → ((f : TraceFault) → p.state ≢ state.Failed f)
    → WrotePart sink sink' (task.partial (entries_of xs)) →
    WriteFailed task source source' sink sink'
WriteFailed-early {task = task} {source = source} {source' = source'} {sink = sink} {sink' =
    sink'} {xs = xs} {p = p} early along reached well wrote =
    record {
      part = task_fails task along source source' xs p sink.written sink'.written reached
          well wrote.part;
      late = λ late. absurd cc;
      at_end = λ late. absurd cc;
      read_failures = unfailed p.state refl;
      write_failures = wrote.failed;
      flushes = inl wrote.unflushed;
      last = if_known source.remaining (λ text. FlushesAfter (task.whole text) sink sink')
          (λ text reported. inl wrote.unflushed);
    }
  where
    unfailed : (s : ReaderState) → p.state ≡ s → source'.failures ≡ source.failures
    unfailed state.Open is = rw is at reached.counted
    unfailed state.Ended is = rw is at reached.counted
    unfailed (state.Failed f) is = absurd (well f is)

-- a result that is an error, which is this fault
pub err_is : {T : Type 0} {result : Result T RunFault} {e : RunFault} →
    IsErrAnd result (λ x. x ≡ e) → result ≡ Err e
err_is {result = Ok x} given = absurd given
err_is {result = Err x} given = ap (λ y. Err y) given

fault_is : {U : Type 0} {x y : RunFault} → (let r : Result U RunFault = Err x in r ≡ Err y) → x ≡ y
fault_is same = cc

module _ {T S K : Type 0} {task : Task} {result : Result T RunFault} {source_view : S →
    SourceView} {source source' : S}
    {sink_view : K → SinkView} {sink sink' : K} where
  -- a run that finished
  pub Performs-ok : (y : T) → result ≡ Ok y → Finished task (source_view source)
      (source_view source') (sink_view sink) (sink_view sink')
      → Performs task result source_view source source' sink_view sink sink'
  Performs-ok y is finished = record {
    ok = subst (λ r. OnOk r (Finished task (source_view source) (source_view source')
        (sink_view sink) (sink_view sink'))) (sym is) finished;
    trace = λ f given. absurd cc;
    silent = λ f given late. absurd cc;
    write = λ given. absurd cc;
    memory = λ given. absurd cc;
  }

  -- a run that stopped at a fault
  pub Performs-trace : (x : TraceFault) → result ≡ Err (Trace x)
      → Stopped task x (source_view source) (source_view source') (sink_view sink)
      (sink_view sink') → (task.writes_early ≡ false → sink' ≡ sink)
      → Performs task result source_view source source' sink_view sink sink'
  Performs-trace x is stopped silent = record {
    ok = subst (λ r. OnOk r (Finished task (source_view source) (source_view source')
        (sink_view sink) (sink_view sink'))) (sym is) tt;
    trace = λ f given. let same : x ≡ f = cc in
        subst (λ (y : TraceFault). Stopped task y (source_view source) (source_view source')
        (sink_view sink) (sink_view sink')) same stopped;
    silent = λ f given late. silent late;
    write = λ given. absurd cc;
    memory = λ given. absurd cc;
  }

  -- a run whose sink failed
  pub Performs-write : result ≡ Err Write → WriteFailed task (source_view source)
      (source_view source') (sink_view sink) (sink_view sink')
      → Performs task result source_view source source' sink_view sink sink'
  Performs-write is failed = record {
    ok = subst (λ r. OnOk r (Finished task (source_view source) (source_view source')
        (sink_view sink) (sink_view sink'))) (sym is) tt;
    trace = λ f given. absurd cc;
    silent = λ f given late. absurd cc;
    write = λ given. failed;
    memory = λ given. absurd cc;
  }

-- A run that passes on the fault of another did what that did.
pub Performs-passed_on : {T U S K : Type 0} {task : Task} {result : Result U RunFault}
    {source_view : S → SourceView} {source source' : S}
    {sink_view : K → SinkView} {sink sink' : K} (e : RunFault) → result ≡ Err e
    → (let below : Result T RunFault = Err e in
    Performs task below source_view source source' sink_view sink sink')
    → Performs task result source_view source source' sink_view sink sink'
Performs-passed_on {task = task} {source_view = v} {source = source} {source' =
    source'} {sink_view = w} {sink = sink} {sink' = sink'} e is run = record {
      ok = subst (λ r. OnOk r (Finished task (v source) (v source') (w sink) (w sink')))
          (sym is) tt;
      trace = λ f given. run.trace f (ap (λ x. Err x) (fault_is (sym is ∙ given)));
      silent = λ f given late. run.silent f (ap (λ x. Err x) (fault_is (sym is ∙ given))) late;
      write = λ given. run.write (ap (λ x. Err x) (fault_is (sym is ∙ given)));
      memory = λ given. run.memory (ap (λ x. Err x) (fault_is (sym is ∙ given)));
    }
