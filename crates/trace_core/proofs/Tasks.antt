-- The bytes that a run has read and has to write, by how its reader ended.
use Rattle.std.proofs.Common.{◌≡◌, ◌≢◌, ℕ, List, [], ◌++◌, true, false, Option, None, Some, refl}
use Rattle.std.proofs.Common.{sym, ap, ◌∙◌, subst, append_assoc}
use Rattle.std.proofs.lemmas.List.{map-append}
use Rattle.std.specs.Option.{IfSome}
use Rattle.std.specs.Io.KnownBytes.{Appends}
use Rattle.trace_core.specs.declared.events.Entry.{Entry}
use Rattle.trace_core.specs.declared.fault.TraceFault.{TraceFault}
use Rattle.trace_core.specs.declared.fault.TraceFault.TheVariants as fault
use Rattle.trace_core.specs.declared.state.ReaderState.TheVariants as state
use Rattle.trace_core.specs.Device.{SourceView, SinkView, WritesPrefix, Wrote}
use Rattle.trace_core.specs.Reading.{Reading, reading, entries}
use Rattle.trace_core.specs.Reader.{Progress, Reached, reading_with_entries, device_failed}
use Rattle.trace_core.specs.Task.{Task, StopsAt, CutsOff, entries_of, entries_in, output}
use Rattle.trace_core.specs.Task.{output_for}
use Rattle.trace_core.proofs.Entries.{entries-reading}
use Rattle.trace_core.proofs.Written.{part_of_first}
use Rattle.trace_core.proofs.Runs.{Reached-end, Reached-left, Reached-fault, Reached-cut}
use Rattle.trace_core.proofs.Runs.{Reached-prefix}

-- what holds where the bytes of a device are known
pub if_known : (o : Option (List ℕ)) (P : List ℕ → Type 0) →
    ((bytes : List ℕ) → o ≡ Some bytes → P bytes) → IfSome o P
if_known None P holds = tt
if_known (Some bytes) P holds = holds bytes refl

-- A run has read a whole text, and these bytes are its output.
pub record ReadWhole (task : Task) (source source' : SourceView) (bytes : List ℕ) : Type 0 where
  pub read : List (ℕ × Entry)
  pub at : Progress
  pub reached : Reached task.format task.limit source source' read at
  pub ended : at.state ≡ state.Ended
  pub output : (text : List ℕ) → entries_of read ≡ entries task.format text →
      task.whole text ≡ bytes

-- The text has no fault, nothing is left of it, and these bytes are its output.
pub record IsRead (task : Task) (source' : SourceView) (bytes text : List ℕ) : Type 0 where
  pub faultless : (reading task.format task.limit text).fault ≡ None
  pub left : source'.remaining ≡ Some []
  pub output : task.whole text ≡ bytes

-- the text that the source reported was read
pub ReadWhole-read : {task : Task} {source source' : SourceView} {bytes : List ℕ} →
    ReadWhole task source source' bytes
    → (text : List ℕ) → source.remaining ≡ Some text → IsRead task source' bytes text
ReadWhole-read {task = task} {source = source} {source' = source'} whole text reported =
    let end = Reached-end task.format task.limit text source source' whole.read whole.at reported
    whole.reached whole.ended in record {
      faultless = ap (λ r. r.fault) end;
      left = Reached-left task.format task.limit text source source' whole.read whole.at reported
          whole.reached whole.ended;
      output = whole.output text (entries-reading task.format task.limit text whole.read end);
    }

module _ (task : Task) (source source' : SourceView) (xs : List (ℕ × Entry)) (p : Progress)
    (run : Reached task.format task.limit source source' xs p)
    (sink sink' : SinkView) where
  -- at a fault of the trace, the output for the entries before it was written
  pub task_stops : (x : TraceFault) → p.state ≡ state.Failed x →
      device_failed (state.Failed x) ≡ false
      → Wrote sink sink' (task.partial (entries_of xs))
      → IfSome source.remaining (λ text. StopsAt task x text sink sink')
  task_stops x failed own wrote = if_known source.remaining (λ text. StopsAt task x text sink sink')
      (λ text reported.
      let is = Reached-fault task.format task.limit text source source' xs p x reported run
      failed own in
      record {
        first = ap (λ r. r.fault) is;
        wrote =
            subst (λ r. Appends sink.written sink'.written (task.partial (entries_in r)))
            (sym is) wrote.took;
      })

  -- at a failure of the source, the output for the entries of the delivered bytes was written
  pub task_cut : (x : TraceFault) → p.state ≡ state.Failed x →
      device_failed (state.Failed x) ≡ true → Wrote sink sink' (task.partial (entries_of xs))
      → IfSome source.remaining (λ text. IfSome source'.remaining
      (λ rest. CutsOff task x text rest sink sink'))
  task_cut (fault.Read n) failed own wrote =
      if_known source.remaining (λ text. IfSome source'.remaining
      (λ rest. CutsOff task (fault.Read n) text rest sink sink')) (λ text reported.
      if_known source'.remaining (λ rest. CutsOff task (fault.Read n) text rest sink sink')
      (λ rest left.
      let cut = Reached-cut task.format task.limit text rest source source' xs p n reported left run
      failed in record {
        delivered = run.bytes;
        delivers = cut.0;
        first = ap (λ r. r.fault) cut.1;
        wrote = subst (λ r. Appends sink.written sink'.written (task.partial (entries_in r)))
            (sym cut.1) wrote.took;
      }))
  task_cut (fault.TooLong n) failed own wrote = absurd cc
  task_cut (fault.TooManyLines n) failed own wrote = absurd cc
  task_cut (fault.Line n e) failed own wrote = absurd cc

-- A task whose output grows with the entries: what is written of some comes before what is written
-- of more, or of the whole text.
pub record WritesAlong (task : Task) : Type 0 where
  pub partial : (xs ys : List Entry) → (more : List ℕ) ×
      (task.partial (xs ++ ys) ≡ task.partial xs ++ more)
  pub whole : (text : List ℕ) → (more : List ℕ) ×
      (task.whole text ≡ task.partial (entries task.format text) ++ more)

module _ (task : Task) (along : WritesAlong task) where
  -- the output begins with what is written of the first entries
  output-begins : (text : List ℕ) (xs : List (ℕ × Entry)) (r : Reading) →
      reading task.format task.limit text ≡ reading_with_entries xs r
      → (more : List ℕ) × (output task text ≡ task.partial (entries_of xs) ++ more)
  output-begins text xs r is = by_fault r.fault refl
    where
      rest : List ℕ
      rest = (along.partial (entries_of xs) (entries_of r.entries)).0

      split : task.partial (entries_of (xs ++ r.entries)) ≡ task.partial (entries_of xs) ++ rest
      split = ap task.partial (map-append (λ y. y.1) xs r.entries) ∙
          (along.partial (entries_of xs) (entries_of r.entries)).1

      by_fault : (o : Option TraceFault) → r.fault ≡ o → (more : List ℕ) ×
          (output task text ≡ task.partial (entries_of xs) ++ more)
      by_fault None none =
          let whole : reading task.format task.limit text ≡ record {
            entries =
                xs ++ r.entries;
            fault = None;
          } =
          is ∙ ap (λ o. record { entries = xs ++ r.entries; fault = o }) none in
          let end : List ℕ = (along.whole text).0 in (
            rest ++ end,
            ap (λ q. output_for task text (entries_in q) q.fault) whole ∙ (along.whole text).1
                ∙ ap (λ es. task.partial es ++ end)
                (sym (entries-reading task.format task.limit text (xs ++ r.entries) whole))
                ∙ ap (λ l. l ++ end) split ∙ append_assoc (task.partial (entries_of xs)) rest end,
          )
      by_fault (Some x) some = (
        rest,
        ap (λ q. output_for task text (entries_in q) q.fault)
            (is ∙ ap (λ o. record { entries = xs ++ r.entries; fault = o }) some) ∙ split,
      )

  -- In the middle of a trace, where the sink failed within what comes of these entries: it took
  -- some part of the output.
  pub task_fails : (source source' : SourceView) (xs : List (ℕ × Entry)) (p : Progress)
      (w0 w : Option (List ℕ))
      → Reached task.format task.limit source source' xs p →
      ((x : TraceFault) → p.state ≢ state.Failed x)
      → WritesPrefix w0 w (task.partial (entries_of xs)) →
      IfSome source.remaining (λ text. WritesPrefix w0 w (output task text))
  task_fails source source' xs p w0 w run well part =
      if_known source.remaining (λ text. WritesPrefix w0 w (output task text)) (λ text reported.
      let prefix = Reached-prefix task.format task.limit text source source' xs p
      reported run well in
      let begins = output-begins text xs prefix.0 prefix.1 in
      subst (WritesPrefix w0 w) (sym begins.1) (part_of_first w0 w (task.partial (entries_of xs))
      begins.0 part))
