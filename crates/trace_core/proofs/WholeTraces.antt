-- A loop over the entries of a trace: what was read, and what its run has done at each of its ends.
use Rattle.std.proofs.Common.{◌≡◌, ℕ, ◌+◌, ◌<◌, ◌≤◌, List, [], ◌∷◌, ◌++◌, Option, None, Some}
use Rattle.std.proofs.Common.{Result, Ok, Err, true, sym, ap, ◌∙◌, subst, arith, append-nil}
use Rattle.std.proofs.Common.{length, length-append}
use Rattle.std.proofs.lemmas.List.{map_push}
use Rattle.std.specs.Prelude.{IfOk, IfSome}
use Rattle.trace_core.specs.declared.ahead.Ahead.{Ahead}
use Rattle.trace_core.specs.declared.events.Entry.{Entry}
use Rattle.trace_core.specs.declared.line.Format.{Format}
use Rattle.trace_core.specs.declared.fault.TraceFault.{TraceFault}
use Rattle.trace_core.specs.declared.state.ReaderState.TheVariants as state
use Rattle.trace_core.specs.Device.{SourceView, SinkView, Wrote, WrotePart, WroteLast}
use Rattle.trace_core.specs.Device.{WroteLastPart}
use Rattle.trace_core.specs.Reading.{entries}
use Rattle.trace_core.specs.Reader.{Progress, Reached, Reports, entries_returned, new_progress}
use Rattle.trace_core.specs.Reader.{IsAhead, progress_ahead, CatchesUp}
use Rattle.trace_core.specs.Task.{Task, Finished, Stopped, WriteFailed, HasRead, entries_of}
use Rattle.trace_core.proofs.Runs.{Reached-start, Reached-from}
use Rattle.trace_core.proofs.Tasks.{ReadWhole, WritesAlong}
use Rattle.trace_core.proofs.Performing.{Finished-written, Stopped-at, WriteFailed-early}
use Rattle.trace_core.proofs.Performing.{WriteFailed-late}
use Rattle.trace_core.proofs.Written.{WrotePart-after, WroteLast-after, WroteLastPart-after}

-- The invariant of such a loop: the entries that were read have a line each, and this holds of
-- them.
pub record Reads (format : Format) (limit : ℕ) (start now : SourceView) (p : Progress)
    (Holds : List Entry → Type 0) : Type 0 where
  pub read : List (ℕ × Entry)
  pub reached : Reached format limit start now read p
  pub few : length (entries_of read) ≤ p.lines
  pub holds : Holds (entries_of read)

-- before the first call nothing was read
pub reads-none : {format : Format} {limit : ℕ} {Holds : List Entry → Type 0} {p : Progress}
    (v : SourceView)
    → p ≡ new_progress format limit → Holds [] → Reads format limit v v p Holds
reads-none {format} {limit} v is holds =
    record {
      read = [];
      reached = rw is (Reached-start format limit v);
      few =
          omega arith;
      holds = holds;
    }

-- a call of a reader that returned this reads on
abbrev pub ReadsOn : SourceView → SourceView → Progress → Progress →
    Result (Option (ℕ × Entry)) TraceFault → Type 0
ReadsOn mid now p q answer = (format : Format) (limit : ℕ) (start : SourceView)
    (xs : List (ℕ × Entry))
    → Reached format limit start mid xs p →
    Reached format limit start now (xs ++ entries_returned answer) q

-- an entry that it returned bears the number of the last line
abbrev pub Bears : Progress → Progress → Result (Option (ℕ × Entry)) TraceFault → Type 0
Bears p q answer = IfOk answer (λ found. IfSome found (λ x. (x.0 ≡ q.lines) × (p.lines < q.lines)))

module _ {format : Format} {limit : ℕ} {start mid now : SourceView} {p q : Progress}
    {Holds : List Entry → Type 0}
    (old : Reads format limit start mid p Holds) {answer : Result (Option (ℕ × Entry)) TraceFault}
    (reads_on : ReadsOn mid now p q answer) where
  -- it returned an entry
  pub reads-more : {found : Option (ℕ × Entry)} {x : ℕ × Entry} {Holds' : List Entry → Type 0} →
      Bears p q answer
      → answer ≡ Ok found → found ≡ Some x → Holds' (entries_of old.read ++ x.1 ∷ []) →
      Reads format limit start now q Holds'
  reads-more {x = x} {Holds'} bears was is holds =
      let further : p.lines < q.lines = (rw (was ∙ ap Ok is) at bears).1 in
      let es = entries_of old.read in
      let more : entries_of (old.read ++ x ∷ []) ≡ es ++ x.1 ∷ [] =
      map_push (λ y. y.1) old.read x in
      record {
        read = old.read ++ x ∷ [];
        reached = rw (was ∙ ap Ok is) at (reads_on _ _ _ old.read old.reached);
        few = omega (arith, old.few, further, ap length more, length-append es (x.1 ∷ []));
        holds = subst Holds' (sym more) holds;
      }

  -- it returned the end, or a fault
  abbrev pub reads-end : {found : Option (ℕ × Entry)} → answer ≡ Ok found → found ≡ None →
      HasRead format limit start now q Holds
  reads-end was is = record {
    read = old.read;
    reached = rw (was ∙ ap Ok is, append-nil old.read) at (reads_on _ _ _ old.read old.reached);
    holds = old.holds;
  }

  abbrev pub reads-fault : {x : TraceFault} → answer ≡ Err x →
      HasRead format limit start now q Holds
  reads-fault was = record {
    read = old.read;
    reached = rw (was, append-nil old.read) at (reads_on _ _ _ old.read old.reached);
    holds = old.holds;
  }

-- a loop that is not ahead
pub not-ahead : (p : Progress) (ahead : Ahead) → ahead ≡ record { lines = 0; bytes = 0 } →
    progress_ahead p ahead ≡ p
not-ahead p ahead is =
    let lines : 0 + p.lines ≡ p.lines = omega arith in
    ap (progress_ahead p) is ∙ (λ i. record p { lines = lines i })

pub begins-ahead : (p : Progress) (ahead : Ahead) → ahead ≡ record { lines = 0; bytes = 0 } →
    IsAhead p ahead
begins-ahead p ahead is = rw is (record {
  lines = omega arith;
  bytes = omega arith;
  limit = omega arith;
})

-- a loop that comes to the end, or to a fault, has told its reader what it read
pub caught-end : {format : Format} {limit : ℕ} {start now : SourceView} (p : Progress)
    (ahead : Ahead) {Holds : List Entry → Type 0} {answer : Result (Option (ℕ × Entry)) TraceFault}
    {found : Option (ℕ × Entry)}
    → CatchesUp answer ahead → answer ≡ Ok found → found ≡ None →
    HasRead format limit start now (progress_ahead p ahead) Holds →
    HasRead format limit start now p Holds
caught-end {format} {limit} {start} {now} p ahead {Holds} caught was is run =
    let none : ahead ≡ record { lines = 0; bytes = 0 } = rw (was ∙ ap Ok is) at caught in
    subst (λ (q : Progress). HasRead format limit start now q Holds) (not-ahead p ahead none) run

pub caught-fault : {format : Format} {limit : ℕ} {start now : SourceView} (p : Progress)
    (ahead : Ahead) {Holds : List Entry → Type 0} {answer : Result (Option (ℕ × Entry)) TraceFault}
    {x : TraceFault}
    → CatchesUp answer ahead → answer ≡ Err x →
    HasRead format limit start now (progress_ahead p ahead) Holds →
    HasRead format limit start now p Holds
caught-fault {format} {limit} {start} {now} p ahead {Holds} caught was run =
    let none : ahead ≡ record { lines = 0; bytes = 0 } = rw was at caught in
    subst (λ (q : Progress). HasRead format limit start now q Holds) (not-ahead p ahead none) run

-- a reader that began with this format and limit
abbrev pub read-from : {format : Format} {limit : ℕ} {start now : SourceView} {first p : Progress}
    {Holds : List Entry → Type 0}
    → first ≡ new_progress format limit → HasRead first.format first.limit start now p Holds →
    HasRead format limit start now p Holds
read-from is run = record {
  read = run.read;
  reached = Reached-from is run.reached;
  holds =
      run.holds;
}

-- less may be said of what was read
pub holds-less : {format : Format} {limit : ℕ} {start now : SourceView} {p : Progress}
    {Holds Holds' : List Entry → Type 0}
    → ((es : List Entry) → Holds es → Holds' es) → HasRead format limit start now p Holds →
    HasRead format limit start now p Holds'
holds-less less run = record {
  read = run.read;
  reached = run.reached;
  holds =
      less (entries_of run.read) run.holds;
}

-- A run of a task, whose loop has come to one of its ends, with the output for what was read.
module _ {task : Task} {start now : SourceView} {p : Progress} {Holds : List Entry →
    Type 0} {sink between : SinkView}
    (run : HasRead task.format task.limit start now p Holds)
    (wrote : Wrote sink between (task.partial (entries_of run.read))) where
  pub run-stopped : (x : TraceFault) → p.state ≡ state.Failed x →
      Stopped task x start now sink between
  run-stopped x failed = Stopped-at x failed run.reached wrote

  module _ (bytes : List ℕ) (ended : p.state ≡ state.Ended)
      (output : (text : List ℕ) → entries_of run.read ≡ entries task.format text
      → task.whole text ≡ task.partial (entries_of run.read) ++ bytes) where
    -- these bytes are left to be written
    whole : ReadWhole task start now (task.partial (entries_of run.read) ++ bytes)
    whole = record {
      read = run.read;
      at = p;
      reached = run.reached;
      ended =
          ended;
      output = output;
    }

    pub run-finished : {sink' : SinkView} → WroteLast between sink' bytes →
        Finished task start now sink sink'
    run-finished last = Finished-written whole (WroteLast-after wrote last)

    pub run-unfinished : {sink' : SinkView} → WroteLastPart between sink' bytes →
        WriteFailed task start now sink sink'
    run-unfinished part = WriteFailed-late whole (WroteLastPart-after wrote part)

-- The sink of a run that writes early failed in the piece of an entry.
pub run-broken : {task : Task} {start mid now : SourceView} {p q : Progress} {Holds : List Entry →
    Type 0}
    {sink between sink' : SinkView} {answer : Result (Option (ℕ × Entry)) TraceFault}
    {found : Option (ℕ × Entry)} {x : ℕ × Entry}
    {piece : List ℕ} → task.writes_early ≡ true → WritesAlong task →
    (old : Reads task.format task.limit start mid p Holds)
    → ReadsOn mid now p q answer → Reports q.state answer → answer ≡ Ok found → found ≡ Some x
    → Wrote sink between (task.partial (entries_of old.read))
    → task.partial (entries_of old.read ++ x.1 ∷ []) ≡ task.partial (entries_of old.read) ++ piece
    → WrotePart between sink' piece → WriteFailed task start now sink sink'
run-broken {task = task} {q = q} {sink = sink} {sink' = sink'} {x = x} early along old reads_on
    reports was is wrote more part =
    WriteFailed-early early along (rw (was ∙ ap Ok is) at (reads_on _ _ _ old.read old.reached))
    (subst (Reports q.state) (was ∙ ap Ok is) reports)
    (subst (WrotePart sink sink') (sym (ap task.partial (map_push (λ y. y.1) old.read x) ∙ more))
    (WrotePart-after wrote part))
