-- The state of a reader, and what it has read of a source.
use Rattle.std.specs.Prelude.{◌≡◌, ◌≢◌, ◌≤◌, ◌+◌, ◌-◌, ⊤, IfSome, Bool, true, false, ℕ, List, []}
use Rattle.std.specs.Prelude.{◌++◌, length, drop, Option, None, Some, Result, Ok, Err}
use Rattle.std.specs.Io.KnownBytes.{Consumes, IsAtEnd}
use Rattle.std.specs.Option.{option_to_list}
use Rattle.trace_core.specs.Reading.{Reading, reading_end, Ending, reading_after, at_end}
use Rattle.trace_core.specs.Reading.{at_failure}
use Rattle.trace_core.specs.Device.{SourceView, failures_after}
use Rattle.trace_core.specs.declared.ahead.Ahead.{Ahead}
use Rattle.trace_core.specs.declared.events.Entry.{Entry}
use Rattle.trace_core.specs.declared.line.Format.{Format}
use Rattle.trace_core.specs.declared.fault.TraceFault.{TraceFault}
use Rattle.trace_core.specs.declared.fault.TraceFault.TheVariants as fault
use Rattle.trace_core.specs.declared.state.ReaderState.{ReaderState}
use Rattle.trace_core.specs.declared.state.ReaderState.TheVariants as state

-- The progress of a reader: how many lines it has read, which bytes were delivered and not yet read
-- (none once it has stopped), and whether it goes on.
pub record Progress : Type 0 where
  pub format : Format
  pub limit : ℕ
  pub lines : ℕ
  pub unread : List ℕ
  pub state : ReaderState

-- A loop is ahead of its reader by some lines and their bytes, which the reader holds. Each line
-- has at least one byte.
pub record IsAhead (p : Progress) (ahead : Ahead) : Type 0 where
  pub lines : ahead.lines ≤ ahead.bytes
  pub bytes : ahead.bytes ≤ length p.unread
  pub limit : ahead.lines ≤ p.limit - p.lines

-- the progress of a reader whose loop is ahead
abbrev pub progress_ahead : Progress → Ahead → Progress
progress_ahead p ahead = record p {
  lines = ahead.lines + p.lines;
  unread = drop ahead.bytes p.unread;
}

-- the reading that a reader in this state still returns, if an open one would return this one
abbrev pub reading_in_state : ReaderState → Reading → Reading
reading_in_state state.Open r = r
reading_in_state state.Ended r = reading_end None
reading_in_state (state.Failed f) r = reading_end (Some f)

-- the reading that a reader will return, if these bytes come and then this ending
abbrev pub remaining_reading : Ending → Progress → List ℕ → Reading
remaining_reading e p later = reading_in_state p.state (reading_after e p.format p.limit p.lines
    (p.unread ++ later))

-- The continuations of the bytes that led to a state (`reported` is what the source still reports):
-- anything while the reader is open, nothing after the end or a failure, and after another fault
-- what is reported.
abbrev pub MayFollow : Option (List ℕ) → ReaderState → Ending → List ℕ → Type 0
MayFollow reported state.Open e later = ⊤
MayFollow reported state.Ended e later = (e ≡ at_end) × (later ≡ [])
MayFollow reported (state.Failed (fault.Read n)) e later = (e ≡ at_failure) × (later ≡ [])
MayFollow reported (state.Failed (fault.TooLong n)) e later = (e ≡ at_end) × (reported ≡ Some later)
MayFollow reported (state.Failed (fault.TooManyLines n)) e later = (e ≡ at_end) ×
    (reported ≡ Some later)
MayFollow reported (state.Failed (fault.Line n f)) e later = (e ≡ at_end) × (reported ≡ Some later)

-- these entries, and then a reading
abbrev pub reading_with_entries : List (ℕ × Entry) → Reading → Reading
reading_with_entries xs r = record { entries = xs ++ r.entries; fault = r.fault }

-- A reader went from old to new over these bytes and gave these entries: whatever may follow, what
-- old gives is these entries and then what new gives.
pub record Advances (reported : Option (List ℕ)) (old new : Progress) (bytes : List ℕ)
    (xs : List (ℕ × Entry)) : Type 0 where
  pub gives : (e : Ending) (later : List ℕ) → MayFollow reported new.state e later
      → remaining_reading e old (bytes ++ later) ≡
      reading_with_entries xs (remaining_reading e new later)

-- the state of a reader that began
abbrev pub new_progress : Format → ℕ → Progress
new_progress format limit = record {
  format = format;
  limit = limit;
  lines = 0;
  unread =
      [];
  state = state.Open;
}

-- the entry that a call returned, if it did
abbrev pub entries_returned : Result (Option (ℕ × Entry)) TraceFault → List (ℕ × Entry)
entries_returned (Ok x) = option_to_list x
entries_returned (Err f) = []

-- the state reports what was returned: the end, a fault, or an entry
abbrev pub Reports : ReaderState → Result (Option (ℕ × Entry)) TraceFault → Type 0
Reports s (Ok None) = s ≡ state.Ended
Reports s (Ok (Some x)) = (f : TraceFault) → s ≢ state.Failed f
Reports s (Err f) = s ≡ state.Failed f

-- with an end or a fault a loop is no longer ahead
abbrev pub CatchesUp : Result (Option (ℕ × Entry)) TraceFault → Ahead → Type 0
CatchesUp (Ok None) ahead = ahead ≡ record { lines = 0; bytes = 0 }
CatchesUp (Ok (Some x)) ahead = ⊤
CatchesUp (Err f) ahead = ahead ≡ record { lines = 0; bytes = 0 }

-- whether a state is that of a failed device
abbrev pub device_failed : ReaderState → Bool
device_failed state.Open = false
device_failed state.Ended = false
device_failed (state.Failed (fault.Read n)) = true
device_failed (state.Failed (fault.TooLong n)) = false
device_failed (state.Failed (fault.TooManyLines n)) = false
device_failed (state.Failed (fault.Line n f)) = false

-- The source reported these bytes before they were delivered, and goes on reporting unless it
-- failed.
abbrev pub Delivers : Option (List ℕ) → Option (List ℕ) → Bool → List ℕ → Type 0
Delivers old new false bytes = Consumes old new bytes
Delivers old new true bytes = IfSome old (λ before. IfSome new (λ later. before ≡ bytes ++ later))

-- the result of a call in a state that isn't open
abbrev pub stopped_result : ReaderState → Result (Option (ℕ × Entry)) TraceFault
stopped_result state.Open = Ok None
stopped_result state.Ended = Ok None
stopped_result (state.Failed f) = Err f

-- A reader was begun on a source seen as `start`, which is seen as `now`, and has read these
-- entries since.
pub record Reached (format : Format) (limit : ℕ) (start now : SourceView) (xs : List (ℕ × Entry))
    (p : Progress) : Type 0 where
  -- the bytes that the source delivered
  pub bytes : List ℕ
  -- they were the first of what it had to give
  pub delivers : Delivers start.remaining now.remaining (device_failed p.state) bytes
  -- whatever may follow them, they read as these entries and then what the reader still gives
  pub reads : Advances now.remaining (new_progress format limit) p bytes xs
  -- a reader at its end has left no byte
  pub at_end : p.state ≡ state.Ended → IsAtEnd now.remaining
  -- a read failed exactly if the state says so
  pub counted : now.failures ≡ failures_after (device_failed p.state) start.failures
