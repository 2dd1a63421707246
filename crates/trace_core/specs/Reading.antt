-- The reading of a text: its entries with their line numbers, and the fault at which they end. What
-- is at fault, and which fault comes first, is this project's own rule.
use Rattle.std.specs.Prelude.{ℕ, ◌+◌, nat_lt, List, [], ◌∷◌, length, take, drop, map, filter_map}
use Rattle.std.specs.Prelude.{Option, None, Some, Result, Ok, Err, if◌then◌else◌, flat_map}
use Rattle.std.specs.List.{enumerate_from}
use Rattle.std.specs.Option.{option_map}
use Rattle.trace_core.specs.Lines.{lines, line_feeds}
use Rattle.trace_core.specs.Line.{meaning}
use Rattle.trace_core.specs.Events.{events_of}
use Rattle.trace_core.specs.declared.events.Entry.{Entry}
use Rattle.trace_core.specs.declared.events.Event.{Event}
use Rattle.trace_core.specs.declared.events.Kind.{Kind}
use Rattle.trace_core.specs.declared.line.Format.{Format}
use Rattle.trace_core.specs.declared.line.LineFault.{LineFault}
use Rattle.trace_core.specs.declared.fault.TraceFault.{TraceFault}
use Rattle.trace_core.specs.declared.fault.TraceFault.TheVariants as fault

-- the most bytes of a line before its LF: the manual's limit
abbrev pub longest_line : ℕ
longest_line = 4096

-- a meaning, or the fault of line n
abbrev pub with_line : ℕ → Result (Option Entry) LineFault → Result (Option Entry) TraceFault
with_line n (Ok entry) = Ok entry
with_line n (Err f) = Err (fault.Line n f)

-- Line n of a trace of at most `limit` lines: past the limit, too long, or what its format says of
-- it.
abbrev pub judgement : Format → ℕ → ℕ → List ℕ → Result (Option Entry) TraceFault
judgement format limit n line =
    if nat_lt limit n then Err (fault.TooManyLines limit)
    else if nat_lt longest_line (length line) then Err (fault.TooLong n)
    else with_line n (meaning format line)

-- the entries of a text with the numbers of their lines, and the fault at which they end, if any
pub record Reading : Type 0 where
  pub entries : List (ℕ × Entry)
  pub fault : Option TraceFault

-- nothing more comes but this fault, or the end
abbrev pub reading_end : Option TraceFault → Reading
reading_end f = record { entries = []; fault = f }

-- the entry of line n, and then those of later lines; a skipped line has none, and a fault ends the
-- reading
abbrev pub reading_with_line : ℕ → Result (Option Entry) TraceFault → Reading → Reading
reading_with_line n (Ok None) later = later
reading_with_line n (Ok (Some entry)) later = record {
  entries = (n, entry) ∷ later.entries;
  fault =
      later.fault;
}
reading_with_line n (Err f) later = reading_end (Some f)

-- the reading of some lines, of which the first has the number n + 1, and then of what comes after
-- them
abbrev pub read_lines : Format → ℕ → ℕ → List (List ℕ) → Reading → Reading
read_lines format limit n [] last = last
read_lines format limit n (line ∷ more) last =
    reading_with_line (n + 1) (judgement format limit (n + 1) line)
    (read_lines format limit (n + 1) more last)

-- How the bytes that a device delivers end: with the text, or with a failure.
pub data Ending : Type 0 where
  at_end : Ending
  at_failure : Ending

-- Where a device failed in line n, of which this piece had come: a byte past the limit, too many
-- bytes, or the failure itself.
abbrev pub cut_fault : ℕ → ℕ → List (List ℕ) → TraceFault
cut_fault limit n [] = fault.Read n
cut_fault limit n (piece ∷ none) =
    if nat_lt limit n then fault.TooManyLines limit
    else if nat_lt longest_line (length piece) then fault.TooLong n
    else fault.Read n

-- The reading of a text, n lines before which were read: of all its lines; or, if the device then
-- failed, of the lines whose LF came, and of the piece that was cut off.
abbrev pub reading_after : Ending → Format → ℕ → ℕ → List ℕ → Reading
reading_after at_end format limit n text = read_lines format limit n (lines text) (reading_end None)
reading_after at_failure format limit n text =
    let whole = line_feeds text in
    read_lines format limit n (take whole (lines text))
    (reading_end (Some (cut_fault limit (n + whole + 1) (drop whole (lines text)))))

-- the reading of a whole text
abbrev pub reading : Format → ℕ → List ℕ → Reading
reading format limit text = reading_after at_end format limit 0 text

-- the reading of what a device delivered before it failed
abbrev pub cut_reading : Format → ℕ → List ℕ → Reading
cut_reading format limit text = reading_after at_failure format limit 0 text

-- the fault of the first line at fault, if any
abbrev pub first_fault : Format → ℕ → List ℕ → Option TraceFault
first_fault format limit text = (reading format limit text).fault

-- the judgements of a text's lines, in order; lines are numbered from 1
abbrev pub judgements : Format → ℕ → List ℕ → List (Result (Option Entry) TraceFault)
judgements format limit text = map (λ x. judgement format limit x.0 x.1)
    (enumerate_from 1 (lines text))

-- the judgements of the lines whose LF is in a text
abbrev pub whole_judgements : Format → ℕ → List ℕ → List (Result (Option Entry) TraceFault)
whole_judgements format limit text = take (line_feeds text) (judgements format limit text)

-- the entry of a meaning that has one
abbrev pub entry_in : Result (Option Entry) LineFault → Option Entry
entry_in (Ok entry) = entry
entry_in (Err f) = None

-- the entry of a line, if it has one, with the line's number
abbrev pub numbered_entry : Format → ℕ × List ℕ → Option (ℕ × Entry)
numbered_entry format line = option_map (λ entry. (line.0, entry))
    (entry_in (meaning format line.1))

-- the entries of a text's lines in order
abbrev pub entries : Format → List ℕ → List Entry
entries format text = filter_map (λ line. entry_in (meaning format line)) (lines text)

-- the events that a trace gives a cache: the references of its items that are kept, and its flushes
abbrev pub events : Format → Kind → List ℕ → List Event
events format kind text = flat_map (events_of kind) (entries format text)
