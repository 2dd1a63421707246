-- The front of a line, which decides what it means.
use Rattle.std.specs.Prelude.{◌≡◌, true, false, ℕ, List, [], ◌∷◌, ◌++◌, Some, Ok, take, length, ◌+◌}
use Rattle.std.specs.Prelude.{◌-◌, ◌≤◌, drop}
use Rattle.memchr.specs.Find.{IsFirstByte, is_byte}
use Rattle.trace_core.specs.Fields.{is_trailing, without_trailing, fields, is_field_end}
use Rattle.trace_core.specs.Fields.{number_written}
use Rattle.trace_core.specs.Lines.{is_line_feed, HoldsNoFeed}
use Rattle.trace_core.specs.Line.{meaning, din_op}
use Rattle.trace_core.specs.declared.events.Entry.TheVariants as entry
use Rattle.trace_core.specs.declared.events.Item.{Item}
use Rattle.trace_core.specs.declared.events.Op.{Op}
use Rattle.trace_core.specs.declared.line.Format.{Format}
use Rattle.trace_core.specs.declared.line.Format.TheVariants.{Din}

-- A text begins with some bytes, without an LF. A line that begins with them means this item, if a
-- field ends after them.
pub record BeginsLine (format : Format) (text rest : List ℕ) (item : Item) : Type 0 where
  pub front : List ℕ
  pub splits : text ≡ front ++ rest
  pub no_line_feed : HoldsNoFeed front
  pub means : (end : List ℕ) → is_field_end end ≡ true → meaning format (front ++ end) ≡ Ok
      (Some (entry.Item item))

-- A text begins with some bytes. A line that begins with them has this label as its first field,
-- and its others come after them,
-- unless the label is a blank or a CR; and the bytes have no LF unless the label is one.
pub record BeginsLabel (text rest : List ℕ) (label : ℕ) : Type 0 where
  pub front : List ℕ
  pub splits : text ≡ front ++ rest
  pub no_line_feed : is_line_feed label ≡ false → HoldsNoFeed front
  pub first : (more : List ℕ) → is_trailing label ≡ false →
      fields (without_trailing (front ++ more)) ≡ (label ∷ []) ∷ fields (without_trailing more)

-- The line that a text begins with ends at this index: its LF is there, and a field ends where this
-- rest of the text begins.
pub record EndsLine (text rest : List ℕ) (at : ℕ) : Type 0 where
  pub after : ℕ
  pub line_feed : IsFirstByte (is_byte 10) rest (Some after)
  pub ends : is_field_end (take after rest) ≡ true
  pub place : at ≡ length text - length rest + after

-- A text begins with a line of so many bytes, its LF included, and the line means this item.
pub record HoldsLine (format : Format) (text : List ℕ) (item : Item) (len : ℕ) : Type 0 where
  pub some : 1 ≤ len
  pub line_feed : IsFirstByte (is_byte 10) text (Some (len - 1))
  pub means : meaning format (take (len - 1) text) ≡ Ok (Some (entry.Item item))

-- If a text begins with a label of din and a space, then with a line of this address and so many
-- bytes.
abbrev pub HoldsAddress : List ℕ → ℕ → ℕ → Type 0
HoldsAddress text addr len = (op : Op) (label : ℕ) → BeginsLabel text (drop 2 text) label →
    din_op label ≡ Some op → HoldsLine Din text (record { op = op; addr = addr; size = 0 }) len

-- At this index of a text stands a size, the last field that matters of a line of so many bytes.
pub record HoldsSize (text : List ℕ) (at size len : ℕ) : Type 0 where
  pub digits : List ℕ
  pub end : List ℕ
  pub splits : drop at text ≡ digits ++ end
  pub writes : number_written 10 9 digits ≡ Some size
  pub some : 1 ≤ len
  pub ends : EndsLine text end (len - 1)
