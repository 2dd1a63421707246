-- The output of `csim` for a trace, in the form of the CS:APP cache lab handout: a line for each
-- data item if lines are wanted, and a summary.
use Rattle.std.specs.Prelude.{ℕ, Bool, true, List, [], ◌∷◌, ◌++◌, Option, None, Some, if◌then◌else◌}
use Rattle.std.specs.Prelude.{map, flat_map, codes}
use Rattle.std.specs.Fmt.{decimal}
use Rattle.trace_core.specs.declared.events.Op.{Op}
use Rattle.trace_core.specs.declared.events.Op.TheVariants.{Fetch, Load, Store, Modify}
use Rattle.trace_core.specs.declared.events.Item.{Item}
use Rattle.trace_core.specs.declared.events.Entry.{Entry}
use Rattle.trace_core.specs.declared.events.Entry.TheVariants as entry
use Rattle.trace_core.specs.declared.events.Event.{Event}
use Rattle.trace_core.specs.declared.events.Kind.TheVariants.{DataOnly}
use Rattle.trace_core.specs.declared.line.Format.TheVariants.{Lackey}
use Rattle.trace_core.specs.Events.{events_of}
use Rattle.trace_core.specs.Reading.{entries, events}
use Rattle.trace_core.specs.Task.{Task}
use Rattle.trace_core.specs.Text.{hexadecimal}
use Rattle.cache_core.specs.declared.outcome.Counts.{Counts}
use Rattle.cache_core.specs.declared.simulation.Lookup.{Lookup}
use Rattle.cache_core.specs.declared.simulation.Lookup.TheVariants.{Hit, Miss, MissEviction}
use Rattle.cache_core.specs.Geometry.{GeometryValue}
use Rattle.cache_core.specs.Simulation.{lookup_at}
use Rattle.cache_core.specs.Windows.{occurrences_after, counts}

-- the handout's words, each after a space
abbrev pub lookup_text : Lookup → List ℕ
lookup_text Hit = codes " hit"
lookup_text Miss = codes " miss"
lookup_text MissEviction = codes " miss eviction"

-- The letter of an item's line: L, S or M. A fetch has no line.
abbrev pub letter_of : Op → Option ℕ
letter_of Fetch = None
letter_of Load = Some 76
letter_of Store = Some 83
letter_of Modify = Some 77

-- the line of an item that has this letter, and whose references had these lookups
abbrev pub item_line : Option ℕ → Item → List Lookup → List ℕ
item_line None item lookups = []
item_line (Some letter) item lookups =
    letter ∷ codes " " ++ hexadecimal item.addr ++ codes "," ++ decimal item.size ++
    flat_map lookup_text lookups ++ codes "\n"

-- The line of an entry whose references had these lookups. A flush has none; lackey traces have no
-- flush.
abbrev pub line_of : Entry → List Lookup → List ℕ
line_of (entry.Item item) lookups = item_line (letter_of item.op) item lookups
line_of entry.Flush lookups = []

-- the lookups of the data references of an entry that comes after these events
abbrev pub lookups_of : GeometryValue → List Event → Entry → List Lookup
lookups_of g before e = map (lookup_at g) (occurrences_after g before (events_of DataOnly e))

-- the lines of entries that come after these events
unfoldable pub lines_after : GeometryValue → List Event → List Entry → List ℕ
lines_after g before [] = []
lines_after g before (e ∷ es) = line_of e (lookups_of g before e) ++
    lines_after g (before ++ events_of DataOnly e) es

-- the lines of entries, if they are wanted
abbrev pub csim_lines : GeometryValue → Bool → List Entry → List ℕ
csim_lines g verbose es = if verbose then lines_after g [] es else []

-- the handout's last line
abbrev pub summary : Counts → List ℕ
summary c = codes "hits:" ++ decimal c.hits ++ codes " misses:" ++ decimal c.misses ++
    codes " evictions:" ++ decimal c.evictions ++ codes "\n"

-- all that `csim` writes of a text without a fault
abbrev pub csim_text : GeometryValue → Bool → List ℕ → List ℕ
csim_text g verbose text = csim_lines g verbose (entries Lackey text) ++
    summary (counts g (events Lackey DataOnly text))

-- `csim` reads lackey lines. At a fault it has written the lines of the entries before it, and no
-- summary.
unfoldable pub csim_task : GeometryValue → Bool → ℕ → Task
csim_task g verbose limit = record {
  format = Lackey;
  limit = limit;
  writes_early = true;
  whole =
      csim_text g verbose;
  partial = csim_lines g verbose;
}
