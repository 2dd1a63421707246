-- The text that a sweep writes.
use Rattle.std.specs.Prelude.{ℕ, ◌&&◌, if◌then◌else◌, false, Option, None, Some, List, [], ◌∷◌}
use Rattle.std.specs.Prelude.{◌++◌, map, flat_map, decimal, codes}
use Rattle.std.specs.List.{join_with_byte}
use Rattle.trace_core.specs.declared.events.Event.{Event}
use Rattle.trace_core.specs.Reading.{events}
use Rattle.trace_core.specs.Task.{Task}
use Rattle.cache_core.specs.declared.outcome.Counts.{Counts}
use Rattle.cache_core.specs.Geometry.{GeometryValue, geometry_value, geometry_of}
use Rattle.cache_core.specs.Powers.{is_power, log2}
use Rattle.cache_core.specs.Windows.{counts}
use Rattle.sweep_core.specs.declared.space.Config.{Config}
use Rattle.sweep_core.specs.declared.request.Request.{Request}
use Rattle.sweep_core.specs.Space.{bytes_of}
use Rattle.sweep_core.specs.Table.{table, first_rows}

-- the geometry of a configuration
abbrev pub geometry_of_config : Config → GeometryValue
geometry_of_config c = geometry_value (log2 c.sets) c.assoc (log2 c.bsize)

-- the geometry of a configuration, if it has one: its block size and set count are powers of two,
-- and it is within the limits
abbrev pub config_geometry : Config → Option GeometryValue
config_geometry c =
    if is_power c.bsize && is_power c.sets then geometry_of (log2 c.sets) c.assoc
    (log2 c.bsize) else None

-- the counts of a configuration over a trace
abbrev pub row_counts : List Event → Config → Counts
row_counts es c = counts (geometry_of_config c) es

-- numbers in decimal, with commas between them, and an LF
abbrev pub csv_line : List ℕ → List ℕ
csv_line numbers = join_with_byte 44 (map decimal numbers) ++ 10 ∷ []

-- the row of a configuration
abbrev pub row_of : Config → Counts → List ℕ
row_of c n = csv_line (c.bsize ∷ c.sets ∷ c.assoc ∷ bytes_of
    c ∷ n.hits ∷ n.misses ∷ n.evictions ∷ [])

-- the text of some rows
unfoldable pub csv_rows : List (Config × Counts) → List ℕ
csv_rows rows = flat_map (λ row. row_of row.0 row.1) rows

-- the header, which is written only if a sweep begins at the first configuration
abbrev pub header_of : Option Config → List ℕ
header_of None = codes "bsize,sets,assoc,size,hits,misses,evictions\n"
header_of (Some after) = []

-- the rows of some configurations over a trace
unfoldable pub rows_text : List Event → List Config → List ℕ
rows_text es rows = flat_map (λ c. row_of c (row_counts es c)) rows

-- the configurations that a request may write
abbrev pub configs_of : Request → List Config
configs_of r = table r.space r.after

-- the configurations that it writes
abbrev pub rows_of : Request → List Config
rows_of r = first_rows r.rows (configs_of r)

-- the table that a request asks for over a trace: the header, and a row for each configuration
abbrev pub table_text : Request → List Event → List ℕ
table_text r es = header_of r.after ++ rows_text es (rows_of r)

-- the output of a sweep of a text
unfoldable pub sweep_text : Request → List ℕ → List ℕ
sweep_text r text = table_text r (events r.format r.kind text)

-- a sweep writes nothing before it has read a whole text
unfoldable pub sweep_task : Request → Task
sweep_task r = record {
  format = r.format;
  limit = r.max_lines;
  writes_early = false;
  whole =
      sweep_text r;
  partial = λ es. [];
}
