-- The text that a full sweep writes: the rows of a sweep, each with misses by kind of access and
-- copybacks too.
use Rattle.std.specs.Prelude.{ℕ, false, Option, None, Some, List, [], ◌∷◌, ◌++◌, flat_map, codes}
use Rattle.trace_core.specs.declared.events.Event.{Event}
use Rattle.trace_core.specs.Reading.{events}
use Rattle.trace_core.specs.Task.{Task}
use Rattle.full_profile.specs.declared.counts.FullCounts.{FullCounts}
use Rattle.full_profile.specs.LookBack.{full_counts}
use Rattle.sweep_core.specs.declared.space.Config.{Config}
use Rattle.sweep_core.specs.declared.request.Request.{Request}
use Rattle.sweep_core.specs.Space.{bytes_of}
use Rattle.sweep_core.specs.SweepText.{geometry_of_config, csv_line, rows_of}

-- all counts of a configuration over a trace
abbrev pub full_row_counts : List Event → Config → FullCounts
full_row_counts es c = full_counts (geometry_of_config c) es

-- the row of a configuration
abbrev pub full_row_of : Config → FullCounts → List ℕ
full_row_of c n = csv_line (c.bsize ∷ c.sets ∷ c.assoc ∷ bytes_of c ∷ n.hits ∷ n.misses
    ∷ n.evictions ∷ n.fetch_misses ∷ n.read_misses ∷ n.write_misses ∷ n.copybacks ∷ [])

-- the text of some rows
unfoldable pub full_csv_rows : List (Config × FullCounts) → List ℕ
full_csv_rows rows = flat_map (λ row. full_row_of row.0 row.1) rows

-- the header, which is written only if a sweep begins at the first configuration
abbrev pub full_header_of : Option Config → List ℕ
full_header_of None = codes
    "bsize,sets,assoc,size,hits,misses,evictions,fetch-misses,read-misses,write-misses,copybacks\n"
full_header_of (Some after) = []

-- the rows of some configurations over a trace
unfoldable pub full_rows_text : List Event → List Config → List ℕ
full_rows_text es rows = flat_map (λ c. full_row_of c (full_row_counts es c)) rows

-- the full table that a request asks for over a trace: the header, and a row for each configuration
abbrev pub full_table_text : Request → List Event → List ℕ
full_table_text r es = full_header_of r.after ++ full_rows_text es (rows_of r)

-- the output of a full sweep of a text
unfoldable pub full_sweep_text : Request → List ℕ → List ℕ
full_sweep_text r text = full_table_text r (events r.format r.kind text)

-- a full sweep writes nothing before it has read a whole text
unfoldable pub full_sweep_task : Request → Task
full_sweep_task r = record {
  format = r.format;
  limit = r.max_lines;
  writes_early = false;
  whole =
      full_sweep_text r;
  partial = λ es. [];
}
