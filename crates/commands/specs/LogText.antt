-- The output of `log` for a trace: a line for each arrival, and one for each cache that is flushed.
-- The layout is this project's.
use Rattle.std.specs.Prelude.{true, Bool, ℕ, List, [], ◌∷◌, ◌++◌, Option, None, Some, if◌then◌else◌}
use Rattle.std.specs.Prelude.{flat_map, codes}
use Rattle.std.specs.Fmt.{decimal}
use Rattle.trace_core.specs.declared.events.Ref.{Ref}
use Rattle.trace_core.specs.declared.events.Entry.{Entry}
use Rattle.trace_core.specs.declared.events.Kind.TheVariants.{All}
use Rattle.trace_core.specs.declared.line.Format.{Format}
use Rattle.trace_core.specs.Events.{events_of}
use Rattle.trace_core.specs.Line.{din_label}
use Rattle.trace_core.specs.Reading.{events}
use Rattle.trace_core.specs.Task.{Task}
use Rattle.trace_core.specs.Text.{hexadecimal}
use Rattle.cache_core.specs.declared.system.arrival.Victim.{Victim}
use Rattle.cache_core.specs.declared.system.arrival.Arrival.{Arrival}
use Rattle.cache_core.specs.declared.system.arrival.Arrival.TheVariants.{Cache, Memory, Bypassed}
use Rattle.cache_core.specs.declared.system.arrival.Arrival.TheVariants.{Flush}
use Rattle.cache_core.specs.system.Plans.{PlannedCaches, cache_name}
use Rattle.cache_core.specs.system.Arrivals.{arrivals}

-- the label and the address, as a din trace has them
abbrev pub reference_text : Ref → List ℕ
reference_text ref = codes " " ++ din_label ref.access ∷ codes " " ++ hexadecimal ref.addr

-- whether it hit
abbrev pub result_text : Bool → List ℕ
result_text hit = if hit then codes " hit" else codes " miss"

-- the evicted block, if there is one
abbrev pub victim_text : Option Victim → List ℕ
victim_text None = []
victim_text (Some victim) = codes " eviction " ++ hexadecimal victim.addr ++
    (if victim.dirty then codes " dirty" else [])

-- the line of an arrival
abbrev pub arrival_line : Arrival → List ℕ
arrival_line (Cache name ref hit victim) = cache_name name ++ reference_text ref ++
    result_text hit ++ victim_text victim ++ codes "\n"
arrival_line (Memory ref) = codes "memory" ++ reference_text ref ++ codes "\n"
arrival_line (Bypassed ref) = codes "bypassed" ++ reference_text ref ++ codes "\n"
arrival_line (Flush name dirty) = cache_name name ++ codes " flush " ++ decimal dirty ++ codes "\n"

-- the lines of arrivals
abbrev pub arrival_lines : List Arrival → List ℕ
arrival_lines xs = flat_map arrival_line xs

-- the lines of entries
abbrev pub log_lines : PlannedCaches → ℕ → List Entry → List ℕ
log_lines plan seed es = arrival_lines (arrivals plan seed (flat_map (events_of All) es))

-- all that `log` writes of a text without a fault
abbrev pub log_text : PlannedCaches → ℕ → Format → List ℕ → List ℕ
log_text plan seed format text = arrival_lines (arrivals plan seed (events format All text))

-- At a fault `log` has written the lines of the entries before it.
unfoldable pub log_task : PlannedCaches → ℕ → Format → ℕ → Task
log_task plan seed format limit =
    record {
      format = format;
      limit = limit;
      writes_early = true;
      whole =
          log_text plan seed format;
      partial = log_lines plan seed;
    }
