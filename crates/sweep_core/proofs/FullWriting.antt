-- The text of the rows of a full sweep.
use Rattle.std.proofs.Common.{◌≡◌, List, [], ◌∷◌, ◌++◌, refl, ap, append-nil}
use Rattle.std.proofs.lemmas.List.Concat.{flat_map-append}
use Rattle.trace_core.specs.declared.events.Event.{Event}
use Rattle.full_profile.specs.declared.counts.FullCounts.{FullCounts}
use Rattle.sweep_core.specs.declared.space.Config.{Config}
use Rattle.sweep_core.specs.FullText.{full_rows_text, full_csv_rows, full_row_of, full_row_counts}
use Rattle.sweep_core.specs.FullRows.{full_counted_rows}

-- the text of rows with their counts is that of the configurations over a trace
pub csv-counted : (es : List Event) (cs : List Config) →
    full_csv_rows (full_counted_rows es cs) ≡ full_rows_text es cs
unfolding full_csv_rows full_rows_text
csv-counted es [] = refl
csv-counted es (c ∷ cs) =
    ap (λ l. full_row_of c (full_row_counts es c) ++ l) (csv-counted es cs)

-- the text of some rows, and then of more
pub csv-append : (rows more : List (Config × FullCounts)) →
    full_csv_rows (rows ++ more) ≡ full_csv_rows rows ++ full_csv_rows more
unfolding full_csv_rows
csv-append rows more = flat_map-append (λ x. full_row_of x.0 x.1) rows more

-- the text of one row, and of none
pub csv-one : (row : Config × FullCounts) → full_csv_rows (row ∷ []) ≡ full_row_of row.0 row.1
unfolding full_csv_rows
csv-one row = append-nil (full_row_of row.0 row.1)

pub csv-none : full_csv_rows [] ≡ []
unfolding full_csv_rows
csv-none = refl
