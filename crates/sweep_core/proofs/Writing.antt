-- The rows of a sweep, written some after others.
use Rattle.std.proofs.Common.{◌≡◌, ℕ, List, [], ◌∷◌, ◌++◌, refl, sym, ap, ◌∙◌, append-nil}
use Rattle.std.proofs.Common.{append_assoc, subst}
use Rattle.std.proofs.lemmas.List.Concat.{flat_map-append}
use Rattle.trace_core.specs.declared.events.Event.{Event}
use Rattle.trace_core.specs.Device.{SinkView, Wrote, WrotePart}
use Rattle.trace_core.proofs.Written.{Wrote-none, Wrote-more, WrotePart-after, WrotePart-more}
use Rattle.cache_core.specs.declared.outcome.Counts.{Counts}
use Rattle.sweep_core.specs.declared.space.Config.{Config}
use Rattle.sweep_core.specs.SweepText.{rows_text, csv_rows, row_of, row_counts}
use Rattle.sweep_core.specs.Rows.{counted_rows}

-- the text of rows with their counts is that of the configurations over a trace
pub csv-counted : (es : List Event) (cs : List Config) →
    csv_rows (counted_rows es cs) ≡ rows_text es cs
unfolding csv_rows rows_text
csv-counted es [] = refl
csv-counted es (c ∷ cs) = ap (λ l. row_of c (row_counts es c) ++ l) (csv-counted es cs)

-- the text of some rows, and then of more
pub csv-append : (rows more : List (Config × Counts)) → csv_rows (rows ++ more) ≡ csv_rows rows ++
    csv_rows more
unfolding csv_rows
csv-append rows more = flat_map-append (λ x. row_of x.0 x.1) rows more

-- the text of one row, and of none
pub csv-one : (row : Config × Counts) → csv_rows (row ∷ []) ≡ row_of row.0 row.1
unfolding csv_rows
csv-one row = append-nil (row_of row.0 row.1)

pub csv-none : csv_rows [] ≡ []
unfolding csv_rows
csv-none = refl

-- Of some rows of any kind those before some that are left were written.
pub record WroteBefore {R : Type 0} (text : List R → List ℕ) (rows : List R) (old new : SinkView)
    (left : List R) : Type 0 where
  pub front : List R
  pub whole : rows ≡ front ++ left
  pub wrote : Wrote old new (text front)

pub rows-begin : {R : Type 0} {text : List R → List ℕ} → text [] ≡ [] → (rows : List R) →
    (v : SinkView) → WroteBefore text rows v v rows
rows-begin none rows v =
    record { front = []; whole = refl; wrote = subst (Wrote v v) (sym none) (Wrote-none v) }

module _ {R : Type 0} {text : List R → List ℕ}
    (append : (rows more : List R) → text (rows ++ more) ≡ text rows ++ text more)
    {rows left : List R} (some rest : List R) {a b d : SinkView}
    (w : WroteBefore text rows a b left) (is : left ≡ some ++ rest) where
  -- some more were written
  pub rows-more : Wrote b d (text some) → WroteBefore text rows a d rest
  rows-more more = record {
    front = w.front ++ some;
    whole = w.whole ∙ ap (λ l. w.front ++ l) is ∙ sym (append_assoc w.front some rest);
    wrote = subst (Wrote a d) (sym (append w.front some)) (Wrote-more w.wrote more);
  }

  -- the sink failed while it took them
  pub rows-failed : WrotePart b d (text some) → WrotePart a d (text rows)
  rows-failed part =
      subst (WrotePart a d) (sym (ap text (w.whole ∙ ap (λ l. w.front ++ l) is) ∙
      append w.front (some ++ rest) ∙ ap (λ l. text w.front ++ l) (append some rest) ∙
      sym (append_assoc (text w.front) (text some) (text rest))))
      (WrotePart-more (text rest) (WrotePart-after w.wrote part))
