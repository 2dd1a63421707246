-- All lists are empty, since all lengths are 0.
use Rattle.std.proofs.Common.{◌∙◌, ap, List, [], ℕ}
use Rattle.std.specs.Prelude.{replicate}
use Rattle.profile_core.specs.internal.rows.PlainRows.{plain_row}
use Rattle.full_profile.specs.internal.Rows.{all_listed}
use Rattle.full_profile.proofs.marked_lists.RowLists.{none_listed}
use Rattle.full_profile.proofs.marked_lists.rows.ListRows.new.Goals as goal

pub returns : goal.returns
returns c =
    let none = c.in_ok-vec-3.ensures.items_if_clones_equal (λ y e. e) in
    ap (λ ls. record {
      depth = c.args.depth;
      blocks = ls;
      cleans = all_listed c.args.depth c.in_ok-vec-2.field-0.items c.in_ok-vec-3.field-0.items;
    }) (none_listed c.args.sets (plain_row c.args.depth c.in_ok-vec.field-0.items) none)
    ∙ ap (λ ls. record {
      depth = c.args.depth;
      blocks = replicate {A = List ℕ} c.args.sets [];
      cleans = ls;
    }) (none_listed c.args.sets (plain_row c.args.depth c.in_ok-vec-2.field-0.items) none)
