-- All lists are empty, since all lengths are 0, and no set has a row of its own.
use Rattle.std.proofs.Common.{◌∙◌, ℕ, List, [], ap}
use Rattle.std.specs.Prelude.{replicate}
use Rattle.profile_core.specs.internal.rests.SparseRests.{sparse_rest}
use Rattle.full_profile.specs.internal.SparseRows.{all_sparse}
use Rattle.full_profile.proofs.marked_lists.RowLists.{none_listed}
use Rattle.full_profile.proofs.marked_lists.sparse.SparseRows.new.Goals as goal

pub returns : goal.returns
returns c =
    let none = c.in_ok-vec-2.ensures.items_if_clones_equal (λ y e. e) in
    ap (λ ls. record {
      depth = c.args.depth;
      blocks = ls;
      cleans = all_sparse c.args.depth c.in_ok-vec.field-0.items c.resize-2.new.self.items
          c.in_ok-vec-2.field-0.items;
    }) (none_listed c.args.sets (sparse_rest c.args.depth c.in_ok-vec.field-0.items
    c.resize.new.self.items) none)
    ∙ ap (λ ls. record {
      depth = c.args.depth;
      blocks = replicate {A = List ℕ} c.args.sets [];
      cleans = ls;
    }) (none_listed c.args.sets (sparse_rest c.args.depth c.in_ok-vec.field-0.items
    c.resize-2.new.self.items) none)
