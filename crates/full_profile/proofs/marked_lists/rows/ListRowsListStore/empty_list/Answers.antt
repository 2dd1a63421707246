-- The row is a whole list.
use Rattle.std.proofs.Common.{◌∙◌, ap, arith}
use Rattle.full_profile.specs.internal.Marked.{cleans_in}
use Rattle.full_profile.specs.internal.Copies.{with_copies_of, up_to_of}
use Rattle.full_profile.proofs.marked_lists.ListsInRows.{known, depth_is}
use Rattle.full_profile.proofs.marked_lists.rows.ListRowsListStore.empty_list.Goals as goal

pub empty_row-requires-clause-deep : goal.empty_row-requires-clause-deep
empty_row-requires-clause-deep c =
    omega (arith, depth_is (known c.self.invariant c.self.view_is c.requires.set))

pub empty_row-requires-clause-above_within : goal.empty_row-requires-clause-above_within
empty_row-requires-clause-above_within c =
    let h = known c.self.invariant c.self.view_is c.requires.set in
    omega (arith, depth_is h, c.requires.above_within)

pub empty_row-requires-clause-within : goal.empty_row-requires-clause-within
empty_row-requires-clause-within c =
    let h = known c.self.invariant c.self.view_is c.requires.set in
    omega (arith, depth_is h, c.requires.within)

pub returns-clause-copies : goal.returns-clause-copies
returns-clause-copies c =
    let h = known c.self.invariant c.self.view_is c.requires.set in
    c.empty_row.ensures.copies
    ∙ ap (λ d. with_copies_of (up_to_of c.args.emptying d) 0
    (cleans_in c.args.self.now c.args.set) c.args.copies.now) (depth_is h)
