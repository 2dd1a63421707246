-- Lists of no block.
use Rattle.std.proofs.Common.{◌≡◌, ◌∙◌, ap, length, arith}
use Rattle.profile_core.specs.internal.set_lists.Lists.{lists_in}
use Rattle.profile_core.proofs.set_lists.ListLemmas.{lists_in-none}
use Rattle.profile_core.proofs.set_lists.recency.RecencyLists.new.Goals as goal

pub returns : goal.returns
returns g c =
    let fronts = c.in_ok-vec.field-0.items in
    let rows = g.R.RowStore.view c.args.rows in
    let count : length fronts ≡ c.args.sets =
    omega (arith, c.in_ok-vec.ensures.len, c.in_ok-vec.field-0.ok.0) in
    let none = ap (lists_in fronts rows.rows) (c.in_ok-vec-2.ensures.items_if_clones_equal
    (λ y e. e)) ∙ lists_in-none c.args.sets fronts rows.rows count c.requires.enough in
    cc none
