-- The front of a set's list, as it stands in the array.
use Rattle.std.proofs.Common.{◌∙◌, get_or, sym, ap, arith}
use Rattle.profile_core.proofs.rows.Bringing.{first_of_row}
use Rattle.profile_core.proofs.set_lists.ListLemmas.{known, among_fronts, list_is, front_read}
use Rattle.profile_core.proofs.set_lists.recency.RecencyListsSetLists.front.Goals as goal

pub index-requires : goal.index-requires
index-requires g c = omega (
  arith,
  among_fronts (known c.self.invariant c.self.view_is c.requires),
  c.self.inside.fronts.ok.0,
)

pub returns : goal.returns
returns g c =
    let l = known c.self.invariant c.self.view_is c.requires in
    front_read l c.index.ensures
    ∙ first_of_row (get_or c.self.inside.lens.items c.args.set 0)
    (get_or c.self.inside.fronts.items c.args.set 0) _ (c.self.invariant.blank c.args.set)
    ∙ ap (λ xs. get_or xs 0 0) (sym (list_is l))
