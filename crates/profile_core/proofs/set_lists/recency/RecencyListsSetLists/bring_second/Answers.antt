-- The first two blocks of a set's list, exchanged.
use Rattle.std.proofs.Common.{get_or, refl, arith}
use Rattle.profile_core.proofs.set_lists.ListLemmas.{known, depth_is, among_fronts, among_rows}
use Rattle.profile_core.proofs.set_lists.ListLemmas.{front_read}
use Rattle.profile_core.proofs.set_lists.Writing.{IsReadList, some_behind, second_brought}
use Rattle.profile_core.proofs.set_lists.recency.RecencyListsSetLists.bring_second.Goals as goal
use
    Rattle.profile_core.proofs.set_lists.recency.RecencyListsSetLists.bring_second.Goals.{After-index_mut-front}
use Rattle.profile_core.proofs.set_lists.recency.RecencyListsSetLists.bring_second.Given.{Over}

touched : (g : Over) (c : After-index_mut-front g) → IsReadList c.args.set
    (get_or c.self.inside.lens.items c.args.set 0) c.index_mut-front.result.now
    c.self.inside.fronts.items (g.R.RowStore.view c.self.inside.rows) c.self.inside.lens.items
    c.self.inside.touched c.args.self.now.lists
touched g c =
    let l = known c.self.invariant c.self.view_is c.requires.within in
    record {
      known = l;
      held_is = refl;
      front_is = front_read l c.index_mut-front.ensures.value;
    }

pub index_mut-front-requires : goal.index_mut-front-requires
index_mut-front-requires g c = omega (
  arith,
  among_fronts (known c.self.invariant c.self.view_is c.requires.within),
  c.self.inside.fronts.ok.0,
)

pub put_first-requires-clause-within : goal.put_first-requires-clause-within
put_first-requires-clause-within g c =
    among_rows (known c.self.invariant c.self.view_is c.requires.within)

pub put_first-requires-clause-some : goal.put_first-requires-clause-some
put_first-requires-clause-some g c =
    let t = touched g (goal.at.put_first-requires-clause-some g c).After-index_mut-front in
    some_behind t c.args.block c.requires.second

pub invariant_of-self : goal.invariant_of-self
invariant_of-self g c =
    let t = touched g (goal.at.invariant_of-self g c).After-index_mut-front in
    (second_brought t refl c.put_first.ensures c.requires.behind c.requires.second).listed

pub returns : goal.returns
returns g c =
    let t = touched g (goal.at.returns g c).After-index_mut-front in
    let b = second_brought t refl c.put_first.ensures c.requires.behind c.requires.second in
    cc (depth_is c.self.view_is, b.stride_is, b.lists_are)
