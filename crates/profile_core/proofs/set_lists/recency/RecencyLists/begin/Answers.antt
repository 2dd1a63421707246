-- The first block of a set's list.
use Rattle.std.proofs.Common.{arith}
use Rattle.profile_core.proofs.set_lists.ListLemmas.{known, depth_is, within, among_fronts}
use Rattle.profile_core.proofs.set_lists.Writing.{first_brought}
use Rattle.profile_core.proofs.set_lists.recency.RecencyLists.begin.Goals as goal

pub index_mut-requires : goal.index_mut-requires
index_mut-requires g c = omega (
  arith,
  among_fronts (known c.self.invariant c.self.view_is c.requires.within),
  c.self.inside.fronts.ok.0,
)

pub index_mut-requires-2 : goal.index_mut-requires-2
index_mut-requires-2 g c = omega (
  arith,
  within (known c.self.invariant c.self.view_is c.requires.within),
  c.self.inside.lens.ok.0,
)

pub add_grown-requires : goal.add_grown-requires
add_grown-requires g c = omega (
  arith,
  within (known c.self.invariant c.self.view_is c.requires.within),
  c.self.invariant.small,
)

pub invariant_of-self : goal.invariant_of-self
invariant_of-self g c =
    let l = known c.self.invariant c.self.view_is c.requires.within in
    (first_brought l c.args.block c.requires.empty c.add_grown.ensures).listed

pub returns : goal.returns
returns g c =
    let l = known c.self.invariant c.self.view_is c.requires.within in
    let b = first_brought l c.args.block c.requires.empty c.add_grown.ensures in
    cc (depth_is c.self.view_is, b.lists_are)
