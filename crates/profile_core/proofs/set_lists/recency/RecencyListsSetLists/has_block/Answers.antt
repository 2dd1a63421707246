-- A list has a block if its length is not 0.
use Rattle.std.proofs.Common.{arith}
use Rattle.profile_core.proofs.set_lists.ListLemmas.{known, within, list_size, len_read}
use Rattle.profile_core.proofs.set_lists.recency.RecencyListsSetLists.has_block.Goals as goal

pub index-requires : goal.index-requires
index-requires g c = omega (
  arith,
  within (known c.self.invariant c.self.view_is c.requires),
  c.self.inside.lens.ok.0,
)

pub returns : goal.returns
returns g c =
    let l = known c.self.invariant c.self.view_is c.requires in
    grind (arith, list_size l, len_read l c.index.ensures)
