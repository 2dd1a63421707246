-- A list has as many blocks as its length says.
use Rattle.std.proofs.Common.{◌∙◌, arith, sym}
use Rattle.full_profile.proofs.marked_lists.SparseRowLemmas.{known, within, len_read, blocks_size}
use Rattle.full_profile.proofs.marked_lists.sparse.SparseRowsListStore.held.Goals as goal

pub index-requires : goal.index-requires
index-requires c = omega (
  arith,
  within (known c.self.invariant c.self.view_is c.requires),
  c.self.inside.lens.ok.0,
)

pub returns : goal.returns
returns c =
    let h = known c.self.invariant c.self.view_is c.requires in
    len_read h c.index.ensures ∙ sym (blocks_size h)
