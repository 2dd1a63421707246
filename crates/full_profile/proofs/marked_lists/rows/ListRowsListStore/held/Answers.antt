-- A list has as many blocks as its length says.
use Rattle.std.proofs.Common.{arith}
use Rattle.full_profile.proofs.marked_lists.ListsInRows.{known, within, len_read}
use Rattle.full_profile.proofs.marked_lists.rows.ListRowsListStore.held.Goals as goal

pub index-requires : goal.index-requires
index-requires c = omega (
  arith,
  within (known c.self.invariant c.self.view_is c.requires),
  c.self.inside.lens.ok.0,
)

pub returns : goal.returns
returns c = len_read (known c.self.invariant c.self.view_is c.requires) c.index.ensures
