-- The front of a set's list is the first number of its row.
use Rattle.std.proofs.Common.{arith}
use Rattle.full_profile.proofs.marked_lists.ListsInRows.{known, blocks_end, front_read}
use Rattle.full_profile.proofs.marked_lists.rows.ListRowsListStore.front.Goals as goal

pub overflow_mul-set : goal.overflow_mul-set
overflow_mul-set c =
    let h = known c.self.invariant c.self.view_is c.requires in
    omega (arith, blocks_end h, h.sound.small, h.sound.blocks_len)

pub index-requires : goal.index-requires
index-requires c =
    let h = known c.self.invariant c.self.view_is c.requires in
    omega (arith, blocks_end h, h.sound.some, c.self.inside.blocks.ok.0)

pub returns : goal.returns
returns c = front_read (known c.self.invariant c.self.view_is c.requires) c.index.ensures
