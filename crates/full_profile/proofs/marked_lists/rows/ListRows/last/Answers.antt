-- The last block of a full list is the last number of its row.
use Rattle.std.proofs.Common.{arith}
use Rattle.full_profile.proofs.marked_lists.ListsInRows.{known, blocks_end, last_read}
use Rattle.full_profile.proofs.marked_lists.rows.ListRows.last.Goals as goal

pub overflow_mul-set : goal.overflow_mul-set
overflow_mul-set c =
    let h = known c.self.invariant c.self.view_is c.requires in
    omega (arith, blocks_end h, h.sound.small, h.sound.blocks_len)

pub overflow_add-set : goal.overflow_add-set
overflow_add-set c =
    let h = known c.self.invariant c.self.view_is c.requires in
    omega (arith, blocks_end h, h.sound.small, h.sound.blocks_len)

pub index-requires : goal.index-requires
index-requires c =
    let h = known c.self.invariant c.self.view_is c.requires in
    omega (arith, blocks_end h, h.sound.some, c.self.inside.blocks.ok.0)

pub returns : goal.returns
returns c = last_read (known c.self.invariant c.self.view_is c.requires) c.index.ensures
