-- The clean depth of the front is the first of its row.
use Rattle.std.proofs.Common.{arith}
use Rattle.full_profile.proofs.marked_lists.ListsInRows.{known, cleans_end, front_written}
use Rattle.full_profile.proofs.marked_lists.rows.ListRows.mark_front.Goals as goal

pub overflow_mul-set : goal.overflow_mul-set
overflow_mul-set c =
    let h = known c.self.invariant c.self.view_is c.requires.within in
    omega (arith, cleans_end h, h.sound.small, h.sound.cleans_len)

pub index_mut-requires : goal.index_mut-requires
index_mut-requires c =
    let h = known c.self.invariant c.self.view_is c.requires.within in
    omega (arith, cleans_end h, h.sound.some, c.self.inside.cleans.ok.0)

pub returns : goal.returns
returns c = front_written (known c.self.invariant c.self.view_is c.requires.within) c.args.clean
    c.requires.some
