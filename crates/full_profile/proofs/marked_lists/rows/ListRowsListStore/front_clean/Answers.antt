-- The clean depth of the front is the first of its row.
use Rattle.std.proofs.Common.{arith}
use Rattle.full_profile.proofs.marked_lists.ListsInRows.{known, cleans_end, clean_read}
use Rattle.full_profile.proofs.marked_lists.rows.ListRowsListStore.front_clean.Goals as goal

pub overflow_mul-set : goal.overflow_mul-set
overflow_mul-set c =
    let h = known c.self.invariant c.self.view_is c.requires.within in
    omega (arith, cleans_end h, h.sound.small, h.sound.cleans_len)

pub index-requires : goal.index-requires
index-requires c =
    let h = known c.self.invariant c.self.view_is c.requires.within in
    omega (arith, cleans_end h, h.sound.some, c.self.inside.cleans.ok.0)

pub returns : goal.returns
returns c = clean_read (known c.self.invariant c.self.view_is c.requires.within) c.requires.some
    c.index.ensures
