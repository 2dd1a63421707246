-- The clean depth of the front is kept apart.
use Rattle.std.proofs.Common.{arith}
use Rattle.full_profile.proofs.marked_lists.ListsInSlots.{known, clean_within, clean_written}
use Rattle.full_profile.proofs.marked_lists.slotted.SlottedListsListStore.write_front.Goals as goal

pub index_mut-requires : goal.index_mut-requires
index_mut-requires c = omega (
  arith,
  clean_within (known c.self.invariant c.self.view_is c.requires.within),
  c.self.inside.front_cleans.ok.0,
)

pub returns : goal.returns
returns c = clean_written (known c.self.invariant c.self.view_is c.requires.within) 0
