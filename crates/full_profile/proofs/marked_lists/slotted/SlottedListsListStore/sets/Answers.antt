-- There are as many sets as lists.
use Rattle.std.proofs.Common.{arith}
use Rattle.full_profile.proofs.marked_lists.ListsInSlots.{set_count}
use Rattle.full_profile.proofs.marked_lists.slotted.SlottedListsListStore.sets.Goals as goal

pub returns : goal.returns
returns c =
    let s = c.self.inside in
    record {
      value = omega (
        arith,
        c.len.ensures,
        s.lists.ok.0,
        set_count s.depth s.fronts.items s.front_cleans.items s.lists.items c.self.view_is,
      );
    }
