-- The front of an empty list is 0.
use Rattle.std.proofs.Common.{◌∙◌, arith}
use Rattle.full_profile.proofs.marked_lists.ListsInSlots.{known, front_within, front_read}
use Rattle.full_profile.proofs.marked_lists.ListsInSlots.{first_block}
use Rattle.full_profile.proofs.marked_lists.slotted.SlottedListsListStore.front.Goals as goal

pub index-requires : goal.index-requires
index-requires c = omega (
  arith,
  front_within (known c.self.invariant c.self.view_is c.requires),
  c.self.inside.fronts.ok.0,
)

pub returns : goal.returns
returns c =
    let h = known c.self.invariant c.self.view_is c.requires in
    front_read h c.index.ensures ∙ first_block h
