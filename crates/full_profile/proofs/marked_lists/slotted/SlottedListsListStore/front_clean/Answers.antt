-- The clean depth of the front is kept apart.
use Rattle.std.proofs.Common.{◌∙◌, arith}
use Rattle.full_profile.proofs.marked_lists.ListsInSlots.{known, clean_within, clean_read}
use Rattle.full_profile.proofs.marked_lists.ListsInSlots.{first_clean}
use Rattle.full_profile.proofs.marked_lists.slotted.SlottedListsListStore.front_clean.Goals as goal

pub index-requires : goal.index-requires
index-requires c = omega (
  arith,
  clean_within (known c.self.invariant c.self.view_is c.requires.within),
  c.self.inside.front_cleans.ok.0,
)

pub returns : goal.returns
returns c =
    let h = known c.self.invariant c.self.view_is c.requires.within in
    clean_read h c.index.ensures ∙ first_clean h c.requires.some
