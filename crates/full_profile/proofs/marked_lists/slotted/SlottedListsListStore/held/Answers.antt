-- A list has as many blocks as its length says.
use Rattle.std.proofs.Common.{◌∙◌, ap, sym, arith}
use Rattle.full_profile.specs.declared.marked_lists.slotted.ListSlots.{ListSlots}
use Rattle.full_profile.proofs.marked_lists.ListsInSlots.{known, within, list_read, blocks_size}
use Rattle.full_profile.proofs.marked_lists.slotted.SlottedListsListStore.held.Goals as goal

pub index-requires : goal.index-requires
index-requires c = omega (
  arith,
  within (known c.self.invariant c.self.view_is c.requires),
  c.self.inside.lists.ok.0,
)

pub returns : goal.returns
returns c =
    let h = known c.self.invariant c.self.view_is c.requires in
    ap (λ (l : ListSlots). l.len) (list_read h c.index.ensures)
    ∙ sym (blocks_size h)
