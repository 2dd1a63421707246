use Rattle.std.proofs.Common.{◌≡◌, ◌<◌, ◌∙◌, length, get_or, set, ap, arith, true}
use Rattle.std.proofs.lemmas.List.{get_or_read}
use Rattle.block_index.specs.SlotLists.{SlotListsValue, has_slot, list_at, without_slot}
use Rattle.block_index.specs.SlotLists.{linked_lists}
use Rattle.block_index.specs.SlotLists.{AreLinked}
use Rattle.block_index.proofs.LinkLemmas.{linked_again, removed, read_off, p_small, q_small}
use Rattle.block_index.proofs.slot_lists.SlotLists.remove.Goals as goal
use Rattle.block_index.proofs.slot_lists.SlotLists.remove.Goals.{After-index-after}

module _ (c : After-index-after) where
  abbrev view : SlotListsValue
  view = linked_lists c.self.inside.after.items c.self.inside.slots

  list_in : c.args.list < length view.lists
  list_in = omega (arith, c.requires.list, ap (λ w. length w.lists) c.self.view_is)

  listed : has_slot c.args.slot (list_at view c.args.list) ≡ true
  listed =
      ap (λ w. has_slot c.args.slot (list_at w c.args.list)) c.self.view_is ∙ c.requires.listed

  slot_in : c.args.slot < c.self.inside.slots
  slot_in = c.self.invariant.apart.below c.args.list c.args.slot listed

  before_is : c.index-before.result.now ≡ get_or c.self.inside.before.items c.args.slot 0
  before_is =
      get_or_read c.self.inside.before.items c.args.slot c.index-before.result.now
      (omega (arith, c.self.invariant.before_long, slot_in)) c.index-before.ensures 0

  after_is : c.index-after.result.now ≡ get_or c.self.inside.after.items c.args.slot 0
  after_is =
      get_or_read c.self.inside.after.items c.args.slot c.index-after.result.now
      (omega (arith, c.self.invariant.after_long, slot_in)) c.index-after.ensures 0

  linked : AreLinked
      (set c.self.inside.before.items c.index-after.result.now c.index-before.result.now)
      (set c.self.inside.after.items c.index-before.result.now c.index-after.result.now)
      (without_slot view c.args.list c.args.slot)
  linked =
      removed c.self.invariant c.args.list c.args.slot c.index-before.result.now
      c.index-after.result.now list_in listed before_is after_is

pub index_mut-requires : goal.index_mut-requires
index_mut-requires c =
    let at = (goal.at.index_mut-requires c).After-index-after in
    omega (
      arith,
      before_is at,
      c.self.invariant.after_long,
      p_small c.self.invariant c.args.list c.args.slot (list_in at) (listed at),
      c.self.inside.after.ok.0,
    )

pub index_mut-requires-2 : goal.index_mut-requires-2
index_mut-requires-2 c =
    let at = (goal.at.index_mut-requires-2 c).After-index-after in
    omega (
      arith,
      after_is at,
      c.self.invariant.before_long,
      q_small c.self.invariant c.args.list c.args.slot (list_in at) (listed at),
      c.self.inside.before.ok.0,
    )

pub invariant_of-self : goal.invariant_of-self
invariant_of-self c = linked_again (linked (goal.at.invariant_of-self c).After-index-after)

pub returns : goal.returns
returns c =
    read_off (linked (goal.at.returns c).After-index-after)
    ∙ ap (λ w. without_slot w c.args.list c.args.slot) c.self.view_is
