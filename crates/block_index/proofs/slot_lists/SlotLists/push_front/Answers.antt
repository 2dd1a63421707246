use Rattle.std.proofs.Common.{◌≡◌, ◌+◌, ◌<◌, ◌∙◌, ℕ, length, get_or, set, ap, arith}
use Rattle.std.proofs.lemmas.List.{get_or_read}
use Rattle.block_index.specs.SlotLists.{SlotListsValue, is_listed, list_at, with_first}
use Rattle.block_index.specs.SlotLists.{linked_lists}
use Rattle.block_index.specs.SlotLists.{AreLinked}
use Rattle.block_index.proofs.ListLemmas.{has-head}
use Rattle.block_index.proofs.LinkLemmas.{after_small, linked_again, pushed, read_off}
use Rattle.block_index.proofs.slot_lists.SlotLists.push_front.Goals as goal
use Rattle.block_index.proofs.slot_lists.SlotLists.push_front.Goals.{After-index-first}

module _ (c : After-index-first) where
  abbrev view : SlotListsValue
  view = linked_lists c.self.inside.after.items c.self.inside.slots

  abbrev head : ℕ
  head = c.self.inside.slots + c.args.list

  list_in : c.args.list < length view.lists
  list_in = omega (arith, c.requires.list, ap (λ w. length w.lists) c.self.view_is)

  read : c.index-first.result.now ≡ get_or c.self.inside.after.items head 0
  read =
      get_or_read c.self.inside.after.items head c.index-first.result.now
      (omega (arith, c.self.invariant.after_long, list_in)) c.index-first.ensures 0

  linked : AreLinked
      (set (set c.self.inside.before.items c.args.slot head) c.index-first.result.now c.args.slot)
      (set (set c.self.inside.after.items c.args.slot c.index-first.result.now) head c.args.slot)
      (with_first view c.args.list c.args.slot)
  linked =
      pushed c.self.invariant c.args.list c.args.slot c.index-first.result.now list_in
      (omega (arith, c.requires.slot, ap (λ w. w.slots) c.self.view_is))
      (ap (λ w. is_listed w.lists c.args.slot) c.self.view_is ∙ c.requires.free) read

pub index_mut-requires-3 : goal.index_mut-requires-3
index_mut-requires-3 c =
    let at = (goal.at.index_mut-requires-3 c).After-index-first in
    omega (
      arith,
      read at,
      c.self.invariant.before_long,
      after_small c.self.invariant c.args.list (head at) (list_in at)
          (has-head (head at) (list_at (view at) c.args.list)),
      c.self.inside.before.ok.0,
    )

pub invariant_of-self : goal.invariant_of-self
invariant_of-self c = linked_again (linked (goal.at.invariant_of-self c).After-index-first)

pub returns : goal.returns
returns c =
    read_off (linked (goal.at.returns c).After-index-first)
    ∙ ap (λ w. with_first w c.args.list c.args.slot) c.self.view_is
