use Rattle.std.proofs.Common.{◌≡◌, ◌+◌, ◌-◌, ◌<◌, ◌∙◌, length, get_or, ap, arith}
use Rattle.std.specs.Prelude.{slice_get}
use Rattle.std.proofs.lemmas.List.{get_or_read}
use Rattle.block_index.specs.SlotLists.{SlotListsValue, list_at}
use Rattle.block_index.specs.SlotLists.{linked_lists, slot_at_node}
use Rattle.block_index.proofs.LinkLemmas.{list_last}
use Rattle.block_index.proofs.slot_lists.SlotLists.last.Goals as goal

pub returns : goal.returns
returns c =
    let s = c.self.inside in
    let v : SlotListsValue = linked_lists s.after.items s.slots in
    let i = c.self.invariant in
    let kl : c.args.list < length v.lists =
    omega (arith, c.requires, ap (λ w. length w.lists) c.self.view_is) in
    let read : c.index.result.now ≡ get_or s.before.items (s.slots + c.args.list) 0 =
    get_or_read s.before.items (s.slots + c.args.list) c.index.result.now
    (omega (arith, i.before_long, kl)) c.index.ensures 0 in
    c.slot_at.ensures ∙ ap (slot_at_node s.slots) read ∙ list_last i c.args.list kl
    ∙ ap (λ w. slice_get (list_at w c.args.list) (length (list_at w c.args.list) - 1))
    c.self.view_is
