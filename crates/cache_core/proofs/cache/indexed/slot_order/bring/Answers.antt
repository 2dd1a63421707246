-- A slot leaves its list, is in none, and comes to the front.
use Rattle.cache_core.proofs.cache.indexed.SlotOrderDeeds.{taken_out, brought}
use Rattle.cache_core.proofs.cache.indexed.slot_order.bring.Goals as goal

pub push_front-requires-clause-slot : goal.push_front-requires-clause-slot
push_front-requires-clause-slot c =
    rw c.remove.ensures (c.are_apart.ensures.below c.args.set c.args.slot c.requires.slot)

pub push_front-requires-clause-free : goal.push_front-requires-clause-free
push_front-requires-clause-free c = rw c.remove.ensures
    (taken_out c.args.lists.now c.args.set c.args.slot c.are_apart.ensures c.requires.set
    c.requires.slot)

pub returns : goal.returns
returns c = rw (c.push_front.ensures, c.remove.ensures)
    (brought c.args.lists.now c.args.set c.args.slot c.requires.set)
