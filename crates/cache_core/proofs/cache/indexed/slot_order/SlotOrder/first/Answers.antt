-- The first way of a set is its first slot.
use Rattle.std.proofs.Common.{◌<◌, length, sym, ◌∙◌, subst}
use Rattle.cache_core.specs.internal.cache.SlotOrder.{OrderValue}
use Rattle.cache_core.proofs.cache.indexed.SlotOrderDeeds.{way_first}
use Rattle.cache_core.proofs.cache.indexed.slot_order.SlotOrder.first.Goals as goal

pub returns-in-Random : goal.returns-in-Random
returns-in-Random c =
    let i = c.self.inside in
    rw (← c.self.view_is) (c.then_some.ensures
    ∙ way_first i.ways i.filled.items i.lists c.args.set i.policy c.self.invariant
    (subst (λ (v : OrderValue). c.args.set < length v.sets) (sym c.self.view_is)
    c.requires) c.in-Random.is
    c.index.result.now c.index.ensures)
