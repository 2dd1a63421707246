-- As many slots are filled.
use Rattle.std.proofs.Common.{◌≡◌, ◌<◌, true, length, sym, subst}
use Rattle.block_index.specs.SlotLists.{has_slot}
use Rattle.cache_core.specs.internal.cache.SlotOrder.{OrderValue, order_of}
use Rattle.cache_core.proofs.cache.indexed.SlotOrderDeeds.{brought_kept}
use Rattle.cache_core.proofs.cache.indexed.slot_order.SlotOrder.renew.Goals as goal

pub invariant_of-self : goal.invariant_of-self
invariant_of-self c =
    let i = c.self.inside in
    rw c.bring.ensures (brought_kept i.ways i.filled.items i.lists c.args.set i.policy
    c.self.invariant
    (subst (λ (v : OrderValue). c.args.set < length v.sets) (sym c.self.view_is)
    c.requires.set) c.in-Lru.is
    c.args.slot
    (subst (λ (v : OrderValue). has_slot c.args.slot (order_of v.sets c.args.set) ≡ true)
    (sym c.self.view_is) c.requires.slot))
