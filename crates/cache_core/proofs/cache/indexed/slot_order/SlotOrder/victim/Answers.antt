-- The number names a way.
use Rattle.std.proofs.Common.{◌<◌, length, sym, subst, arith}
use Rattle.cache_core.specs.internal.cache.SlotOrder.{OrderValue, order_of}
use Rattle.std.proofs.Math.Nat.{mod-lt}
use Rattle.cache_core.proofs.cache.indexed.SlotOrderDeeds.{way_drawn, count_here}
use Rattle.cache_core.proofs.cache.indexed.slot_order.SlotOrder.victim.Goals as goal

pub returns-in-Random : goal.returns-in-Random
returns-in-Random c =
    let i = c.self.inside in
    let within = (subst (λ (v : OrderValue). c.args.set < length v.sets) (sym c.self.view_is)
    c.requires.set) in
    let some : 0 < c.index.result.now = omega (
      arith,
      count_here i.ways i.filled.items i.lists c.args.set i.policy c.self.invariant
          within c.index.result.now c.index.ensures,
      subst (λ (v : OrderValue). 0 < length (order_of v.sets c.args.set)) (sym c.self.view_is)
          c.requires.some,
    ) in
    rw (← c.self.view_is) (way_drawn i.ways i.filled.items i.lists c.args.set i.policy
    c.self.invariant
    within c.in-Random.is c.index.result.now c.index.ensures c.args.number
    (mod-lt c.args.number some))
