-- One slot more of a set is filled.
use Rattle.std.proofs.Common.{◌≡◌, ◌+◌, ◌*◌, ◌<◌, length, sym, ◌∙◌, ap, subst, arith}
use Rattle.cache_core.specs.internal.cache.SlotOrder.{OrderValue, order_of}
use Rattle.cache_core.proofs.cache.indexed.SlotOrderDeeds.{grown_kept, way_kept, way_next}
use Rattle.cache_core.proofs.cache.indexed.SlotOrderDeeds.{count_here}
use Rattle.cache_core.proofs.cache.indexed.slot_order.SlotOrder.fill_next.Goals as goal

pub invariant_of-self : goal.invariant_of-self
invariant_of-self c =
    let i = c.self.inside in
    rw c.push_front.ensures
    (grown_kept i.ways i.filled.items i.lists c.args.set i.policy c.self.invariant
    (subst (λ (v : OrderValue). c.args.set < length v.sets) (sym c.self.view_is)
    c.requires.set) c.in-Lru.is
    (c.args.set * i.ways + c.index.result.now) c.index_mut.result.now c.index_mut.ensures.value
    (subst (λ (v : OrderValue). length (order_of v.sets c.args.set) < v.ways) (sym c.self.view_is)
    c.requires.room))

pub invariant_of-self-in-Random : goal.invariant_of-self-in-Random
invariant_of-self-in-Random c =
    let i = c.self.inside in
    let within = (subst (λ (v : OrderValue). c.args.set < length v.sets) (sym c.self.view_is)
    c.requires.set) in
    way_kept i.ways i.filled.items i.lists c.args.set i.policy c.self.invariant
    within c.in-Random.is c.index_mut.result.now c.index_mut.ensures.value
    (c.index_mut.result.now + 1)
    (omega (
      arith,
      count_here i.ways i.filled.items i.lists c.args.set i.policy c.self.invariant
          within c.index_mut.result.now c.index_mut.ensures.value,
      subst (λ (v : OrderValue). length (order_of v.sets c.args.set) < v.ways) (sym c.self.view_is)
          c.requires.room,
    ))

pub returns-in-Random-clause-order : goal.returns-in-Random-clause-order
returns-in-Random-clause-order c =
    let i = c.self.inside in
    let within = (subst (λ (v : OrderValue). c.args.set < length v.sets) (sym c.self.view_is)
    c.requires.set) in
    let same : c.index_mut.result.now ≡ c.index.result.now =
    sym (count_here i.ways i.filled.items i.lists c.args.set i.policy c.self.invariant within
    c.index_mut.result.now c.index_mut.ensures.value) ∙ count_here i.ways i.filled.items i.lists
    c.args.set i.policy c.self.invariant
    within c.index.result.now c.index.ensures in
    rw (← c.self.view_is, same)
    (ap (λ sets. record { policy = i.policy; ways = i.ways; sets = sets })
    (way_next i.ways i.filled.items i.lists c.args.set i.policy c.self.invariant within
    c.in-Random.is c.index.result.now c.index.ensures))
