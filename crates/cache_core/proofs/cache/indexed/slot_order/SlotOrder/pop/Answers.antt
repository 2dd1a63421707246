-- The last slot of a set leaves.
use Rattle.std.proofs.Common.{◌≡◌, ◌-◌, ◌*◌, ◌<◌, length, sym, ◌∙◌, ap, subst, arith}
use Rattle.cache_core.specs.internal.cache.SlotOrder.{OrderValue, order_of}
use Rattle.std.specs.List.{range_with_len}
use Rattle.std.specs.Prelude.{remove}
use Rattle.block_index.specs.SlotLists.{index_of_slot}
use Rattle.cache_core.proofs.cache.indexed.SlotsApart.{slot_in}
use Rattle.cache_core.proofs.cache.indexed.SlotOrderDeeds.{in_some_list, popped_kept, popped_list}
use Rattle.cache_core.proofs.cache.indexed.SlotOrderDeeds.{popped_sets, way_kept, way_list}
use Rattle.cache_core.proofs.cache.indexed.SlotOrderDeeds.{way_popped, few_ways, count_here}
use Rattle.cache_core.proofs.cache.indexed.slot_order.SlotOrder.pop.Goals as goal
use Rattle.cache_core.proofs.cache.indexed.slot_order.SlotOrder.pop.Goals.{After-remove-arg-1}

inside : (c : After-remove-arg-1) → c.args.set < length c.self.inside.lists.lists
inside c =
    let i = c.self.inside in
    in_some_list i.ways i.filled.items i.lists c.args.set i.policy c.self.invariant
    (subst (λ (v : OrderValue). c.args.set < length v.sets) (sym c.self.view_is)
    c.requires) c.in-Lru.is

pub remove-requires : goal.remove-requires
remove-requires c =
    let i = c.self.inside in record {
      list = inside c;
      listed = slot_in (order_of i.lists.lists c.args.set)
          (length (order_of i.lists.lists c.args.set) - 1) c.unwrap-last.result
          (sym c.last.ensures ∙ c.unwrap-last.ensures);
    }

pub invariant_of-self : goal.invariant_of-self
invariant_of-self c =
    let i = c.self.inside in
    rw c.remove.ensures
    (popped_kept i.ways i.filled.items i.lists c.args.set i.policy c.self.invariant
    (subst (λ (v : OrderValue). c.args.set < length v.sets) (sym c.self.view_is)
    c.requires) c.in-Lru.is
    c.index_mut.result.now c.unwrap-last.result c.index_mut.ensures.value
    (λ q. c.if-count-eq0.false (sym (count_here i.ways i.filled.items i.lists c.args.set i.policy
    c.self.invariant
    (subst (λ (v : OrderValue). c.args.set < length v.sets) (sym c.self.view_is)
    c.requires)
    c.index.result.now c.index.ensures) ∙ count_here i.ways i.filled.items i.lists c.args.set
    i.policy c.self.invariant
    (subst (λ (v : OrderValue). c.args.set < length v.sets) (sym c.self.view_is)
    c.requires) c.index_mut.result.now c.index_mut.ensures.value ∙ q)) (sym c.last.ensures ∙
    c.unwrap-last.ensures) (c.are_apart.ensures.once c.args.set))

pub invariant_of-self-in-Random : goal.invariant_of-self-in-Random
invariant_of-self-in-Random c =
    let i = c.self.inside in
    let within = (subst (λ (v : OrderValue). c.args.set < length v.sets) (sym c.self.view_is)
    c.requires) in
    let few = few_ways i.ways i.filled.items i.lists c.args.set i.policy c.self.invariant
    within c.in-Random.is c.index_mut.result.now c.index_mut.ensures.value in
    way_kept i.ways i.filled.items i.lists c.args.set i.policy c.self.invariant
    within c.in-Random.is c.index_mut.result.now c.index_mut.ensures.value
    (c.index_mut.result.now - 1) (omega (arith, few))

pub returns-in-Lru : goal.returns-in-Lru
returns-in-Lru c =
    let i = c.self.inside in
    let within = (subst (λ (v : OrderValue). c.args.set < length v.sets) (sym c.self.view_is)
    c.requires) in
    let last = sym c.last.ensures ∙ c.unwrap-last.ensures in
    let once = c.are_apart.ensures.once c.args.set in
    rw (← c.self.view_is, c.remove.ensures) (
      remove (order_of i.lists.lists c.args.set)
          (index_of_slot c.unwrap-last.result (order_of i.lists.lists c.args.set)),
      popped_list i.ways i.filled.items i.lists c.args.set i.policy c.self.invariant within
          c.in-Lru.is c.index_mut.result.now c.unwrap-last.result c.index_mut.ensures.value
          (λ q. c.if-count-eq0.false (sym (count_here i.ways i.filled.items i.lists c.args.set
          i.policy c.self.invariant
          (subst (λ (v : OrderValue). c.args.set < length v.sets) (sym c.self.view_is)
          c.requires)
          c.index.result.now c.index.ensures) ∙ count_here i.ways i.filled.items i.lists c.args.set
          i.policy c.self.invariant
          (subst (λ (v : OrderValue). c.args.set < length v.sets) (sym c.self.view_is)
          c.requires) c.index_mut.result.now c.index_mut.ensures.value ∙ q)) last once,
      ap (λ sets. record { policy = i.policy; ways = i.ways; sets = sets })
          (popped_sets i.ways i.filled.items i.lists c.args.set i.policy c.self.invariant within
          c.in-Lru.is c.index_mut.result.now c.unwrap-last.result c.index_mut.ensures.value
          (λ q. c.if-count-eq0.false (sym (count_here i.ways i.filled.items i.lists c.args.set
          i.policy c.self.invariant
          (subst (λ (v : OrderValue). c.args.set < length v.sets) (sym c.self.view_is)
          c.requires)
          c.index.result.now c.index.ensures) ∙ count_here i.ways i.filled.items i.lists c.args.set
          i.policy c.self.invariant
          (subst (λ (v : OrderValue). c.args.set < length v.sets) (sym c.self.view_is)
          c.requires) c.index_mut.result.now c.index_mut.ensures.value ∙ q)) last once),
    )

pub returns-in-Random : goal.returns-in-Random
returns-in-Random c =
    let i = c.self.inside in
    let within = (subst (λ (v : OrderValue). c.args.set < length v.sets) (sym c.self.view_is)
    c.requires) in
    let same : c.index_mut.result.now ≡ c.index.result.now =
    sym (count_here i.ways i.filled.items i.lists c.args.set i.policy c.self.invariant within
    c.index_mut.result.now c.index_mut.ensures.value) ∙ count_here i.ways i.filled.items i.lists
    c.args.set i.policy c.self.invariant
    within c.index.result.now c.index.ensures in
    rw (← c.self.view_is, same) (
      range_with_len (c.args.set * i.ways) (c.index.result.now - 1),
      way_list i.ways i.filled.items i.lists c.args.set i.policy c.self.invariant
          within c.in-Random.is c.index.result.now c.index.ensures c.if-count-eq0.false,
      ap (λ sets. record { policy = i.policy; ways = i.ways; sets = sets })
          (way_popped i.ways i.filled.items i.lists c.args.set i.policy c.self.invariant
          within c.in-Random.is c.index.result.now c.index.ensures),
    )
