-- One slot after another leaves, from the last one on.
use Rattle.std.proofs.Common.{ap, ◌∙◌, arith}
use Rattle.cache_core.specs.cache.Order.{dirty_in}
use Rattle.cache_core.specs.internal.cache.SlotOrder.{with_order}
use Rattle.cache_core.specs.internal.cache.Indexed.{set_at}
use Rattle.cache_core.proofs.cache.indexed.IndexedPopping.{popping_none, slot_held, slot_within}
use Rattle.cache_core.proofs.cache.indexed.IndexedPopping.{shorter, one_popped}
use Rattle.cache_core.proofs.cache.indexed.emptying.empty_set.Goals as goal

pub loop-slot-init : goal.loop-slot-init
loop-slot-init c = popping_none c.args.geometry c.args.dirty.now c.args.set c.args.index.now
    c.args.order.now c.requires.held c.requires.set

pub pop-requires : goal.pop-requires
pop-requires c = c.loop-slot.invariant.within

pub remove-requires : goal.remove-requires
remove-requires c =
    let r = c.in-Some.ensures in
    let h = slot_held c.args.geometry c.args.dirty.now c.args.set c.args.index.now c.args.order.now
    c.loop-slot.index c.loop-slot.order c.loop-slot.count c.loop-slot.invariant c.in-Some.slot r.0
    c.pop.new.self r.1 r.2 in
    (h.block, h.has)

pub one_if_dirty-count-requires : goal.one_if_dirty-count-requires
one_if_dirty-count-requires c =
    let r = c.in-Some.ensures in
    omega (
      arith,
      slot_within c.args.geometry c.args.dirty.now c.args.set c.args.index.now c.args.order.now
          c.loop-slot.index c.loop-slot.order c.loop-slot.count c.loop-slot.invariant c.in-Some.slot
          r.0 c.pop.new.self r.1 r.2,
      c.loop-slot.invariant.slots,
      c.requires.slots,
    )

pub overflow_add-count : goal.overflow_add-count
overflow_add-count c = omega (
  arith,
  c.loop-slot.invariant.few,
  c.requires.few,
  c.one_if_dirty-count.ensures.few,
)

pub loop-slot-preserved : goal.loop-slot-preserved
loop-slot-preserved c =
    let r = c.in-Some.ensures in
    one_popped c.args.geometry c.args.dirty.now c.args.set c.args.index.now c.args.order.now
    c.loop-slot.index c.loop-slot.order c.loop-slot.count c.loop-slot.invariant c.in-Some.slot r.0
    c.pop.new.self r.1 r.2 c.remove.new.self c.one_if_dirty-count.result c.remove.ensures
    c.one_if_dirty-count.ensures.value c.one_if_dirty-count.ensures.few

pub loop-slot-smaller : goal.loop-slot-smaller
loop-slot-smaller c =
    let r = c.in-Some.ensures in
    shorter c.args.geometry c.args.dirty.now c.args.set c.args.index.now c.args.order.now
    c.loop-slot.index c.loop-slot.order c.loop-slot.count c.loop-slot.invariant c.in-Some.slot r.0
    c.pop.new.self r.1 r.2

pub returns-clause-counted : goal.returns-clause-counted
returns-clause-counted c = omega (
  arith,
  c.loop-slot.invariant.counted,
  ap (λ ys. dirty_in (set_at c.args.index.now c.args.dirty.now ys)) c.in_default.ensures.0,
)

pub returns-clause-few : goal.returns-clause-few
returns-clause-few c = omega (arith, c.loop-slot.invariant.few)

pub returns-clause-empty : goal.returns-clause-empty
returns-clause-empty c = c.in_default.ensures.1 ∙ c.loop-slot.invariant.rest
    ∙ ap (with_order c.args.order.now c.args.set) c.in_default.ensures.0

pub returns-clause-held : goal.returns-clause-held
returns-clause-held c = rw c.in_default.ensures.1 c.loop-slot.invariant.held
