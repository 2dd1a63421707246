-- One set after another is emptied.
use Rattle.std.proofs.Common.{◌*◌, ◌<◌, ap, sym, ◌∙◌, arith, length}
use Rattle.std.proofs.Common.{replicate, []}
use Rattle.cache_core.specs.internal.cache.SlotOrder.{OrderValue}
use Rattle.cache_core.proofs.cache.indexed.IndexedEmptying.{emptying_none, one_emptied, few_dirty}
use Rattle.cache_core.proofs.cache.indexed.IndexedEmptying.{all_emptied, all_counted, still_empty}
use Rattle.cache_core.proofs.cache.indexed.IndexedEmptying.{none_from}
use Rattle.cache_core.proofs.cache.indexed.emptying.empty_all.Goals as goal

pub loop-set-init : goal.loop-set-init
loop-set-init c = (
  emptying_none c.args.design.geometry c.args.dirty.now c.args.index.now c.args.order.now
      c.requires.indexed.held c.requires.indexed.few,
  λ k lt. absurd (omega (arith, lt)),
)

pub empty_set-count-requires-clause-held : goal.empty_set-count-requires-clause-held
empty_set-count-requires-clause-held c = c.loop-set.invariant.0.held

pub empty_set-count-requires-clause-slots : goal.empty_set-count-requires-clause-slots
empty_set-count-requires-clause-slots c = omega (
  arith,
  c.loop-set.invariant.0.slots,
  c.requires.indexed.slots,
  c.requires.indexed.marks,
)

pub empty_set-count-requires-clause-set : goal.empty_set-count-requires-clause-set
empty_set-count-requires-clause-set c = omega (
  arith,
  c.loop-set-test.true,
  c.sets-set-end.ensures,
  c.loop-set.invariant.0.sets,
  c.requires.indexed.sets,
)

pub empty_set-count-requires-clause-few : goal.empty_set-count-requires-clause-few
empty_set-count-requires-clause-few c = omega (
  arith,
  c.loop-set.invariant.0.few c.loop-set.set,
  c.requires.indexed.geometry.ways,
)

pub overflow_add-count : goal.overflow_add-count
overflow_add-count c = omega (
  arith,
  c.loop-set.invariant.0.counted,
  few_dirty c.args.index.now c.args.dirty.now c.args.design.geometry.e c.args.order.now.sets
      c.requires.indexed.few,
  ap (λ n. c.args.design.geometry.e * n) c.requires.indexed.sets,
  c.requires.indexed.geometry.lines,
  c.loop-set.invariant.0.few c.loop-set.set,
  c.requires.indexed.geometry.ways,
  c.empty_set-count.ensures.few,
)

pub loop-set-preserved : goal.loop-set-preserved
loop-set-preserved c =
    let within : c.loop-set.set < length c.loop-set.order.sets = omega (
      arith,
      c.loop-set-test.true,
      c.sets-set-end.ensures,
      c.loop-set.invariant.0.sets,
      c.requires.indexed.sets,
    ) in (
      one_emptied c.args.design.geometry c.args.dirty.now c.args.index.now c.args.order.now
          c.loop-set.index c.loop-set.order c.loop-set.count c.loop-set.invariant.0
          c.loop-set.set within c.empty_set-count.new.index c.empty_set-count.new.order
          c.empty_set-count.result c.empty_set-count.ensures.empty c.empty_set-count.ensures.held
          c.empty_set-count.ensures.slots c.empty_set-count.ensures.counted,
      still_empty c.loop-set.order c.empty_set-count.new.order c.loop-set.set within
          c.empty_set-count.ensures.empty c.loop-set.invariant.1,
    )

pub returns-clause-counted : goal.returns-clause-counted
returns-clause-counted c = all_counted c.args.design.geometry c.args.dirty.now c.args.index.now
    c.args.order.now
    c.loop-set.index c.loop-set.order c.loop-set.count c.loop-set.invariant.0
    (ap (λ (o : OrderValue). o.sets) (all_emptied c.args.design.geometry c.args.dirty.now
    c.args.index.now c.args.order.now
    c.loop-set.index c.loop-set.order c.loop-set.count c.loop-set.invariant.0
    (λ k. none_from c.loop-set.order.sets c.loop-set.set (omega (
      arith,
      c.loop-set-test.false,
      c.sets-set-end.ensures,
      c.loop-set.invariant.0.sets,
      c.requires.indexed.sets,
    )) c.loop-set.invariant.1 k))
    ∙ ap (λ n. replicate n []) (sym c.loop-set.invariant.0.sets))

pub returns-clause-empty : goal.returns-clause-empty
returns-clause-empty c = all_emptied c.args.design.geometry c.args.dirty.now c.args.index.now
    c.args.order.now
    c.loop-set.index c.loop-set.order c.loop-set.count c.loop-set.invariant.0
    (λ k. none_from c.loop-set.order.sets c.loop-set.set (omega (
      arith,
      c.loop-set-test.false,
      c.sets-set-end.ensures,
      c.loop-set.invariant.0.sets,
      c.requires.indexed.sets,
    )) c.loop-set.invariant.1 k)

pub returns-clause-held : goal.returns-clause-held
returns-clause-held c = c.loop-set.invariant.0.held

pub returns-clause-slots : goal.returns-clause-slots
returns-clause-slots c = c.loop-set.invariant.0.slots
