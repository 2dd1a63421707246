-- One set after another is emptied.
use Rattle.std.proofs.Common.{◌*◌, ◌<◌, ap, sym, ◌∙◌, arith, length, get_or}
use Rattle.std.proofs.Common.{replicate, []}
use Rattle.cache_core.specs.internal.cache.SlotOrder.{OrderValue}
use Rattle.cache_core.specs.internal.cache.Indexed.{counts_of}
use Rattle.cache_core.proofs.cache.indexed.IndexedEmptying.{emptying_none, one_emptied, few_dirty}
use Rattle.cache_core.proofs.cache.indexed.IndexedEmptying.{all_emptied, all_counted, listed_none}
use Rattle.cache_core.proofs.cache.indexed.IndexedEmptying.{listed_within, listed_all, listed_start}
use Rattle.cache_core.proofs.cache.indexed.IndexedEmptying.{still_listed}
use Rattle.cache_core.proofs.cache.indexed.emptying.empty_listed.Goals as goal

pub loop-number-init : goal.loop-number-init
loop-number-init c = (
  emptying_none c.args.design.geometry c.args.dirty.now c.args.index.now c.args.order.now
      c.requires.indexed.held c.requires.indexed.few,
  listed_start c.args.sets.now (counts_of c.args.order.now.sets) c.requires.listed,
)

pub empty_set-count-requires-clause-held : goal.empty_set-count-requires-clause-held
empty_set-count-requires-clause-held c = c.loop-number.invariant.0.held

pub empty_set-count-requires-clause-slots : goal.empty_set-count-requires-clause-slots
empty_set-count-requires-clause-slots c = omega (
  arith,
  c.loop-number.invariant.0.slots,
  c.requires.indexed.slots,
  c.requires.indexed.marks,
)

pub empty_set-count-requires-clause-set : goal.empty_set-count-requires-clause-set
empty_set-count-requires-clause-set c = listed_within c.args.sets.now c.loop-number.order.sets
    c.loop-number.number-index
    c.loop-number-test.true c.loop-number.invariant.1

pub empty_set-count-requires-clause-few : goal.empty_set-count-requires-clause-few
empty_set-count-requires-clause-few c = omega (
  arith,
  c.loop-number.invariant.0.few (get_or c.args.sets.now c.loop-number.number-index 0),
  c.requires.indexed.geometry.ways,
)

pub overflow_add-count : goal.overflow_add-count
overflow_add-count c = omega (
  arith,
  c.loop-number.invariant.0.counted,
  few_dirty c.args.index.now c.args.dirty.now c.args.design.geometry.e c.args.order.now.sets
      c.requires.indexed.few,
  ap (λ n. c.args.design.geometry.e * n) c.requires.indexed.sets,
  c.requires.indexed.geometry.lines,
  c.loop-number.invariant.0.few (get_or c.args.sets.now c.loop-number.number-index 0),
  c.requires.indexed.geometry.ways,
  c.empty_set-count.ensures.few,
)

pub loop-number-preserved : goal.loop-number-preserved
loop-number-preserved c =
    let within : (get_or c.args.sets.now c.loop-number.number-index 0) < length
    c.loop-number.order.sets = listed_within c.args.sets.now c.loop-number.order.sets
    c.loop-number.number-index
    c.loop-number-test.true c.loop-number.invariant.1 in (
      one_emptied c.args.design.geometry c.args.dirty.now c.args.index.now c.args.order.now
          c.loop-number.index c.loop-number.order c.loop-number.count c.loop-number.invariant.0
          (get_or c.args.sets.now c.loop-number.number-index 0) within c.empty_set-count.new.index
          c.empty_set-count.new.order
          c.empty_set-count.result c.empty_set-count.ensures.empty c.empty_set-count.ensures.held
          c.empty_set-count.ensures.slots c.empty_set-count.ensures.counted,
      still_listed c.args.sets.now c.loop-number.order c.empty_set-count.new.order
          c.loop-number.number-index c.loop-number-test.true c.loop-number.invariant.1
          c.empty_set-count.ensures.empty,
    )

pub returns-clause-counted : goal.returns-clause-counted
returns-clause-counted c = all_counted c.args.design.geometry c.args.dirty.now c.args.index.now
    c.args.order.now
    c.loop-number.index c.loop-number.order c.loop-number.count c.loop-number.invariant.0
    (ap (λ (o : OrderValue). o.sets) (all_emptied c.args.design.geometry c.args.dirty.now
    c.args.index.now c.args.order.now
    c.loop-number.index c.loop-number.order c.loop-number.count c.loop-number.invariant.0
    (listed_none c.loop-number.order.sets (listed_all c.args.sets.now c.loop-number.order.sets
    c.loop-number.number-index (omega (arith, c.loop-number-test.false))
    c.loop-number.invariant.1)))
    ∙ ap (λ n. replicate n []) (sym c.loop-number.invariant.0.sets))

pub returns-clause-empty : goal.returns-clause-empty
returns-clause-empty c = all_emptied c.args.design.geometry c.args.dirty.now c.args.index.now
    c.args.order.now
    c.loop-number.index c.loop-number.order c.loop-number.count c.loop-number.invariant.0
    (listed_none c.loop-number.order.sets (listed_all c.args.sets.now c.loop-number.order.sets
    c.loop-number.number-index (omega (arith, c.loop-number-test.false))
    c.loop-number.invariant.1))

pub returns-clause-held : goal.returns-clause-held
returns-clause-held c = c.loop-number.invariant.0.held

pub returns-clause-slots : goal.returns-clause-slots
returns-clause-slots c = c.loop-number.invariant.0.slots
