-- One listed set after another is emptied, and its dirty slots are counted.
use Rattle.std.proofs.Common.{arith, ap, ◌∙◌, replicate}
use Rattle.cache_core.proofs.cache.walked.SlabFlush.{dirty_few, one_emptied, none_left, all_counted}
use Rattle.cache_core.proofs.cache.walked.emptying.empty_listed.Goals as goal

pub loop-number-preserved : goal.loop-number-preserved
loop-number-preserved c =
    one_emptied c.args.ways c.args.slots.now c.args.listed.now _ c.loop-number.filled
    c.loop-number.dirty c.loop-number.number-index c.loop-number.invariant
    c.replace-count.new.dest c.replace-count.result _ c.loop-number-test.true
    c.replace-count.ensures.after c.replace-count.ensures.value
    c.count_dirty_slots-dirty.ensures.value

pub overflow_add-dirty : goal.overflow_add-dirty
overflow_add-dirty c = grind (arith, dirty_few)

pub returns-clause-counted : goal.returns-clause-counted
returns-clause-counted c =
    all_counted c.args.ways c.args.slots.now c.args.listed.now _ c.loop-number.filled
    c.loop-number.dirty c.loop-number.number-index c.loop-number.invariant
    (omega arith)

pub returns-clause-empty : goal.returns-clause-empty
returns-clause-empty c =
    none_left c.args.ways c.args.slots.now c.args.listed.now _ c.loop-number.filled
    c.loop-number.dirty c.loop-number.number-index c.loop-number.invariant
    (omega arith)
    ∙ ap (λ n. replicate n 0) c.loop-number.auto.filled
