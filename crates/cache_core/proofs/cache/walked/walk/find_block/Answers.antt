-- The first slot that holds the block is found.
use Rattle.std.proofs.Common.{arith, false}
use Rattle.cache_core.specs.declared.outcome.Slot.{Slot}
use Rattle.cache_core.proofs.cache.walked.SearchLaw.{found_at, found_nowhere}
use Rattle.cache_core.proofs.cache.walked.walk.find_block.Goals as goal

abbrev none : Slot
none = record { block = 0; dirty = false }

pub returns-then-others-lt4 : goal.returns-then-others-lt4
returns-then-others-lt4 c = found_at c.args.block c.args.slots.now _ none
    (c.others_of_four-others.ensures.others c.loop-at.invariant.1)
    (omega (arith, c.loop-at-test.true, c.if-others-lt4.true))
    (c.others_of_four-others.ensures.found c.if-others-lt4.true)

pub returns-then-slots-at : goal.returns-then-slots-at
returns-then-slots-at c = found_at c.args.block c.args.slots.now c.loop-at-2.at none
    c.loop-at-2.invariant c.loop-at-2-test.true c.if-slots-at.true

pub returns : goal.returns
returns c = found_nowhere c.args.block c.args.slots.now c.loop-at-2.at c.loop-at-2.invariant
    (omega (arith, c.loop-at-2-test.false))
