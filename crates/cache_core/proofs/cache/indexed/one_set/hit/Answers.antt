-- The block is found in a slot, or nowhere.
use Rattle.std.proofs.Common.{sym, ◌∙◌, ap}
use Rattle.cache_core.specs.Geometry.{set_of_block}
use Rattle.cache_core.proofs.cache.indexed.IndexedDeeds.{inside, in_marks, hit_indexed, hit_counts}
use Rattle.cache_core.proofs.cache.indexed.IndexedAccess.{hit_accesses, hit_dirties}
use Rattle.cache_core.proofs.cache.indexed.IndexedHeld.{slot_held, none_held}
use Rattle.cache_core.proofs.cache.indexed.one_set.hit.Goals as goal

pub find_slot-requires-clause-set : goal.find_slot-requires-clause-set
find_slot-requires-clause-set c = c.set_of-set.ensures.value
    ∙ ap (set_of_block c.args.design.geometry) (sym c.block_of-block.ensures.value)

pub use_slot-requires-clause-slot : goal.use_slot-requires-clause-slot
use_slot-requires-clause-slot c =
    inside c.args.design c.args.index.now c.args.dirty.now c.args.order.now
    c.set_of-set.result c.requires c.set_of-set.ensures.within
    c.in-Some.slot c.block_of-block.result c.in-Some.ensures (ap
    (set_of_block c.args.design.geometry) c.block_of-block.ensures.value
    ∙ sym c.set_of-set.ensures.value)

pub use_slot-requires-clause-mark : goal.use_slot-requires-clause-mark
use_slot-requires-clause-mark c =
    in_marks c.args.design c.args.index.now c.args.dirty.now c.args.order.now
    c.set_of-set.result c.requires c.set_of-set.ensures.within
    c.in-Some.slot c.block_of-block.result c.in-Some.ensures (ap
    (set_of_block c.args.design.geometry) c.block_of-block.ensures.value
    ∙ sym c.set_of-set.ensures.value)

pub returns-clause-indexed : goal.returns-clause-indexed
returns-clause-indexed c = rw (c.use_slot.ensures.mark, c.use_slot.ensures.order)
    (hit_indexed c.args.design c.args.index.now c.args.dirty.now c.args.order.now
    c.set_of-set.result c.requires c.set_of-set.ensures.within
    c.in-Some.slot c.block_of-block.result c.in-Some.ensures (ap
    (set_of_block c.args.design.geometry) c.block_of-block.ensures.value
    ∙ sym c.set_of-set.ensures.value) c.dirties_line-mark.result)

pub returns-clause-counts : goal.returns-clause-counts
returns-clause-counts c = rw c.use_slot.ensures.order
    (hit_counts c.args.design c.args.index.now c.args.dirty.now c.args.order.now
    c.set_of-set.result c.requires c.set_of-set.ensures.within
    c.in-Some.slot c.block_of-block.result c.in-Some.ensures (ap
    (set_of_block c.args.design.geometry) c.block_of-block.ensures.value
    ∙ sym c.set_of-set.ensures.value) c.dirties_line-mark.result)

pub returns-clause-step : goal.returns-clause-step
returns-clause-step c = λ numbers.
    rw (c.use_slot.ensures.mark, c.use_slot.ensures.order)
    (hit_accesses c.args.design c.args.index.now c.args.dirty.now c.args.order.now c.args.reference
    c.set_of-set.result c.block_of-block.result c.requires c.set_of-set.ensures.value
    c.block_of-block.ensures.value c.set_of-set.ensures.within c.hit_outcome.result
    c.in-Some.slot c.dirties_line-mark.result c.in-Some.ensures c.dirties_line-mark.ensures
    c.hit_outcome.ensures numbers)

pub returns-clause-dirty : goal.returns-clause-dirty
returns-clause-dirty c =
    rw (c.use_slot.ensures.mark, c.use_slot.ensures.order)
    (hit_dirties c.args.design c.args.index.now c.args.dirty.now c.args.order.now c.args.reference
    c.set_of-set.result c.block_of-block.result c.requires c.set_of-set.ensures.value
    c.block_of-block.ensures.value c.set_of-set.ensures.within c.hit_outcome.result
    c.in-Some.slot c.dirties_line-mark.result c.in-Some.ensures c.dirties_line-mark.ensures
    c.hit_outcome.ensures)

pub returns-clause-answers : goal.returns-clause-answers
returns-clause-answers c =
    slot_held c.args.design c.args.index.now c.args.dirty.now c.args.order.now c.args.reference
    c.set_of-set.result c.block_of-block.result c.requires c.set_of-set.ensures.value
    c.block_of-block.ensures.value c.set_of-set.ensures.within c.in-Some.slot c.in-Some.ensures

pub returns-in_default-clause-answers : goal.returns-in_default-clause-answers
returns-in_default-clause-answers c =
    none_held c.args.design c.args.index.now c.args.dirty.now c.args.order.now c.args.reference
    c.set_of-set.result c.block_of-block.result c.requires c.set_of-set.ensures.value
    c.block_of-block.ensures.value c.set_of-set.ensures.within c.in_default.ensures
