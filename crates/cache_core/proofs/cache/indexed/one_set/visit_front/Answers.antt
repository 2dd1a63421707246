-- The block is in the first slot of its set, or nothing is done.
use Rattle.std.proofs.Common.{set, true, sym, ◌∙◌, ap, arith, Some}
use Rattle.std.proofs.lemmas.Bool.{ne_eqb, eq-eqb}
use Rattle.std.proofs.lemmas.Option.{slice_get_within}
use Rattle.cache_core.specs.Geometry.{block_of}
use Rattle.cache_core.specs.internal.cache.SlotOrder.{order_of}
use Rattle.cache_core.specs.internal.cache.Indexed.{with_mark}
use Rattle.cache_core.proofs.cache.indexed.SlotsApart.{slot_in}
use Rattle.cache_core.proofs.cache.indexed.IndexedFront.{front_told, front_accesses, front_dirties}
use Rattle.cache_core.proofs.cache.indexed.one_set.visit_front.Goals as goal

pub block-requires : goal.block-requires
block-requires c =
    let held = c.requires.held.holds c.set_of-set.result c.in-Some.slot
    (slot_in (order_of c.args.order.now.sets c.set_of-set.result) 0 c.in-Some.slot
    (sym c.first.ensures ∙ c.in-Some.is)) in
    (held.block, held.has)

pub returns-then-block-clause-answers : goal.returns-then-block-clause-answers
returns-then-block-clause-answers c =
    sym (front_told c.args.design c.args.index.now c.args.dirty.now c.args.order.now
    c.args.reference
    c.set_of-set.result c.in-Some.slot c.block.result c.requires c.set_of-set.ensures.value
    c.set_of-set.ensures.within (sym c.first.ensures ∙ c.in-Some.is) c.block.ensures
    c.hit_outcome-outcome.result c.hit_outcome-outcome.ensures
    (sym c.is_some.ensures ∙ c.if-is_some.false) ∙ ne_eqb c.block.result (block_of
    c.args.design.geometry c.args.reference.addr)
    (λ q. c.if-block.true (q ∙ sym c.block_of-block.ensures.value)))

pub bounds-dirty-slot : goal.bounds-dirty-slot
bounds-dirty-slot c = omega (
  arith,
  slice_get_within c.args.index.now.blocks c.in-Some.slot (Some c.block.result) c.block.ensures,
  c.requires.slots,
  c.requires.marks,
)

pub returns-then-dirties_line-clause-access : goal.returns-then-dirties_line-clause-access
returns-then-dirties_line-clause-access c = λ policy numbers.
    front_accesses c.args.design c.args.index.now c.args.dirty.now c.args.order.now c.args.reference
    c.set_of-set.result c.in-Some.slot c.block.result c.requires c.set_of-set.ensures.value
    c.set_of-set.ensures.within (sym c.first.ensures ∙ c.in-Some.is) c.block.ensures
    c.hit_outcome-outcome.result c.hit_outcome-outcome.ensures
    (c.if-block.false ∙ c.block_of-block.ensures.value) (set c.args.dirty.now c.in-Some.slot true)
    (ap (λ m. with_mark m c.args.dirty.now c.in-Some.slot)
    (sym c.if-dirties_line.true ∙ c.dirties_line.ensures)) policy numbers

pub returns-then-dirties_line-clause-dirty : goal.returns-then-dirties_line-clause-dirty
returns-then-dirties_line-clause-dirty c =
    front_dirties c.args.design c.args.index.now c.args.dirty.now c.args.order.now c.args.reference
    c.set_of-set.result c.in-Some.slot c.block.result c.requires c.set_of-set.ensures.value
    c.set_of-set.ensures.within (sym c.first.ensures ∙ c.in-Some.is) c.block.ensures
    c.hit_outcome-outcome.result c.hit_outcome-outcome.ensures
    (c.if-block.false ∙ c.block_of-block.ensures.value) (set c.args.dirty.now c.in-Some.slot true)
    (ap (λ m. with_mark m c.args.dirty.now c.in-Some.slot)
    (sym c.if-dirties_line.true ∙ c.dirties_line.ensures))

pub returns-then-dirties_line-clause-answers : goal.returns-then-dirties_line-clause-answers
returns-then-dirties_line-clause-answers c =
    sym (front_told c.args.design c.args.index.now c.args.dirty.now c.args.order.now
    c.args.reference
    c.set_of-set.result c.in-Some.slot c.block.result c.requires c.set_of-set.ensures.value
    c.set_of-set.ensures.within (sym c.first.ensures ∙ c.in-Some.is) c.block.ensures
    c.hit_outcome-outcome.result c.hit_outcome-outcome.ensures
    (sym c.is_some.ensures ∙ c.if-is_some.false) ∙ eq-eqb c.block.result (block_of
    c.args.design.geometry c.args.reference.addr)
    (c.if-block.false ∙ c.block_of-block.ensures.value))

pub returns-else-dirties_line-clause-access : goal.returns-else-dirties_line-clause-access
returns-else-dirties_line-clause-access c = λ policy numbers.
    front_accesses c.args.design c.args.index.now c.args.dirty.now c.args.order.now c.args.reference
    c.set_of-set.result c.in-Some.slot c.block.result c.requires c.set_of-set.ensures.value
    c.set_of-set.ensures.within (sym c.first.ensures ∙ c.in-Some.is) c.block.ensures
    c.hit_outcome-outcome.result c.hit_outcome-outcome.ensures
    (c.if-block.false ∙ c.block_of-block.ensures.value) c.args.dirty.now
    (ap (λ m. with_mark m c.args.dirty.now c.in-Some.slot)
    (sym c.if-dirties_line.false ∙ c.dirties_line.ensures)) policy numbers

pub returns-else-dirties_line-clause-answers : goal.returns-else-dirties_line-clause-answers
returns-else-dirties_line-clause-answers c =
    sym (front_told c.args.design c.args.index.now c.args.dirty.now c.args.order.now
    c.args.reference
    c.set_of-set.result c.in-Some.slot c.block.result c.requires c.set_of-set.ensures.value
    c.set_of-set.ensures.within (sym c.first.ensures ∙ c.in-Some.is) c.block.ensures
    c.hit_outcome-outcome.result c.hit_outcome-outcome.ensures
    (sym c.is_some.ensures ∙ c.if-is_some.false) ∙ eq-eqb c.block.result (block_of
    c.args.design.geometry c.args.reference.addr)
    (c.if-block.false ∙ c.block_of-block.ensures.value))
