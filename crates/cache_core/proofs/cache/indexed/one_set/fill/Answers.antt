-- The next slot of a set gets the block.
use Rattle.std.proofs.Common.{◌≡◌, suc, ◌+◌, ◌*◌, length, set, refl, sym, ◌∙◌, ap, arith}
use Rattle.cache_core.specs.internal.cache.SlotOrder.{order_of, with_next}
use Rattle.cache_core.specs.internal.cache.Indexed.{counts_of}
use Rattle.cache_core.specs.replacement.Rules.{rules}
use Rattle.cache_core.proofs.cache.indexed.HeldLaw.{order_same}
use Rattle.cache_core.proofs.cache.indexed.IndexedDeeds.{in_sets, none_listed, next_free}
use Rattle.cache_core.proofs.cache.indexed.IndexedDeeds.{more_indexed, more_counts, more_taken}
use Rattle.cache_core.proofs.cache.indexed.IndexedDeeds.{more_sets}
use Rattle.cache_core.proofs.cache.indexed.one_set.fill.Goals as goal

pub fill_next-slot-requires-clause-free : goal.fill_next-slot-requires-clause-free
fill_next-slot-requires-clause-free c = rw c.requires.indexed.ways
    (none_listed c.args.design c.args.index.now c.args.dirty.now c.args.order.now
    c.args.set c.requires.indexed c.requires.within c.args.new.block c.requires.none
    (sym c.requires.set) c.requires.address c.args.new.dirty
    (c.args.set * c.args.design.geometry.e + length (order_of c.args.order.now.sets c.args.set))
    c.requires.room refl)

pub add-requires-clause-free : goal.add-requires-clause-free
add-requires-clause-free c = next_free c.args.design c.args.index.now c.args.dirty.now
    c.args.order.now
    c.args.set c.requires.indexed c.requires.within c.args.new.block c.requires.none
    (sym c.requires.set) c.requires.address c.args.new.dirty
    c.fill_next-slot.result c.requires.room
    (c.fill_next-slot.ensures.slot ∙ ap (λ w. c.args.set * w + length
    (order_of c.args.order.now.sets c.args.set)) c.requires.indexed.ways)

pub returns-clause-indexed : goal.returns-clause-indexed
returns-clause-indexed c = rw (c.add.ensures, c.fill_next-slot.ensures.order)
    (more_indexed c.args.design c.args.index.now c.args.dirty.now c.args.order.now
    c.args.set c.requires.indexed c.requires.within c.args.new.block c.requires.none
    (sym c.requires.set) c.requires.address c.args.new.dirty
    c.fill_next-slot.result c.requires.room
    (c.fill_next-slot.ensures.slot ∙ ap (λ w. c.args.set * w + length
    (order_of c.args.order.now.sets c.args.set)) c.requires.indexed.ways))

pub returns-clause-counts : goal.returns-clause-counts
returns-clause-counts c =
    let one : suc (length (order_of c.args.order.now.sets c.args.set))
    ≡ length (order_of c.args.order.now.sets c.args.set) + 1 = omega arith in
    rw c.fill_next-slot.ensures.order (more_counts c.args.design c.args.index.now c.args.dirty.now
    c.args.order.now
    c.args.set c.requires.indexed c.requires.within c.args.new.block c.requires.none
    (sym c.requires.set) c.requires.address c.args.new.dirty
    c.fill_next-slot.result c.requires.room
    (c.fill_next-slot.ensures.slot ∙ ap (λ w. c.args.set * w + length
    (order_of c.args.order.now.sets c.args.set)) c.requires.indexed.ways)
    ∙ ap (λ n. set (counts_of c.args.order.now.sets) c.args.set n) one)

pub returns-clause-taken : goal.returns-clause-taken
returns-clause-taken c = λ number. rw (
  c.add.ensures,
  c.fill_next-slot.ensures.order,
  order_same c.args.order.now.sets c.args.set (with_next (rules c.args.order.now.policy).placed
      c.fill_next-slot.result
      (order_of c.args.order.now.sets c.args.set))
      (in_sets c.args.design c.args.index.now c.args.dirty.now c.args.order.now
      c.args.set c.requires.indexed c.requires.within),
)
    (more_taken c.args.design c.args.index.now c.args.dirty.now c.args.order.now
    c.args.set c.requires.indexed c.requires.within c.args.new.block c.requires.none
    (sym c.requires.set) c.requires.address c.args.new.dirty
    c.fill_next-slot.result c.requires.room
    (c.fill_next-slot.ensures.slot ∙ ap (λ w. c.args.set * w + length
    (order_of c.args.order.now.sets c.args.set)) c.requires.indexed.ways) number)

pub returns-clause-sets : goal.returns-clause-sets
returns-clause-sets c = rw (
  c.add.ensures,
  c.fill_next-slot.ensures.order,
  order_same c.args.order.now.sets c.args.set (with_next (rules c.args.order.now.policy).placed
      c.fill_next-slot.result
      (order_of c.args.order.now.sets c.args.set))
      (in_sets c.args.design c.args.index.now c.args.dirty.now c.args.order.now
      c.args.set c.requires.indexed c.requires.within),
)
    (more_sets c.args.design c.args.index.now c.args.dirty.now c.args.order.now
    c.args.set c.requires.indexed c.requires.within c.args.new.block c.requires.none
    (sym c.requires.set) c.requires.address c.args.new.dirty
    c.fill_next-slot.result c.requires.room
    (c.fill_next-slot.ensures.slot ∙ ap (λ w. c.args.set * w + length
    (order_of c.args.order.now.sets c.args.set)) c.requires.indexed.ways))
