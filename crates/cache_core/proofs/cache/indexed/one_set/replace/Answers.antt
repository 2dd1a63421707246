-- A slot of a full set gives up its block for another one.
use Rattle.std.proofs.Common.{◌≡◌, sym}
use Rattle.std.proofs.Common.{Some, None}
use Rattle.cache_core.specs.internal.cache.SlotOrder.{order_of, with_moved}
use Rattle.cache_core.specs.internal.cache.Indexed.{slot_at}
use Rattle.cache_core.specs.replacement.Rules.{rules}
use Rattle.cache_core.proofs.cache.indexed.HeldLaw.{order_same, set_twice, get_same}
use Rattle.cache_core.proofs.cache.indexed.IndexedLaw.{slot_block}
use Rattle.cache_core.proofs.cache.indexed.IndexedDeeds.{in_sets, leaving, leaving_in_blocks}
use Rattle.cache_core.proofs.cache.indexed.IndexedDeeds.{leaving_in_marks, gone, over_indexed}
use Rattle.cache_core.proofs.cache.indexed.IndexedDeeds.{over_counts, over_taken, over_sets}
use Rattle.cache_core.proofs.cache.indexed.IndexedDeeds.{over_victim}
use Rattle.cache_core.proofs.cache.indexed.HeldLaw.{left_none}
use Rattle.cache_core.proofs.cache.indexed.one_set.replace.Goals as goal

pub renew-requires-clause-slot : goal.renew-requires-clause-slot
renew-requires-clause-slot c = leaving c.args.design c.args.index.now c.args.dirty.now
    c.args.order.now
    c.args.set c.requires.indexed c.requires.within c.args.new.block c.requires.none
    (sym c.requires.set) c.requires.address c.args.new.dirty
    c.victim-slot.result c.args.number c.requires.full c.victim-slot.ensures

pub block-requires : goal.block-requires
block-requires c = let h = gone c.args.design c.args.index.now c.args.dirty.now c.args.order.now
    c.args.set c.requires.indexed c.requires.within c.args.new.block c.requires.none
    (sym c.requires.set) c.requires.address c.args.new.dirty
    c.victim-slot.result c.args.number c.requires.full c.victim-slot.ensures in (h.block, h.has)

pub bounds-dirty-slot : goal.bounds-dirty-slot
bounds-dirty-slot c = leaving_in_marks c.args.design c.args.index.now c.args.dirty.now
    c.args.order.now
    c.args.set c.requires.indexed c.requires.within c.args.new.block c.requires.none
    (sym c.requires.set) c.requires.address c.args.new.dirty
    c.victim-slot.result c.args.number c.requires.full c.victim-slot.ensures

pub add-requires-clause-free : goal.add-requires-clause-free
add-requires-clause-free c = rw c.remove.ensures
    (get_same c.args.index.now.blocks c.victim-slot.result None
    (leaving_in_blocks c.args.design c.args.index.now c.args.dirty.now c.args.order.now
    c.args.set c.requires.indexed c.requires.within c.args.new.block c.requires.none
    (sym c.requires.set) c.requires.address c.args.new.dirty
    c.victim-slot.result c.args.number c.requires.full c.victim-slot.ensures))

pub add-requires-clause-other : goal.add-requires-clause-other
add-requires-clause-other c = rw c.remove.ensures
    (left_none c.args.index.now c.victim-slot.result c.args.new.block
    (leaving_in_blocks c.args.design c.args.index.now c.args.dirty.now c.args.order.now
    c.args.set c.requires.indexed c.requires.within c.args.new.block c.requires.none
    (sym c.requires.set) c.requires.address c.args.new.dirty
    c.victim-slot.result c.args.number c.requires.full c.victim-slot.ensures) c.requires.none)

pub bounds-dirty-slot-2 : goal.bounds-dirty-slot-2
bounds-dirty-slot-2 c = leaving_in_marks c.args.design c.args.index.now c.args.dirty.now
    c.args.order.now
    c.args.set c.requires.indexed c.requires.within c.args.new.block c.requires.none
    (sym c.requires.set) c.requires.address c.args.new.dirty
    c.victim-slot.result c.args.number c.requires.full c.victim-slot.ensures

pub returns-clause-indexed : goal.returns-clause-indexed
returns-clause-indexed c = rw (
  c.add.ensures,
  c.remove.ensures,
  set_twice c.args.index.now.blocks
      c.victim-slot.result None (Some c.args.new.block),
  c.renew.ensures,
)
    (over_indexed c.args.design c.args.index.now c.args.dirty.now c.args.order.now
    c.args.set c.requires.indexed c.requires.within c.args.new.block c.requires.none
    (sym c.requires.set) c.requires.address c.args.new.dirty
    c.victim-slot.result c.args.number c.requires.full c.victim-slot.ensures)

pub returns-clause-counts : goal.returns-clause-counts
returns-clause-counts c = rw c.renew.ensures (over_counts c.args.design c.args.index.now
    c.args.dirty.now c.args.order.now
    c.args.set c.requires.indexed c.requires.within c.args.new.block c.requires.none
    (sym c.requires.set) c.requires.address c.args.new.dirty
    c.victim-slot.result c.args.number c.requires.full c.victim-slot.ensures)

held : (c : goal.After-add) → c.block.result
    ≡ (slot_at c.args.index.now c.args.dirty.now c.victim-slot.result).block
held c = sym (slot_block c.args.index.now c.args.dirty.now c.victim-slot.result c.block.result
    c.block.ensures)

pub returns-clause-taken : goal.returns-clause-taken
returns-clause-taken c = rw (
  c.add.ensures,
  c.remove.ensures,
  set_twice c.args.index.now.blocks c.victim-slot.result None (Some c.args.new.block),
  c.renew.ensures,
  order_same c.args.order.now.sets c.args.set (with_moved (rules c.args.order.now.policy).placed
      c.victim-slot.result
      (order_of c.args.order.now.sets c.args.set))
      (in_sets c.args.design c.args.index.now c.args.dirty.now c.args.order.now
      c.args.set c.requires.indexed c.requires.within),
  held c,
)
    (over_taken c.args.design c.args.index.now c.args.dirty.now c.args.order.now
    c.args.set c.requires.indexed c.requires.within c.args.new.block c.requires.none
    (sym c.requires.set) c.requires.address c.args.new.dirty
    c.victim-slot.result c.args.number c.requires.full c.victim-slot.ensures)

pub returns-clause-sets : goal.returns-clause-sets
returns-clause-sets c = rw (
  c.add.ensures,
  c.remove.ensures,
  set_twice c.args.index.now.blocks c.victim-slot.result None (Some c.args.new.block),
  c.renew.ensures,
  order_same c.args.order.now.sets c.args.set (with_moved (rules c.args.order.now.policy).placed
      c.victim-slot.result
      (order_of c.args.order.now.sets c.args.set))
      (in_sets c.args.design c.args.index.now c.args.dirty.now c.args.order.now
      c.args.set c.requires.indexed c.requires.within),
)
    (over_sets c.args.design c.args.index.now c.args.dirty.now c.args.order.now
    c.args.set c.requires.indexed c.requires.within c.args.new.block c.requires.none
    (sym c.requires.set) c.requires.address c.args.new.dirty
    c.victim-slot.result c.args.number c.requires.full c.victim-slot.ensures)

pub returns-clause-victim : goal.returns-clause-victim
returns-clause-victim c = rw (held c) (over_victim c.args.design c.args.index.now c.args.dirty.now
    c.args.order.now
    c.args.set c.requires.indexed c.requires.within c.args.new.block c.requires.none
    (sym c.requires.set) c.requires.address c.args.new.dirty
    c.victim-slot.result c.args.number c.requires.full c.victim-slot.ensures)
