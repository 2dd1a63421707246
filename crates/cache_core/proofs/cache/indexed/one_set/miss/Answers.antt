-- The block is nowhere, and is placed or passed on.
use Rattle.std.proofs.Common.{sym, ◌∙◌, refl}
use Rattle.cache_core.specs.internal.cache.Indexed.{sets_at, set_at}
use Rattle.cache_core.specs.internal.cache.SlotOrder.{order_of}
use Rattle.cache_core.specs.Geometry.{block_of, set_of, set_of_block}
use Rattle.cache_core.proofs.cache.indexed.IndexedAccess.{passed_accesses, passed_dirties}
use Rattle.cache_core.proofs.cache.indexed.IndexedAccess.{placed_accesses, placed_dirties}
use Rattle.cache_core.proofs.cache.indexed.IndexedHeld.{held_nowhere, set_within}
use Rattle.cache_core.proofs.cache.indexed.one_set.miss.Goals as goal

pub place-evicted-requires-clause-none : goal.place-evicted-requires-clause-none
place-evicted-requires-clause-none g c =
    held_nowhere c.args.design c.args.index.now c.args.dirty.now c.args.order.now c.args.reference
    (set_of c.args.design.geometry c.args.reference.addr) c.block_of-block.result
    c.requires.indexed refl c.block_of-block.ensures.value
    (set_within c.args.design.geometry c.args.reference.addr) c.requires.none

pub returns-then-not-allocates_line-clause-step : goal.returns-then-not-allocates_line-clause-step
returns-then-not-allocates_line-clause-step g c =
    passed_accesses c.args.design c.args.index.now c.args.dirty.now c.args.order.now
    c.args.reference
    (set_of c.args.design.geometry c.args.reference.addr)
    (block_of c.args.design.geometry c.args.reference.addr) c.requires.indexed refl
    refl
    (set_within c.args.design.geometry c.args.reference.addr) c.passing_outcome.result
    (held_nowhere c.args.design c.args.index.now c.args.dirty.now c.args.order.now
    c.args.reference (set_of c.args.design.geometry c.args.reference.addr)
    (block_of c.args.design.geometry c.args.reference.addr)
    c.requires.indexed refl refl (set_within c.args.design.geometry c.args.reference.addr)
    c.requires.none)
    (sym c.allocates_line.ensures ∙ c.if-not-allocates_line.true) c.passing_outcome.ensures
    (g.P.Replacement.policy c.args.policy.now) (g.P.Replacement.words c.args.policy.now)

pub returns-then-not-allocates_line-clause-dirty :
    goal.returns-then-not-allocates_line-clause-dirty
returns-then-not-allocates_line-clause-dirty g c =
    passed_dirties c.args.design c.args.index.now c.args.dirty.now c.args.order.now c.args.reference
    (set_of c.args.design.geometry c.args.reference.addr)
    (block_of c.args.design.geometry c.args.reference.addr) c.requires.indexed refl
    refl
    (set_within c.args.design.geometry c.args.reference.addr) c.passing_outcome.result
    (held_nowhere c.args.design c.args.index.now c.args.dirty.now c.args.order.now
    c.args.reference (set_of c.args.design.geometry c.args.reference.addr)
    (block_of c.args.design.geometry c.args.reference.addr)
    c.requires.indexed refl refl (set_within c.args.design.geometry c.args.reference.addr)
    c.requires.none)
    (sym c.allocates_line.ensures ∙ c.if-not-allocates_line.true) c.passing_outcome.ensures

pub returns-clause-step : goal.returns-clause-step
returns-clause-step g c =
    placed_accesses c.args.design c.args.index.now c.args.dirty.now c.args.order.now
    c.args.reference
    (set_of c.args.design.geometry c.args.reference.addr)
    c.block_of-block.result c.requires.indexed refl
    c.block_of-block.ensures.value
    (set_within c.args.design.geometry c.args.reference.addr) c.placing_outcome.result
    (held_nowhere c.args.design c.args.index.now c.args.dirty.now c.args.order.now
    c.args.reference (set_of c.args.design.geometry c.args.reference.addr)
    c.block_of-block.result
    c.requires.indexed refl c.block_of-block.ensures.value
    (set_within c.args.design.geometry c.args.reference.addr)
    c.requires.none) c.dirties_line-mark.result c.dirties_line-mark.ensures
    (sym c.allocates_line.ensures ∙ c.if-not-allocates_line.false)
    (g.P.Replacement.policy c.args.policy.now)
    (g.P.Replacement.policy c.place-evicted.new.policy) (g.P.Replacement.words c.args.policy.now)
    (g.P.Replacement.words c.place-evicted.new.policy)
    (sets_at c.place-evicted.new.index c.place-evicted.new.dirty c.place-evicted.new.order.sets)
    (set_at c.place-evicted.new.index c.place-evicted.new.dirty
    (order_of c.place-evicted.new.order.sets
    (set_of_block c.args.design.geometry c.block_of-block.result)))
    c.place-evicted.result (rw c.requires.policy c.place-evicted.ensures.taken)
    c.place-evicted.ensures.sets c.place-evicted.ensures.numbers c.placing_outcome.ensures
    c.place-evicted.new.order c.place-evicted.new.index c.place-evicted.new.dirty refl
    c.place-evicted.ensures.policy

pub returns-clause-dirty : goal.returns-clause-dirty
returns-clause-dirty g c =
    placed_dirties c.args.design c.args.index.now c.args.dirty.now c.args.order.now c.args.reference
    (set_of c.args.design.geometry c.args.reference.addr)
    c.block_of-block.result c.requires.indexed refl
    c.block_of-block.ensures.value
    (set_within c.args.design.geometry c.args.reference.addr) c.placing_outcome.result
    (held_nowhere c.args.design c.args.index.now c.args.dirty.now c.args.order.now
    c.args.reference (set_of c.args.design.geometry c.args.reference.addr)
    c.block_of-block.result
    c.requires.indexed refl c.block_of-block.ensures.value
    (set_within c.args.design.geometry c.args.reference.addr)
    c.requires.none) c.dirties_line-mark.result c.dirties_line-mark.ensures
    (sym c.allocates_line.ensures ∙ c.if-not-allocates_line.false)
    (g.P.Replacement.policy c.args.policy.now)
    (g.P.Replacement.policy c.place-evicted.new.policy) (g.P.Replacement.words c.args.policy.now)
    (g.P.Replacement.words c.place-evicted.new.policy)
    (sets_at c.place-evicted.new.index c.place-evicted.new.dirty c.place-evicted.new.order.sets)
    (set_at c.place-evicted.new.index c.place-evicted.new.dirty
    (order_of c.place-evicted.new.order.sets
    (set_of_block c.args.design.geometry c.block_of-block.result)))
    c.place-evicted.result (rw c.requires.policy c.place-evicted.ensures.taken)
    c.place-evicted.ensures.sets c.place-evicted.ensures.numbers c.placing_outcome.ensures
