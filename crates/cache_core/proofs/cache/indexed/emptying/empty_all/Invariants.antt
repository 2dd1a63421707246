-- The sets so far are emptied, and what was dirty in them is counted.
use Rattle.std.proofs.Common.{◌≡◌, ℕ, ◌<◌, length}
use Rattle.cache_core.specs.internal.cache.SlotOrder.{order_of}
use Rattle.cache_core.proofs.cache.indexed.IndexedEmptying.{Emptying}
use Rattle.cache_core.proofs.cache.indexed.emptying.empty_all.Given as goal

abbrev pub invariant-loop-set : goal.invariant-loop-set
invariant-loop-set l = Emptying l.geometry l.dirty l.initial.index l.initial.order l.index l.order
    l.count × ((k : ℕ) → k < l.set → length (order_of l.order.sets k) ≡ 0)
