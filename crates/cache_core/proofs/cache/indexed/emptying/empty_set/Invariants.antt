-- What was dirty in the slots that left is counted.
use Rattle.std.proofs.Common.{length}
use Rattle.cache_core.specs.internal.cache.SlotOrder.{order_of}
use Rattle.cache_core.proofs.cache.indexed.IndexedPopping.{Popping}
use Rattle.cache_core.proofs.cache.indexed.emptying.empty_set.Given as goal

abbrev pub invariant-loop-slot : goal.invariant-loop-slot
invariant-loop-slot l = Popping l.fn.geometry l.dirty l.set l.initial.index l.initial.order l.index
    l.order l.count

abbrev pub decreases-loop-slot : goal.decreases-loop-slot
decreases-loop-slot l = length (order_of l.order.sets l.set)
