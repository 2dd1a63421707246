-- The sets that are still to come are all that have a slot, and what was dirty is counted.
use Rattle.std.proofs.Common.{drop}
use Rattle.cache_core.specs.internal.cache.Indexed.{counts_of}
use Rattle.cache_core.specs.Touched.{ListsFilled}
use Rattle.cache_core.proofs.cache.indexed.IndexedEmptying.{Emptying}
use Rattle.cache_core.proofs.cache.indexed.emptying.empty_listed.Given as goal

abbrev pub invariant-loop-number : goal.invariant-loop-number
invariant-loop-number l = Emptying l.geometry l.dirty l.initial.index l.initial.order l.index
    l.order l.count × ListsFilled (drop l.number-index l.sets) (counts_of l.order.sets)
