-- How far the listed sets are emptied.
use Rattle.std.proofs.Common.{drop}
use Rattle.cache_core.proofs.cache.walked.SlabFlush.{Emptying}
use Rattle.cache_core.proofs.cache.walked.emptying.empty_listed.Given as goal

abbrev pub invariant-loop-number : goal.invariant-loop-number
invariant-loop-number l = Emptying l.ways l.slots l.initial.filled (drop l.number-index l.listed)
    l.filled l.dirty
