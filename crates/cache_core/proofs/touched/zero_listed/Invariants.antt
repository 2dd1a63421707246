-- The sets that are still to come are all that have a count.
use Rattle.std.proofs.Common.{drop}
use Rattle.cache_core.specs.Touched.{ListsFilled}
use Rattle.cache_core.proofs.touched.zero_listed.Given as goal

abbrev pub invariant-loop-set : goal.invariant-loop-set
invariant-loop-set l = ListsFilled (drop l.set-index l.sets) l.counts
