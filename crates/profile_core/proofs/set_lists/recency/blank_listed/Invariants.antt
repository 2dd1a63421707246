-- All fronts and lengths that are not 0 are those of listed sets still to come.
use Rattle.std.proofs.Common.{drop}
use Rattle.cache_core.specs.Touched.{ListsFilled}
use Rattle.profile_core.proofs.set_lists.recency.blank_listed.Given as goal

abbrev pub invariant-loop-set : goal.invariant-loop-set
invariant-loop-set l = record {
  fronts : ListsFilled (drop l.set-index l.sets) l.fronts;
  lens : ListsFilled (drop l.set-index l.sets) l.lens;
}
