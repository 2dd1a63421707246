-- All lists that are not empty are those of listed sets still to come.
use Rattle.std.proofs.Common.{drop, map, length}
use Rattle.cache_core.specs.Touched.{ListsFilled}
use Rattle.full_profile.proofs.marked_lists.Emptying.{IsLeft}
use Rattle.full_profile.proofs.marked_lists.touched.empty_listed.Given as goal

abbrev pub invariant-loop-set : goal.invariant-loop-set
invariant-loop-set g l = record {
  left : IsLeft l.emptying (g.S.ListStore.view l.fn.lists) l.fn.copies
      (g.S.ListStore.view l.lists) l.copies;
  filled : ListsFilled (drop l.set-index l.sets) (map length (g.S.ListStore.view l.lists).blocks);
}
