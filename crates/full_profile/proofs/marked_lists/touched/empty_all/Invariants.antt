-- The lists of the sets that were passed are empty.
use Rattle.std.proofs.Common.{◌≡◌, ℕ, ◌<◌, []}
use Rattle.full_profile.specs.internal.Marked.{blocks_in}
use Rattle.full_profile.proofs.marked_lists.Emptying.{IsLeft}
use Rattle.full_profile.proofs.marked_lists.touched.empty_all.Given as goal

abbrev pub invariant-loop-set : goal.invariant-loop-set
invariant-loop-set g l = record {
  left : IsLeft l.emptying (g.S.ListStore.view l.fn.lists) l.fn.copies
      (g.S.ListStore.view l.lists) l.copies;
  passed : (k : ℕ) → k < l.set → blocks_in (g.S.ListStore.view l.lists) k ≡ [];
}
