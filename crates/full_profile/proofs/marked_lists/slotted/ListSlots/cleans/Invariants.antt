-- The clean depths before an index are those of the list.
use Rattle.std.proofs.Common.{◌≡◌, ℕ, ◌<◌, ◌∷◌, get_or, length}
use Rattle.full_profile.specs.internal.Slotted.{cleans_behind}
use Rattle.full_profile.proofs.marked_lists.slotted.ListSlots.cleans.Given as goal

abbrev pub invariant-loop-index : goal.invariant-loop-index
invariant-loop-index l = record {
  all : length l.cleans ≡ 16;
  same : (k : ℕ) → k < l.index →
      get_or l.cleans k 0 ≡ get_or (l.front_clean ∷ cleans_behind l.self) k 0;
}
