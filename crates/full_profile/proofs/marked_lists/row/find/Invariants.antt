-- No block before the index is the one that is looked for.
use Rattle.std.proofs.Common.{◌≡◌, ℕ, ◌-◌, ◌<◌, ◌≤◌, false, eqb, List, length, get_or}
use Rattle.full_profile.proofs.marked_lists.row.find.Given as goal

abbrev NoneBefore : ℕ → List ℕ → ℕ → Type 0
NoneBefore block blocks at = (k : ℕ) → k < at → eqb (get_or blocks k 0) block ≡ false

abbrev pub invariant-loop-at : goal.invariant-loop-at
invariant-loop-at l = (l.at ≤ length l.blocks) × NoneBefore l.block l.blocks l.at

abbrev pub decreases-loop-at : goal.decreases-loop-at
decreases-loop-at l = length l.blocks - l.at

abbrev pub invariant-loop-index : goal.invariant-loop-index
invariant-loop-index l = NoneBefore l.fn.block l.fn.blocks l.index

abbrev pub invariant-loop-index-2 : goal.invariant-loop-index-2
invariant-loop-index-2 l = NoneBefore l.fn.block l.fn.blocks l.index
