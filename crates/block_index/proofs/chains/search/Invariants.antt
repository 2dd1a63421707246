use Rattle.std.proofs.Common.{◌≡◌, ℕ, ◌<◌, ◌≤◌, get_or}
use Rattle.block_index.proofs.chains.search.Given as goal

abbrev pub invariant-loop-slot : goal.invariant-loop-slot
invariant-loop-slot l = (s : ℕ) → l.fn.from ≤ s → s < l.slot → get_or l.blocks s 0 ≡ l.block → ⊥
