use Rattle.std.proofs.Common.{ℕ, length}
use Rattle.block_index.specs.Chains.{IsOnChain, IsSought}
use Rattle.block_index.proofs.chains.find_on_chain.Given as goal

abbrev pub invariant-loop-step : goal.invariant-loop-step
invariant-loop-step l =
    IsOnChain l.links (length l.blocks) l.first l.node
    × ((s : ℕ) → IsSought l.links l.blocks l.first l.from l.end l.block s →
    IsOnChain l.links (length l.blocks) l.node s)
