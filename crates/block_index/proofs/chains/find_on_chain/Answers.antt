use Rattle.std.proofs.Common.{ℕ, ◌<◌, length, get_or, arith, ◌∙◌, ap}
use Rattle.block_index.proofs.ChainLemmas.{on_chain_more, on_chain_past, on_chain_end}
use Rattle.block_index.proofs.chains.find_on_chain.Goals as goal

pub returns-then-node-blocks : goal.returns-then-node-blocks
returns-then-node-blocks c = λ s sought.
    let last = on_chain_end c.args.links.now (length c.args.blocks.now) c.loop-step.node s
    c.if-node-blocks.true (c.loop-step.invariant.1 s sought) in
    omega (arith, last, c.if-node-blocks.true, sought.before_end, c.requires.end)

pub loop-step-preserved : goal.loop-step-preserved
loop-step-preserved c =
    let links = c.args.links.now in
    let slots : ℕ = length c.args.blocks.now in
    let node : ℕ = c.loop-step.node in
    let inside : node < slots = omega (arith, c.if-node-blocks.false) in (
      on_chain_more links slots c.args.first node inside c.loop-step.invariant.0,
      λ s sought. on_chain_past links slots node s
          (λ same. c.if-blocks-node.false
          (ap (λ i. get_or c.args.blocks.now i 0) same ∙ sought.block))
          (c.loop-step.invariant.1 s sought),
    )
