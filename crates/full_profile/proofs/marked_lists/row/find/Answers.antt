-- The first block that is the one that is looked for, or none.
use Rattle.std.proofs.Common.{arith, sym}
use Rattle.profile_core.proofs.Shifting.{index_found, index_end}
use Rattle.full_profile.proofs.marked_lists.row.find.Goals as goal

pub returns-then-blocks-index : goal.returns-then-blocks-index
returns-then-blocks-index c =
    sym (index_found c.args.block c.loop-index.index c.args.blocks.now
    (omega (arith, c.loop-index-test.true, c.loop-index.auto.index-end, c.loop-at-test.true))
    c.loop-index.invariant c.if-blocks-index.true)

pub returns-then-blocks-index-2 : goal.returns-then-blocks-index-2
returns-then-blocks-index-2 c =
    sym (index_found c.args.block c.loop-index-2.index c.args.blocks.now c.loop-index-2-test.true
    c.loop-index-2.invariant c.if-blocks-index-2.true)

pub returns : goal.returns
returns c =
    sym (index_end c.args.block c.args.blocks.now
    (λ k lt. c.loop-index-2.invariant k (omega (arith, lt, c.loop-index-2-test.false))))
