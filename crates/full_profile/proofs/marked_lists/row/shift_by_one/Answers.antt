-- Each block goes one index on, until the one that is looked for is found.
use Rattle.std.proofs.Common.{◌≡◌, length, arith, eq-eqb}
use Rattle.std.proofs.lemmas.Bool.{ne_eqb}
use Rattle.full_profile.proofs.marked_lists.Shifting.{passed_next, passed_found, found_blocks}
use Rattle.full_profile.proofs.marked_lists.Shifting.{found_cleans, passed_all, all_blocks}
use Rattle.full_profile.proofs.marked_lists.Shifting.{all_cleans}
use Rattle.full_profile.proofs.marked_lists.row.shift_by_one.Goals as goal
use Rattle.full_profile.proofs.marked_lists.row.shift_by_one.Goals.{After-loop-index}

pub returns-then-carried-block-clause-shifted : goal.returns-then-carried-block-clause-shifted
returns-then-carried-block-clause-shifted c =
    passed_found c.loop-index.invariant c.loop-index-test.true c.swap.ensures.x_after
    c.swap-in-loop-index.ensures.x_after c.swap.ensures.y_after c.swap-in-loop-index.ensures.y_after
    (eq-eqb _ _ c.if-carried-block.true)

pub returns-then-carried-block-clause-blocks : goal.returns-then-carried-block-clause-blocks
returns-then-carried-block-clause-blocks c =
    found_blocks c.loop-index.invariant c.loop-index-test.true c.swap.ensures.x_after
    c.swap-in-loop-index.ensures.x_after c.swap.ensures.y_after c.swap-in-loop-index.ensures.y_after
    (eq-eqb _ _ c.if-carried-block.true)

pub returns-then-carried-block-clause-cleans : goal.returns-then-carried-block-clause-cleans
returns-then-carried-block-clause-cleans c =
    found_cleans c.loop-index.invariant c.loop-index-test.true c.swap.ensures.x_after
    c.swap-in-loop-index.ensures.x_after c.swap.ensures.y_after c.swap-in-loop-index.ensures.y_after
    (eq-eqb _ _ c.if-carried-block.true)

pub loop-index-preserved : goal.loop-index-preserved
loop-index-preserved c =
    passed_next c.loop-index.invariant c.loop-index-test.true c.swap.ensures.x_after
    c.swap-in-loop-index.ensures.x_after c.swap.ensures.y_after c.swap-in-loop-index.ensures.y_after
    (ne_eqb _ _ c.if-carried-block.false)

at_end : (c : After-loop-index) → c.loop-index.index ≡ length c.args.blocks.now
at_end c = omega arith

pub returns-clause-shifted : goal.returns-clause-shifted
returns-clause-shifted c =
    let at = (goal.at.returns-clause-shifted c).After-loop-index in
    passed_all c.loop-index.invariant (at_end at)

pub returns-clause-blocks : goal.returns-clause-blocks
returns-clause-blocks c =
    let at = (goal.at.returns-clause-blocks c).After-loop-index in
    all_blocks c.loop-index.invariant (at_end at)

pub returns-clause-cleans : goal.returns-clause-cleans
returns-clause-cleans c =
    let at = (goal.at.returns-clause-cleans c).After-loop-index in
    all_cleans c.loop-index.invariant (at_end at)
