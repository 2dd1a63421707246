-- The first profile that does not refine the one ends the count.
use Rattle.std.proofs.Common.{◌∙◌, arith}
use Rattle.sweep_core.proofs.Followers.{followers-is, followers-at}
use Rattle.sweep_core.proofs.feeding.count_followers.Goals as goal

pub returns-then-not-is_refined_by : goal.returns-then-not-is_refined_by
returns-then-not-is_refined_by c =
    c.loop-other.invariant.0
    ∙ followers-at c.args.profile.now.geometry c.args.others.now c.loop-other.other-index
    c.other-item.result c.is_refined_by.result (omega arith)
    c.loop-other.invariant.1 c.other-item.is c.is_refined_by.ensures c.if-not-is_refined_by.true

pub returns : goal.returns
returns c =
    c.loop-other.invariant.0
    ∙ followers-is c.args.profile.now.geometry c.args.others.now c.loop-other.other-index
    (omega arith) c.loop-other.invariant.1
    (λ d lt. absurd (omega (arith, lt)))
