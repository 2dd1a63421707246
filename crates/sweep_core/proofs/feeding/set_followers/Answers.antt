-- The profile at the index says how many followers it has.
use Rattle.std.proofs.Common.{◌∙◌, arith}
use Rattle.sweep_core.proofs.Followers.{followers-next, with_followers-whole, rest-followers}
use Rattle.sweep_core.proofs.feeding.set_followers.Goals as goal

pub loop-at-preserved : goal.loop-at-preserved
loop-at-preserved c =
    let now = c.loop-at.profiles in let i = c.loop-at.at in
    followers-next c.args.profiles.now now i c.count_followers-followers.result
    c.index-profiles-at.result c.loop-at.invariant (omega arith)
    (rest-followers now i c.count_followers-followers.result c.index-all-at.result
    c.index-profiles-at.result (omega arith) c.index-all-at.is
    c.count_followers-followers.ensures)

pub returns : goal.returns
returns c = c.loop-at.invariant ∙ with_followers-whole c.args.profiles.now c.loop-at.at
    (omega arith)
