-- A reference that is fed is one more.
use Rattle.std.proofs.Common.{◌+◌, ◌∙◌, cond, sym, ap}
use Rattle.profile_core.specs.profile.State.{fed_of}
use Rattle.profile_core.proofs.profile.Fronts.{unless_front_fed}
use Rattle.profile_core.proofs.profile.Profile.feed_unless_front.Goals as goal

pub returns-clause-more : goal.returns-clause-more
returns-clause-more c =
    let v = c.args.self.now in let fed = c.feed_block_unless_front.ensures in
    ap fed_of fed.step ∙ unless_front_fed v c.block_of-block.result c.geometry.ensures.fit
    ∙ ap (λ b. fed_of v + cond b 0 1) (sym fed.front)
