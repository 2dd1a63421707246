-- A settled reference is counted at once.
use Rattle.std.proofs.Common.{◌∙◌, ap, sym, cond}
use Rattle.full_profile.specs.State.{after_full_reference}
use Rattle.full_profile.specs.Batches.{after_settled}
use Rattle.full_profile.proofs.profile.stack_profile.FullStackProfile.feed.Goals as goal

pub returns-then-feed_unless_settled-clause-step
    : goal.returns-then-feed_unless_settled-clause-step
returns-then-feed_unless_settled-clause-step g c =
    let fed = c.feed_unless_settled.ensures in
    let settled = sym fed.settled ∙ c.if-feed_unless_settled.true in
    c.count_settled.ensures.step ∙ ap (after_settled 1) (fed.step
    ∙ ap (λ b. cond b c.args.self.now (after_full_reference c.args.self.now c.args.r)) settled)
    ∙ sym (fed.counts settled)
