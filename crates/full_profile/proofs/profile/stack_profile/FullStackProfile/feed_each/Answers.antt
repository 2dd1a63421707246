-- Each reference is fed, or left out if it is settled.
use Rattle.std.proofs.Common.{◌<◌, ◌+◌, ◌∙◌, cond, sym, ap, length, arith}
use Rattle.profile_core.specs.profile.State.{fed_of}
use Rattle.profile_core.proofs.profile.Batches.{fed_passed, fed_left}
use Rattle.full_profile.proofs.profile.stack_profile.FullStackProfile.feed_each.Goals as goal
use Rattle.full_profile.proofs.profile.stack_profile.FullStackProfile.feed_each.Goals.{
  then-not-feed_unless_settled,
  else-not-feed_unless_settled,
}

pub loop-at-preserved : goal.loop-at-preserved
loop-at-preserved g c =
    let so_far = c.loop-at.invariant in
    let fed = c.feed_unless_settled.ensures in
    let inside : c.loop-at.at < length c.args.refs.now = omega (
      arith,
      c.loop-at-test.true,
      c.loop-at.auto.at-end,
      so_far.before.same_length,
    ) in
    elim c.if-not-feed_unless_settled.branch [
      | then-not-feed_unless_settled w ↦
          let left = w.if-not-feed_unless_settled.true in
          rw (w.refs-is, w.fed-is) (fed_left so_far inside _ _ fed.step
          (sym fed.settled ∙ left)
          (fed.more ∙ ap (λ b. fed_of c.loop-at.self.plain + cond b 0 1) left))
      | else-not-feed_unless_settled w ↦
          let settled = w.if-not-feed_unless_settled.false in
          rw (w.refs-is, w.fed-is) (fed_passed so_far inside _ _ fed.step
          (sym fed.settled ∙ settled)
          (fed.more ∙ ap (λ b. fed_of c.loop-at.self.plain + cond b 0 1) settled))
    ]
