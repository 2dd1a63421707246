-- Each reference is fed, or left out if it finds its block in front.
use Rattle.std.proofs.Common.{◌<◌, ◌+◌, ◌∙◌, cond, sym, ap, length, arith}
use Rattle.profile_core.specs.profile.State.{fed_of}
use Rattle.profile_core.proofs.profile.Batches.{fed_passed, fed_left}
use Rattle.profile_core.proofs.profile.stack_profile.StackProfile.feed_each.Goals as goal
use Rattle.profile_core.proofs.profile.stack_profile.StackProfile.feed_each.Goals.{
  then-not-feed_unless_front,
  else-not-feed_unless_front,
}

pub loop-at-preserved : goal.loop-at-preserved
loop-at-preserved g c =
    let so_far = c.loop-at.invariant in
    let fed = c.feed_unless_front.ensures in
    let inside : c.loop-at.at < length c.args.addrs.now = omega (
      arith,
      c.loop-at-test.true,
      c.loop-at.auto.at-end,
      so_far.before.same_length,
    ) in
    elim c.if-not-feed_unless_front.branch [
      | then-not-feed_unless_front w ↦
          let left = w.if-not-feed_unless_front.true in
          rw (w.addrs-is, w.fed-is) (fed_left so_far inside _ _ fed.step (sym fed.front ∙ left)
          (fed.more ∙ ap (λ b. fed_of c.loop-at.self + cond b 0 1) left))
      | else-not-feed_unless_front w ↦
          let found = w.if-not-feed_unless_front.false in
          rw (w.addrs-is, w.fed-is) (fed_passed so_far inside _ _ fed.step (sym fed.front ∙ found)
          (fed.more ∙ ap (λ b. fed_of c.loop-at.self + cond b 0 1) found))
    ]
