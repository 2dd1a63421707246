-- Each reference is fed to the first, to both, or to none.
use Rattle.std.proofs.Common.{◌<◌, ◌+◌, ◌∙◌, cond, sym, ap, length, arith}
use Rattle.profile_core.specs.profile.State.{fed_of}
use Rattle.profile_core.proofs.profile.Batches.{both_passed, next_passed, both_left}
use Rattle.profile_core.proofs.profile.stack_profile.StackProfile.feed_each_to_two.Goals as goal
use Rattle.profile_core.proofs.profile.stack_profile.StackProfile.feed_each_to_two.Goals.{
  else-not-feed_unless_front,
  then-not-feed_unless_front+then-not-feed_unless_front-2,
  then-not-feed_unless_front+else-not-feed_unless_front-2,
}

pub loop-at-preserved : goal.loop-at-preserved
loop-at-preserved g c =
    let so_far = c.loop-at.invariant in
    let fed = c.feed_unless_front.ensures in
    let inside : c.loop-at.at < length c.args.addrs.now = omega (
      arith,
      c.loop-at-test.true,
      c.loop-at.auto.at-end,
      so_far.before.same_length,
    ) in
    elim c.if-not-feed_unless_front.branch [
      | then-not-feed_unless_front+then-not-feed_unless_front-2 w ↦
          let second = w.feed_unless_front-then-not-feed_unless_front.ensures in
          let left = w.if-not-feed_unless_front.true in
          let left' = w.if-not-feed_unless_front-2.true in
          rw (w.addrs-is, w.left-is, w.next-is) (both_left so_far inside _ _ fed.step
          (sym fed.front ∙ left) (fed.more ∙ ap (λ b. fed_of c.loop-at.self + cond b 0 1) left) _
          second.step (sym second.front ∙ left')
          (second.more ∙ ap (λ b. fed_of c.loop-at.next + cond b 0 1) left'))
      | then-not-feed_unless_front+else-not-feed_unless_front-2 w ↦
          let second = w.feed_unless_front-then-not-feed_unless_front.ensures in
          let left = w.if-not-feed_unless_front.true in
          let found = w.if-not-feed_unless_front-2.false in
          rw (w.addrs-is, w.left-is, w.next-is) (next_passed so_far inside _ _ fed.step
          (sym fed.front ∙ left) (fed.more ∙ ap (λ b. fed_of c.loop-at.self + cond b 0 1) left) _
          second.step (sym second.front ∙ found)
          (second.more ∙ ap (λ b. fed_of c.loop-at.next + cond b 0 1) found))
      | else-not-feed_unless_front w ↦
          let found = w.if-not-feed_unless_front.false in
          rw (w.addrs-is, w.left-is, w.next-is) (both_passed so_far inside _ _ fed.step
          (sym fed.front ∙ found) (fed.more ∙ ap (λ b. fed_of c.loop-at.self + cond b 0 1) found))
    ]
