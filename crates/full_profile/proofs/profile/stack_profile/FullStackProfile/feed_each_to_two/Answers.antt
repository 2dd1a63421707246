-- Each reference is fed to the first, to both, or to none.
use Rattle.std.proofs.Common.{◌<◌, ◌+◌, ◌∙◌, cond, sym, ap, length, arith}
use Rattle.profile_core.specs.profile.State.{fed_of}
use Rattle.profile_core.proofs.profile.Batches.{both_passed, next_passed, both_left}
use Rattle.full_profile.proofs.profile.stack_profile.FullStackProfile.feed_each_to_two.Goals as goal
use Rattle.full_profile.proofs.profile.stack_profile.FullStackProfile.feed_each_to_two.Goals.{
  else-not-feed_unless_settled,
  then-not-feed_unless_settled+then-not-feed_unless_settled-2,
  then-not-feed_unless_settled+else-not-feed_unless_settled-2,
}

pub loop-at-preserved : goal.loop-at-preserved
loop-at-preserved g c =
    let so_far = c.loop-at.invariant in
    let fed = c.feed_unless_settled.ensures in
    let inside : c.loop-at.at < length c.args.refs.now = omega (
      arith,
      c.loop-at-test.true,
      c.loop-at.auto.at-end,
      so_far.before.same_length,
    ) in
    elim c.if-not-feed_unless_settled.branch [
      | then-not-feed_unless_settled+then-not-feed_unless_settled-2 w ↦
          let second = w.feed_unless_settled-then-not-feed_unless_settled.ensures in
          let left = w.if-not-feed_unless_settled.true in
          let left' = w.if-not-feed_unless_settled-2.true in
          rw (w.refs-is, w.left-is, w.next-is) (both_left so_far inside _ _ fed.step
          (sym fed.settled ∙ left)
          (fed.more ∙ ap (λ b. fed_of c.loop-at.self.plain + cond b 0 1) left) _
          second.step (sym second.settled ∙ left')
          (second.more ∙ ap (λ b. fed_of c.loop-at.next.plain + cond b 0 1) left'))
      | then-not-feed_unless_settled+else-not-feed_unless_settled-2 w ↦
          let second = w.feed_unless_settled-then-not-feed_unless_settled.ensures in
          let left = w.if-not-feed_unless_settled.true in
          let settled = w.if-not-feed_unless_settled-2.false in
          rw (w.refs-is, w.left-is, w.next-is) (next_passed so_far inside _ _ fed.step
          (sym fed.settled ∙ left)
          (fed.more ∙ ap (λ b. fed_of c.loop-at.self.plain + cond b 0 1) left) _
          second.step (sym second.settled ∙ settled)
          (second.more ∙ ap (λ b. fed_of c.loop-at.next.plain + cond b 0 1) settled))
      | else-not-feed_unless_settled w ↦
          let settled = w.if-not-feed_unless_settled.false in
          rw (w.refs-is, w.left-is, w.next-is) (both_passed so_far inside _ _ fed.step
          (sym fed.settled ∙ settled)
          (fed.more ∙ ap (λ b. fed_of c.loop-at.self.plain + cond b 0 1) settled))
    ]
