-- The next profile is fed the reference, unless it finds its block in front: then its followers do
-- so too.
use Rattle.std.proofs.Common.{◌+◌, ◌≤◌, ◌∙◌, sym, arith, length, get_or}
use Rattle.sweep_core.proofs.FeedingOne.{fed-next, skip-next, followers-within}
use Rattle.sweep_core.proofs.feeding.feed_at_once.Goals as goal

pub overflow_add-next-then-feed_unless_front : goal.overflow_add-next-then-feed_unless_front
overflow_add-next-then-feed_unless_front c =
    let x = c.index-profiles-next.result in
    let within : c.loop-next.next + 1 + (get_or c.loop-next.profiles c.loop-next.next x).followers ≤
    length
    c.args.profiles.now =
    followers-within c.args.addr c.loop-next.next c.args.profiles.now c.loop-next.profiles x
    c.loop-next.invariant.1 (omega arith) c.requires.led in
    omega (arith, within)

pub loop-next-preserved-then-feed_unless_front : goal.loop-next-preserved-then-feed_unless_front
loop-next-preserved-then-feed_unless_front c =
    let x = c.index-profiles-next.result in
    let old = c.args.profiles.now in let now = c.loop-next.profiles in let i = c.loop-next.next in (
      followers-within c.args.addr i old now x c.loop-next.invariant.1 (omega arith) c.requires.led,
      skip-next c.args.addr i old now x c.loop-next.invariant.1 (omega arith) c.requires.led
          c.feed_unless_front.new.self c.index-profiles-next.is
          c.feed_unless_front.ensures.step (sym c.feed_unless_front.ensures.front ∙
          c.if-feed_unless_front.true),
    )

pub loop-next-preserved : goal.loop-next-preserved
loop-next-preserved c = (
  omega arith,
  fed-next c.args.addr c.loop-next.next c.args.profiles.now c.loop-next.profiles
      c.index-profiles-next.result c.loop-next.invariant.1 (omega arith)
      c.feed_unless_front.new.self c.index-profiles-next.is c.feed_unless_front.ensures.step,
)
