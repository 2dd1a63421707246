-- An item with references of the kind waits, or is fed with the batch that it fills.
use Rattle.std.proofs.Common.{◌≤◌, ◌∙◌, sym, ap, subst, arith}
use Rattle.sweep_core.specs.internal.Feeding.{profiles_with_fronts, profiles_after_batch}
use Rattle.sweep_core.specs.internal.Waiting.{AreWaiting, AreNoFiner, kept_count}
use Rattle.sweep_core.proofs.Waiting.{waiting-few, waiting-led, waiting-fed, fed-nil}
use Rattle.sweep_core.proofs.Repeated.{no-finer-fed}
use Rattle.sweep_core.proofs.Items.{item-left, pushed-waits, pushed-caught}
use Rattle.sweep_core.proofs.pass.feed_item.Goals as goal

pub feed-requires-clause-few : goal.feed-requires-clause-few
feed-requires-clause-few c =
    let old = c.args.batch.now in let b = c.push.new.self in let xs = c.args.profiles.now in
    let finest = c.requires.finest in let pushed = c.push.ensures in
    waiting-few b.added b.waiting xs
    (pushed-waits finest.0 xs finest.2 old.added old.waiting c.requires.waiting c.args.item.addr
    c.args.count b pushed.added (pushed.waiting finest.0 finest.1) c.if-count-gt0.true)
    (omega (arith, c.requires.few, pushed.added))

pub feed-requires-clause-led : goal.feed-requires-clause-led
feed-requires-clause-led c = waiting-led c.args.batch.now.added c.args.batch.now.waiting
    c.args.profiles.now c.requires.waiting

pub returns-then-is_full-clause-caught : goal.returns-then-is_full-clause-caught
returns-then-is_full-clause-caught c = λ kind counted.
    let old = c.args.batch.now in let b = c.push.new.self in let xs = c.args.profiles.now in
    let finest = c.requires.finest in let pushed = c.push.ensures in let fed = c.feed.ensures in
    let ys = c.feed.new.profiles in
    (λ i. profiles_with_fronts (fed.same i) (profiles_after_batch (fed.none i) ys))
    ∙ ap (profiles_with_fronts b.added) (fed-nil ys ∙ fed.fed)
    ∙ pushed-caught finest.0 xs finest.2 old.added old.waiting c.requires.waiting c.args.item.addr
    c.args.count b pushed.added (pushed.waiting finest.0 finest.1) c.if-count-gt0.true kind
    c.args.item.op counted

pub returns-then-is_full-clause-waiting : goal.returns-then-is_full-clause-waiting
returns-then-is_full-clause-waiting c =
    let old = c.args.batch.now in let b = c.push.new.self in let xs = c.args.profiles.now in
    let finest = c.requires.finest in let pushed = c.push.ensures in let fed = c.feed.ensures in
    let ys = c.feed.new.profiles in
    subst (λ n. AreWaiting n c.feed.new.self.waiting ys) (sym fed.same)
    (subst (λ l. AreWaiting b.added l ys) (sym fed.none)
    (waiting-fed b.added b.waiting xs
    (pushed-waits finest.0 xs finest.2 old.added old.waiting c.requires.waiting c.args.item.addr
    c.args.count b pushed.added (pushed.waiting finest.0 finest.1) c.if-count-gt0.true) ys fed.fed))

pub returns-then-is_full-clause-finest : goal.returns-then-is_full-clause-finest
returns-then-is_full-clause-finest c =
    let finest = c.requires.finest in (
      finest.0,
      finest.1,
      subst (AreNoFiner finest.0) (sym c.feed.ensures.fed)
          (no-finer-fed finest.0 c.push.new.self.waiting c.args.profiles.now finest.2),
    )

pub returns-else-is_full-clause-caught : goal.returns-else-is_full-clause-caught
returns-else-is_full-clause-caught c = λ kind counted.
    let old = c.args.batch.now in let b = c.push.new.self in let xs = c.args.profiles.now in
    let finest = c.requires.finest in let pushed = c.push.ensures in
    pushed-caught finest.0 xs finest.2 old.added old.waiting c.requires.waiting c.args.item.addr
    c.args.count b pushed.added (pushed.waiting finest.0 finest.1) c.if-count-gt0.true kind
    c.args.item.op counted

pub returns-else-is_full-clause-waiting : goal.returns-else-is_full-clause-waiting
returns-else-is_full-clause-waiting c =
    let old = c.args.batch.now in let b = c.push.new.self in let xs = c.args.profiles.now in
    let finest = c.requires.finest in let pushed = c.push.ensures in
    pushed-waits finest.0 xs finest.2 old.added old.waiting c.requires.waiting c.args.item.addr
    c.args.count b pushed.added (pushed.waiting finest.0 finest.1) c.if-count-gt0.true

pub returns-else-count-gt0-clause-caught : goal.returns-else-count-gt0-clause-caught
returns-else-count-gt0-clause-caught c = λ kind counted.
    let old = c.args.batch.now in
    let none : kept_count kind c.args.item.op ≤ 0 = omega (arith, counted, c.if-count-gt0.false) in
    item-left kind c.args.item.op c.args.item.addr
    (profiles_with_fronts old.added (profiles_after_batch old.waiting c.args.profiles.now)) none
