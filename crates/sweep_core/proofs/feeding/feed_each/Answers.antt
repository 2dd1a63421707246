-- Each profile in turn is fed what serves for it, two together where the first leads the second.
use Rattle.std.proofs.Common.{◌≡◌, ◌+◌, ◌<◌, ◌≤◌, ◌∙◌, sym, subst, ap, arith, length, get_or, take}
use Rattle.std.proofs.Common.{drop, min, length-append, ℕ, List, refl}
use Rattle.std.specs.List.{AllByRecursion as Each}
use Rattle.std.proofs.lemmas.List.{length-take, length-drop, get_or_default}
use Rattle.profile_core.specs.declared.profile.TheConstants.{MAX_REFERENCES}
use Rattle.profile_core.specs.profile.State.{fed_of}
use Rattle.sweep_core.specs.declared.profiles.PairProfile.{PairProfile}
use Rattle.sweep_core.proofs.FeedingEach.{Serves, followers-within, each_drop, each_take}
use Rattle.sweep_core.proofs.FeedingEach.{serves_led, serves_all, of_equal, fed_both, unfed}
use Rattle.sweep_core.proofs.FeedingEach.{IsFedUpTo, each_rest, next-within, given_serves}
use Rattle.sweep_core.proofs.FeedingEach.{given_within, given_reaches}
use Rattle.sweep_core.proofs.Lists.{Each-weaker}
use Rattle.sweep_core.proofs.feeding.feed_each.Goals as goal
use Rattle.sweep_core.proofs.feeding.feed_each.Goals.{
  then-at-end+then-followers-later+then-not-next_leads_rest,
  else-at-end+then-at-until,
  else-at-end+else-at-until,
}

-- how many followers the profile at the index has, whatever stands for one that is not there
followers_is : (xs : List PairProfile) (at : ℕ) (d e : PairProfile) → at < length xs →
    (get_or xs at d).followers ≡ (get_or xs at e).followers
followers_is xs at d e lt = ap (λ y. y.followers) (get_or_default xs at d e lt)

pub give-given-requires-clause-small : goal.give-given-requires-clause-small
give-given-requires-clause-small c =
    let within = followers-within c.loop-at.invariant.1 (omega arith) c.requires.led
    c.index-profiles-at.result c.index-profiles-at.is in
    omega (arith, within)

pub bounds-profiles-at-then-at-until : goal.bounds-profiles-at-then-at-until
bounds-profiles-at-then-at-until c =
    let within = followers-within c.loop-at.invariant.1 (omega arith) c.requires.led
    c.index-profiles-at.result c.index-profiles-at.is in
    omega (
      arith,
      within,
      given_within c.give-given.ensures,
      c.if-at-until.true,
      c.loop-at.auto.profiles,
    )

pub bounds-profiles-at-then-at-until-2 : goal.bounds-profiles-at-then-at-until-2
bounds-profiles-at-then-at-until-2 c =
    let within = followers-within c.loop-at.invariant.1 (omega arith) c.requires.led
    c.index-profiles-at.result c.index-profiles-at.is in
    omega (
      arith,
      within,
      given_within c.give-given.ensures,
      c.if-at-until.true,
      c.loop-at.auto.profiles,
    )

pub overflow_add-at-then-at-until-3 : goal.overflow_add-at-then-at-until-3
overflow_add-at-then-at-until-3 c =
    let within = followers-within c.loop-at.invariant.1 (omega arith) c.requires.led
    c.index-profiles-at.result c.index-profiles-at.is in
    let inside : c.loop-at.at + 1 < length c.args.profiles.now =
    omega (arith, within, given_within c.give-given.ensures, c.if-at-until.true) in
    omega (
      arith,
      next-within c.loop-at.invariant.1 c.index-profiles-at-then-at-until.result inside
          c.requires.led,
    )

pub feed_two-led_count-requires-clause-within : goal.feed_two-led_count-requires-clause-within
feed_two-led_count-requires-clause-within c =
    let within = followers-within c.loop-at.invariant.1 (omega arith) c.requires.led
    c.index-profiles-at.result c.index-profiles-at.is in
    omega (
      arith,
      within,
      given_within c.give-given.ensures,
      c.if-at-until.true,
      c.loop-at.auto.profiles,
    )

pub feed_two-led_count-requires-clause-few : goal.feed_two-led_count-requires-clause-few
feed_two-led_count-requires-clause-few c =
    let so_far = given_serves c.loop-at.invariant.1 c.give-given.ensures in
    let given = c.give-given.result.0 in
    let few = each_rest (λ x. fed_of x.profile + length c.args.addrs.now ≤ MAX_REFERENCES)
    c.loop-at.at c.args.profiles.now c.requires.few in
    let short = length-take given c.give-given.new.led in
    Each-weaker (λ x. fed_of x.profile + length c.args.addrs.now ≤ MAX_REFERENCES)
    (λ x. fed_of x.profile + length (take given c.give-given.new.led) ≤ MAX_REFERENCES)
    (λ x le. omega (arith, le, short, so_far.led_most)) (drop c.loop-at.at c.loop-at.profiles)
    (subst (Each (λ x. fed_of x.profile + length c.args.addrs.now ≤ MAX_REFERENCES))
    (sym (unfed so_far c.loop-at.invariant.0)) few)

pub loop-at-preserved : goal.loop-at-preserved
loop-at-preserved c =
    let so_far = c.loop-at.invariant.1 in
    let at = c.loop-at.at in
    let now = c.loop-at.profiles in
    let old = c.args.profiles.now in
    let batch = c.args.addrs.now in
    let inside : at < length old = omega arith in
    let here : at < length now = omega arith in
    elim c.if-at-end.branch [
      | else-at-end+then-at-until w ↦
          let fed = w.feed_two-led_count in
          let t = fed.ensures.fed in
          let given = w.give-given.result.0 in
          let led = given_serves so_far w.give-given.ensures in
          let within = followers-within so_far inside c.requires.led
          c.index-profiles-at.result c.index-profiles-at.is in
          let until = given_within w.give-given.ensures in
          let ends : at + 1 < length old = omega (arith, within, until, w.if-at-until.true) in
          let there : at + 1 < length now = omega (arith, ends, c.loop-at.auto.profiles) in
          let second = ap (λ y. y.followers) t.second_is ∙ followers_is now (at + 1) t.second
          w.index-profiles-at-then-at-until.result there in (
            omega (arith, w.at-is, ends),
            subst (λ n. IsFedUpTo (n + 1) c.if-at-end.count c.if-at-end.led_count c.if-at-end.end
                batch c.if-at-end.addrs c.if-at-end.led old c.if-at-end.profiles) (sym w.at-is)
                (of_equal w.count-is w.led_count-is (w.end-is ∙ w.min-end.ensures)
                w.addrs-is w.led-is w.profiles-is
                (fed_both led ends c.requires.led fed.new.profiles (take fed.result
                fed.new.addrs) t w.give-given.result.1
                (min w.give-given.result.1 (at + 1 + 1 + (get_or now (at + 1)
                w.index-profiles-at-then-at-until.result).followers))
                (omega (arith, w.if-at-until.true)) (omega arith)
                (omega (
                  arith,
                  until,
                  followers_is now at t.first c.index-profiles-at.result here,
                )) (omega (arith, w.if-at-until.true)) (omega arith) (omega (arith, second))
                fed.new.addrs (drop given w.give-given.new.led) fed.result refl
                fed.ensures.within (omega (arith, fed.ensures.length)))),
          )
      | else-at-end+else-at-until w ↦
          let d = w.index-profiles-at-else-at-until.result in
          let count = w.give-given.result.0 in
          let given = take count w.give-given.new.led in
          let led = given_serves so_far w.give-given.ensures in
          let fed = w.feed_batch-led_count in
          let served = each_take (Serves given batch) old at w.give-given.result.1 d inside
          (given_reaches w.give-given.ensures) led.led_serves in (
            omega (arith, w.at-is, inside),
            subst (λ n. IsFedUpTo (n + 1) c.if-at-end.count c.if-at-end.led_count c.if-at-end.end
                batch c.if-at-end.addrs c.if-at-end.led old c.if-at-end.profiles) (sym w.at-is)
                (of_equal w.count-is w.led_count-is w.end-is w.addrs-is w.led-is
                w.profiles-is
                (serves_led led inside c.requires.led d w.index-profiles-at-else-at-until.is
                given served.0 fed.new.self
                fed.ensures.step fed.new.addrs (drop count w.give-given.new.led) fed.result
                fed.ensures.fed fed.ensures.within
                (omega (
                  arith,
                  fed.ensures.within,
                  fed.ensures.length,
                  length-take count w.give-given.new.led,
                  led.led_most,
                )) w.give-given.result.1
                (omega (
                  arith,
                  given_within w.give-given.ensures,
                  followers_is now at d c.index-profiles-at.result here,
                ))
                served.1)),
          )
      | then-at-end+then-followers-later+then-not-next_leads_rest w ↦
          let d = w.index-profiles-at-then-not-next_leads_rest.result in
          let given = take c.loop-at.count c.loop-at.addrs in
          let fed = w.feed_batch-count in
          let rest = drop c.loop-at.count c.loop-at.addrs in
          let served = each_drop (Serves given batch) old at d inside so_far.serves in
          let few = length-take c.loop-at.count c.loop-at.addrs in (
            omega (arith, w.at-is, inside),
            subst (λ n. IsFedUpTo (n + 1) c.if-at-end.count c.if-at-end.led_count c.if-at-end.end
                batch c.if-at-end.addrs c.if-at-end.led old c.if-at-end.profiles) (sym w.at-is)
                (of_equal w.count-is w.led_count-is w.end-is w.addrs-is w.led-is w.profiles-is
                (serves_all so_far inside c.requires.led d
                w.index-profiles-at-then-not-next_leads_rest.is given served.0
                fed.new.self
                fed.ensures.step fed.new.addrs rest fed.result
                fed.ensures.fed fed.ensures.within
                (omega (arith, fed.ensures.within, fed.ensures.length, few, so_far.most))
                (omega (arith, w.if-at-end.true))
                (omega (
                  arith,
                  w.if-followers-later.true,
                  c.loop-at.auto.profiles,
                  followers_is now at d c.index-profiles-at.result here,
                ))
                (omega (
                  arith,
                  length-append fed.new.addrs rest,
                  fed.ensures.length,
                  few,
                  length-drop c.loop-at.count c.loop-at.addrs,
                  so_far.most,
                  so_far.same_length,
                ))
                served.1)),
          )
    ]
