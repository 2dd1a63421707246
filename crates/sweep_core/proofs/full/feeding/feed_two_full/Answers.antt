-- The profile at an index, and the next.
use Rattle.std.proofs.Common.{◌≡◌, ◌+◌, ◌∙◌, ◌++◌, List, get_or, set, sym, ap, arith}
use Rattle.std.proofs.lemmas.List.{get_or-take, get_or-drop}
use Rattle.full_profile.specs.State.{FullState}
use Rattle.full_profile.specs.Batches.{after_full_batch, unsettled}
use Rattle.sweep_core.specs.declared.full.profiles.FullPair.{FullPair}
use Rattle.sweep_core.specs.internal.Full.{full_pair_fed}
use Rattle.sweep_core.proofs.Lists.{set_neighbours}
use Rattle.sweep_core.proofs.full.feeding.feed_two_full.Goals as goal

abbrev with_state : FullPair → FullState → FullPair
with_state x v = record x { profile = v }

pub returns-clause-fed : goal.returns-clause-fed
returns-clause-fed c =
    let xs = c.args.profiles.now in
    let at = c.args.at in
    let refs = c.args.refs.now in
    let x = c.index-before-at.result in
    let y = c.index-after-0.result in
    let front = c.split_at_mut-before.result.0.now in
    let back = c.split_at_mut-before.result.1.now in
    let parts = c.split_at_mut-before.ensures in
    let p = c.feed_batch_with.new.self in
    let q = c.feed_batch_with.new.next in
    let x' = get_or front at x in
    let y' = get_or back 0 y in
    let first : x' ≡ x = sym c.index-before-at.is in
    let second : y' ≡ y = sym c.index-after-0.is in
    let p_is : p ≡ after_full_batch x.profile refs =
    c.feed_batch_with.ensures.step ∙ ap (λ z. after_full_batch z.profile refs) first in
    let q_is : q ≡ after_full_batch y.profile (unsettled x.profile refs) =
    c.feed_batch_with.ensures.next_step
    ∙ ap (λ w. after_full_batch w.profile (unsettled x'.profile refs)) second
    ∙ ap (λ z. after_full_batch y.profile (unsettled z.profile refs)) first in
    let joined : FullPair → FullPair → List FullPair =
    λ z w. set front at z ++ set back 0 w in
    record {
      first = x;
      second = y;
      first_is = c.index-before-at.is ∙ ap (λ l. get_or l at x) parts.front ∙
          get_or-take (at + 1) xs at x (omega arith);
      second_is = c.index-after-0.is ∙ ap (λ l. get_or l 0 y) parts.back ∙
          get_or-drop (at + 1) xs 0 y ∙ ap (λ n. get_or xs n y) {x = at + 1 + 0} {y = at + 1}
          (omega arith);
      fed =
          ap (λ z. joined (with_state z p) (with_state y' q)) first
          ∙ ap (λ w. joined (with_state x p) (with_state w q)) second
          ∙ ap (λ v. joined (with_state x v) (with_state y q)) p_is
          ∙ ap (λ v. joined (full_pair_fed refs x) (with_state y v)) q_is
          ∙ set_neighbours at xs front back (full_pair_fed refs x)
          (full_pair_fed (unsettled x.profile refs) y) (omega (arith, c.requires.within))
          parts.front parts.back;
      left_are = c.feed_batch_with.ensures.fed
          ∙ ap (λ w. unsettled w.profile (unsettled x'.profile refs)) second
          ∙ ap (λ z. unsettled y.profile (unsettled z.profile refs)) first;
    }
