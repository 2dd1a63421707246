-- The profile at the index is fed what it is given, and the next one what it leaves, if that one
-- refines it.
use Rattle.std.proofs.Common.{◌<◌, ◌∙◌, sym, subst, ap, ap₂, arith, take, get_or, length, List}
use Rattle.std.proofs.Common.{refl}
use Rattle.std.proofs.lemmas.List.{take_all}
use Rattle.trace_core.specs.declared.events.Ref.{Ref}
use Rattle.sweep_core.specs.declared.full.profiles.FullPair.{FullPair}
use Rattle.sweep_core.proofs.FullFeeding.{Suffices, IsGivenFull, all_suffices, rest_suffices}
use Rattle.sweep_core.proofs.FullFeeding.{one_fed, two_fed, as_many}
use Rattle.sweep_core.proofs.full.feeding.feed_full.Goals as goal
use Rattle.sweep_core.proofs.full.feeding.feed_full.Goals.{Joined-at-eq0, then-at-eq0}
use Rattle.sweep_core.proofs.full.feeding.feed_full.Goals.{else-at-eq0+else-not-next_refines}

inside : (c : Joined-at-eq0) → c.loop-at.at < length c.args.profiles.now
inside c = omega (arith, c.loop-at-test.true, as_many c.loop-at.invariant)

-- all, or what the one before has left
given_full : (c : Joined-at-eq0) (d : FullPair) →
    IsGivenFull (get_or c.args.profiles.now c.loop-at.at d).profile c.if-at-eq0.given
    c.args.refs.now c.if-at-eq0.left
given_full c d =
    let h = c.loop-at.invariant in
    let refs : List Ref = c.args.refs.now in
    let x : FullPair = get_or c.args.profiles.now c.loop-at.at d in
    elim c.if-at-eq0.branch [
      | then-at-eq0 w ↦
          let copied = w.left-is ∙ w.copy_from_slice.ensures.after in
          record {
            few = omega (arith, w.given-is);
            room = ap length copied;
            enough = all_suffices _ _ _
                (ap₂ take w.given-is copied ∙ take_all (length refs) refs (omega arith));
          }
      | else-at-eq0+else-not-next_refines w ↦
          record {
            few = omega (arith, w.given-is, h.few);
            room = ap length w.left-is ∙ h.room;
            enough = subst (λ l. Suffices x.profile l refs) (sym (ap₂ take w.given-is w.left-is))
                (rest_suffices h c.requires.alike (inside c) d (omega (arith, w.if-at-eq0.false))
                (sym w.next_refines.ensures ∙ w.if-not-next_refines.false));
          }
    ]

pub loop-at-preserved-then-next_refines : goal.loop-at-preserved-then-next_refines
loop-at-preserved-then-next_refines c =
    let at = (goal.at.loop-at-preserved-then-next_refines c).Joined-at-eq0 in
    let fed = c.feed_two_full-given in
    let first = fed.ensures.fed.first in
    two_fed c.loop-at.invariant c.requires.alike (inside at) first (given_full at first) fed.result
    fed.new.refs fed.ensures.within fed.ensures.length fed.new.profiles _ fed.ensures.fed
    (sym c.next_refines-in-loop-at.ensures ∙ c.if-next_refines.true) refl

pub loop-at-preserved : goal.loop-at-preserved
loop-at-preserved c =
    let at = (goal.at.loop-at-preserved c).Joined-at-eq0 in
    let fed = c.feed_batch-given in
    let here = c.index-profiles-at.result in
    one_fed c.loop-at.invariant c.requires.alike (inside at) here (given_full at here) fed.result
    fed.new.refs fed.ensures.within fed.ensures.length fed.new.self fed.ensures.step fed.ensures.fed
