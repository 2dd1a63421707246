-- A reference that its kind keeps waits, once there is room for it; one that it leaves out changes
-- nothing.
use Rattle.std.proofs.Common.{◌≡◌, ◌+◌, ◌<◌, ◌∙◌, [], ◌∷◌, length, sym, ap, subst, arith, ℕ, List}
use Rattle.std.proofs.Math.Nat.{lt_of_not-le}
use Rattle.std.proofs.lemmas.Bool.{false≢true}
use Rattle.trace_core.specs.declared.events.Ref.{Ref}
use Rattle.sweep_core.specs.declared.batch.TheConstants.{BATCH}
use Rattle.sweep_core.specs.declared.full.profiles.FullPair.{FullPair}
use Rattle.sweep_core.specs.internal.Pass.{kept_events}
use Rattle.sweep_core.specs.internal.Full.{full_pairs_after, full_pairs_caught, full_pairs_fed}
use Rattle.sweep_core.specs.internal.Full.{FullWaiting, AreNoFinerFull}
use Rattle.sweep_core.specs.internal.Waiting.{Batched}
use Rattle.sweep_core.proofs.FullLemmas.{waiting-few, waiting-alike, waiting-fed, waiting-with}
use Rattle.sweep_core.proofs.FullLemmas.{kept-waits, left-caught, fed-nil, no-finer-fed}
use Rattle.sweep_core.proofs.full.pass.feed_full_kept.Goals as goal
use Rattle.sweep_core.proofs.full.pass.feed_full_kept.Goals.{Joined-is_full, then-is_full}
use Rattle.sweep_core.proofs.full.pass.feed_full_kept.Goals.{else-is_full}

pub feed-requires-clause-few : goal.feed-requires-clause-few
feed-requires-clause-few c =
    waiting-few c.args.batch.now.added c.args.batch.now.waiting c.args.profiles.now
    c.requires.waiting (omega (arith, c.requires.few))

pub feed-requires-clause-alike : goal.feed-requires-clause-alike
feed-requires-clause-alike c = waiting-alike c.args.batch.now.added c.args.batch.now.waiting
    c.args.profiles.now c.requires.waiting

-- a batch with room for one more, which stands for the same references
record HasRoom (bits : ℕ) (before now : Batched Ref) (xs ys : List FullPair) : Type 0 where
  pub waiting : FullWaiting now.added now.waiting ys
  pub added : now.added ≡ before.added
  pub same : full_pairs_fed now.waiting ys ≡ full_pairs_fed before.waiting xs
  pub room : length now.waiting < BATCH
  pub finer : AreNoFinerFull bits ys

room : (c : Joined-is_full) → HasRoom c.requires.finest.0 c.args.batch.now c.if-is_full.batch
    c.args.profiles.now c.if-is_full.profiles
room c =
    let before = c.args.batch.now in let now = c.if-is_full.batch in let xs = c.args.profiles.now in
    let bits = c.requires.finest.0 in
    elim c.if-is_full.branch [
      | then-is_full w ↦
          let ys = c.if-is_full.profiles in
          let is = w.profiles-is ∙ w.feed.ensures.fed in
          let none : now.waiting ≡ [] = ap (λ b. b.waiting) w.batch-is ∙ w.feed.ensures.none in
          let same : now.added ≡ before.added = ap (λ b. b.added) w.batch-is ∙
          w.feed.ensures.same in
          record {
            waiting = subst (λ n. FullWaiting n now.waiting ys) (sym same)
                (subst (λ l. FullWaiting before.added l ys) (sym none)
                (waiting-fed before.added before.waiting xs ys c.requires.waiting is));
            added = same;
            same = ap (λ l. full_pairs_fed l ys) none ∙ fed-nil ys ∙ is;
            room = omega (arith, ap length none);
            finer = subst (AreNoFinerFull bits) (sym is)
                (no-finer-fed bits before.waiting xs c.requires.finest.2);
          }
      | else-is_full w ↦
          record {
            waiting = subst (λ b. FullWaiting b.added b.waiting c.if-is_full.profiles)
                (sym w.batch-is) (subst (FullWaiting before.added before.waiting)
                (sym w.profiles-is) c.requires.waiting);
            added = ap (λ b. b.added) w.batch-is;
            same = ap (λ b. full_pairs_fed b.waiting c.if-is_full.profiles) w.batch-is ∙
                ap (full_pairs_fed before.waiting) w.profiles-is;
            room = subst (λ b. length b.waiting < BATCH) (sym w.batch-is) (lt_of_not-le
                (λ le. false≢true (w.if-is_full.ensures.1 le)));
            finer = subst (AreNoFinerFull bits) (sym w.profiles-is) c.requires.finest.2;
          }
    ]

pub push-requires-clause-room : goal.push-requires-clause-room
push-requires-clause-room c = (room (goal.at.push-requires-clause-room c).Joined-is_full).room

pub push-requires-clause-few : goal.push-requires-clause-few
push-requires-clause-few c =
    let had = room (goal.at.push-requires-clause-few c).Joined-is_full in
    omega (arith, had.added, c.requires.few)

pub returns-after-is_full-clause-caught : goal.returns-after-is_full-clause-caught
returns-after-is_full-clause-caught c =
    let had = room (goal.at.returns-after-is_full-clause-caught c).Joined-is_full in
    let now = c.if-is_full.batch in let ys = c.if-is_full.profiles in
    let bits = c.requires.finest.0 in
    (λ i. full_pairs_caught (c.push.ensures.added i) (full_pairs_fed
    (c.push.ensures.waiting bits c.requires.finest.1 i) ys))
    ∙ kept-waits now.added bits now.waiting ys had.waiting had.finer c.args.reference c.args.kind
    (sym c.keeps.ensures ∙ c.if-keeps.true)
    ∙ (λ i. full_pairs_after (kept_events c.args.kind (c.args.reference ∷ []))
    (full_pairs_caught (had.added i) (had.same i)))

pub returns-after-is_full-clause-waiting : goal.returns-after-is_full-clause-waiting
returns-after-is_full-clause-waiting c =
    let had = room (goal.at.returns-after-is_full-clause-waiting c).Joined-is_full in
    let now = c.if-is_full.batch in let bits = c.requires.finest.0 in
    subst (λ n. FullWaiting n c.push.new.self.waiting c.if-is_full.profiles)
    (sym c.push.ensures.added)
    (subst (λ l. FullWaiting (now.added + 1) l c.if-is_full.profiles)
    (sym (c.push.ensures.waiting bits c.requires.finest.1))
    (waiting-with now.added bits now.waiting c.if-is_full.profiles had.waiting had.finer
    c.args.reference))

pub returns-after-is_full-clause-finest : goal.returns-after-is_full-clause-finest
returns-after-is_full-clause-finest c = (
  c.requires.finest.0,
  c.requires.finest.1,
  (room (goal.at.returns-after-is_full-clause-finest c).Joined-is_full).finer,
)

pub returns-after-is_full-clause-more : goal.returns-after-is_full-clause-more
returns-after-is_full-clause-more c =
    let had = room (goal.at.returns-after-is_full-clause-more c).Joined-is_full in
    omega (arith, c.push.ensures.added, had.added)

pub returns-else-keeps-clause-caught : goal.returns-else-keeps-clause-caught
returns-else-keeps-clause-caught c =
    left-caught c.args.kind c.args.reference
    (full_pairs_caught c.args.batch.now.added
    (full_pairs_fed c.args.batch.now.waiting c.args.profiles.now))
    (sym c.keeps.ensures ∙ c.if-keeps.false)
