-- Each entry that is read is fed, and the pass ends as the reader does.
use Rattle.std.proofs.Common.{◌≡◌, map, ◌∷◌, [], length-append, sym, ap, ◌∙◌, subst, arith, refl}
use Rattle.trace_core.specs.Events.{events_of}
use Rattle.trace_core.specs.Task.{entries_of}
use Rattle.trace_core.proofs.WholeTraces.{holds-less, reads-end, reads-fault, reads-more}
use Rattle.trace_core.proofs.WholeTraces.{reads-none, not-ahead, begins-ahead, caught-end}
use Rattle.trace_core.proofs.WholeTraces.{caught-fault}
use Rattle.sweep_core.specs.internal.Full.{full_pairs_after, full_pairs_caught, full_pairs_fed}
use Rattle.sweep_core.specs.internal.Full.{FullWaiting, AreNoFinerFull, full_pair_flushed}
use Rattle.sweep_core.specs.internal.Full.{finest_full_bits}
use Rattle.sweep_core.proofs.Passes.{fed-both, fed-more, fed-one}
use Rattle.sweep_core.proofs.FullLemmas.{after-nil, after-append, caught-none}
use Rattle.sweep_core.proofs.FullLemmas.{caught-flush, fed-nil, waiting-start, waiting-few}
use Rattle.sweep_core.proofs.FullLemmas.{waiting-alike, waiting-fed, waiting-flushed}
use Rattle.sweep_core.proofs.FullLemmas.{finest-finer, no-finer-fed, no-finer-flushed}
use Rattle.sweep_core.proofs.full.pass.read_full_entries.Goals as goal

pub loop-entry-init : goal.loop-entry-init
loop-entry-init g c =
    let xs = c.args.profiles.now in
    let caught : full_pairs_caught 0 xs ≡ full_pairs_after [] xs = caught-none xs ∙
    sym (after-nil xs) in (
      reads-none (g.S.Source.view c.args.source.now)
          (not-ahead c.args.lines.now _ c.none-ahead.ensures ∙ c.requires.begun) (
            ap (λ b. full_pairs_caught b.added (full_pairs_fed b.waiting xs)) c.requires.empty ∙
                ap (full_pairs_caught 0) (fed-nil xs) ∙ caught,
            subst (λ b. FullWaiting b.added b.waiting xs) (sym c.requires.empty)
                (waiting-start xs c.requires.fresh),
            omega (arith, ap (λ b. b.added) c.requires.empty),
          ),
      omega (arith, ap (λ a. a.lines) c.none-ahead.ensures, ap (λ p. p.lines) c.requires.begun),
      (finest_full_bits xs, c.finest_full_size-size.ensures, finest-finer xs),
      begins-ahead c.args.lines.now _ c.none-ahead.ensures,
    )

pub loop-entry-preserved-in-Some-second : goal.loop-entry-preserved-in-Some-second
loop-entry-preserved-in-Some-second g c =
    let so_far = c.loop-entry.invariant.0 in
    let es = entries_of so_far.read in
    let first = c.feed_full_kept.ensures in
    let second = c.feed_full_kept-in-Some-second.ensures in
    let old = full_pairs_caught c.loop-entry.batch.added
    (full_pairs_fed c.loop-entry.batch.waiting c.loop-entry.profiles) in
    let mid = full_pairs_caught c.feed_full_kept.new.batch.added
    (full_pairs_fed c.feed_full_kept.new.batch.waiting c.feed_full_kept.new.profiles) in
    let new = full_pairs_caught c.feed_full_kept-in-Some-second.new.batch.added
    (full_pairs_fed c.feed_full_kept-in-Some-second.new.batch.waiting
    c.feed_full_kept-in-Some-second.new.profiles) in
    let fed = fed-both full_pairs_after after-append c.args.kind old mid new c.in-Item.is
    c.refs_of-second.ensures
    c.in-Some-second.is first.caught second.caught in (
      reads-more so_far c.next_ahead.ensures.reached c.next_ahead.ensures.entry
          c.in_ok-entry.was c.in-Some.is (
            fed-more full_pairs_after after-append c.args.kind c.args.profiles.now old new es
                c.in-Some.entry so_far.holds.0 fed,
            second.waiting,
            omega (
              arith,
              so_far.holds.2,
              first.more,
              second.more,
              length-append es (c.in-Some.entry ∷ []),
            ),
          ),
      omega (arith, c.next_ahead.ensures.within, c.next_ahead.ensures.limited),
      second.finest,
      c.next_ahead.ensures.ahead,
    )

pub loop-entry-preserved-in_default-second : goal.loop-entry-preserved-in_default-second
loop-entry-preserved-in_default-second g c =
    let so_far = c.loop-entry.invariant.0 in
    let es = entries_of so_far.read in
    let one = c.feed_full_kept.ensures in
    let old = full_pairs_caught c.loop-entry.batch.added
    (full_pairs_fed c.loop-entry.batch.waiting c.loop-entry.profiles) in
    let new = full_pairs_caught c.feed_full_kept.new.batch.added
    (full_pairs_fed c.feed_full_kept.new.batch.waiting c.feed_full_kept.new.profiles) in
    let fed = fed-one full_pairs_after after-append c.args.kind old new c.in-Item.is
    c.refs_of-second.ensures
    c.in_default-second.is one.caught in (
      reads-more so_far c.next_ahead.ensures.reached c.next_ahead.ensures.entry
          c.in_ok-entry.was c.in-Some.is (
            fed-more full_pairs_after after-append c.args.kind c.args.profiles.now old new es
                c.in-Some.entry so_far.holds.0 fed,
            one.waiting,
            omega (arith, so_far.holds.2, one.more, length-append es (c.in-Some.entry ∷ [])),
          ),
      omega (arith, c.next_ahead.ensures.within, c.next_ahead.ensures.limited),
      one.finest,
      c.next_ahead.ensures.ahead,
    )

-- at a flush those that wait are fed first
pub feed-requires-clause-few : goal.feed-requires-clause-few
feed-requires-clause-few g c =
    let so_far = c.loop-entry.invariant.0 in
    waiting-few c.loop-entry.batch.added c.loop-entry.batch.waiting c.loop-entry.profiles
    so_far.holds.1 (omega (arith, so_far.holds.2, so_far.few, c.loop-entry.invariant.1))

pub feed-requires-clause-alike : goal.feed-requires-clause-alike
feed-requires-clause-alike g c =
    waiting-alike c.loop-entry.batch.added c.loop-entry.batch.waiting c.loop-entry.profiles
    c.loop-entry.invariant.0.holds.1

pub loop-entry-preserved : goal.loop-entry-preserved
loop-entry-preserved g c =
    let so_far = c.loop-entry.invariant.0 in
    let es = entries_of so_far.read in
    let n = c.loop-entry.batch.added in
    let bits = c.loop-entry.invariant.2.0 in
    let xs = full_pairs_fed c.loop-entry.batch.waiting c.loop-entry.profiles in
    let flushed : c.flush_full.new.profiles ≡ map full_pair_flushed xs = c.flush_full.ensures ∙
    ap (map full_pair_flushed) c.feed.ensures.fed in
    let old = full_pairs_caught n xs in
    let fed : full_pairs_caught n c.flush_full.new.profiles
    ≡ full_pairs_after (events_of c.args.kind c.in-Some.entry) old =
    ap (full_pairs_caught n) flushed ∙ caught-flush n xs
    ∙ ap (λ e. full_pairs_after (events_of c.args.kind e) old) (sym c.in-Flush.is) in
    let caught = fed-more full_pairs_after after-append c.args.kind c.args.profiles.now old
    (full_pairs_caught n c.flush_full.new.profiles) es c.in-Some.entry so_far.holds.0 fed in (
      reads-more so_far c.next_ahead.ensures.reached c.next_ahead.ensures.entry
          c.in_ok-entry.was c.in-Some.is (
            (λ i. full_pairs_caught (c.feed.ensures.same i) (full_pairs_fed
                (c.feed.ensures.none i) c.flush_full.new.profiles)) ∙ ap (full_pairs_caught n)
                (fed-nil c.flush_full.new.profiles) ∙ caught,
            subst (λ k. FullWaiting k c.feed.new.self.waiting c.flush_full.new.profiles)
                (sym c.feed.ensures.same)
                (subst (λ l. FullWaiting n l c.flush_full.new.profiles) (sym c.feed.ensures.none)
                (waiting-flushed n xs c.flush_full.new.profiles
                (waiting-fed n c.loop-entry.batch.waiting c.loop-entry.profiles xs so_far.holds.1
                refl)
                flushed)),
            omega (
              arith,
              so_far.holds.2,
              c.feed.ensures.same,
              length-append es (c.in-Some.entry ∷ []),
            ),
          ),
      omega (arith, c.next_ahead.ensures.within, c.next_ahead.ensures.limited),
      (
        bits,
        c.loop-entry.invariant.2.1,
        subst (AreNoFinerFull bits) (sym flushed) (no-finer-flushed bits xs
            (no-finer-fed bits c.loop-entry.batch.waiting c.loop-entry.profiles
            c.loop-entry.invariant.2.2)),
      ),
      c.next_ahead.ensures.ahead,
    )

pub returns-in_err-entry-clause-fed : goal.returns-in_err-entry-clause-fed
returns-in_err-entry-clause-fed g c =
    holds-less (λ es held. held.0) (caught-fault _ _ c.next_ahead.ensures.caught_up
    c.in_err-entry.was (reads-fault c.loop-entry.invariant.0 c.next_ahead.ensures.reached
    c.in_err-entry.was))

pub returns-clause-fed : goal.returns-clause-fed
returns-clause-fed g c =
    holds-less (λ es held. held.0) (caught-end _ _ c.next_ahead.ensures.caught_up
    c.in_ok-entry.was c.in_default.is (reads-end c.loop-entry.invariant.0
    c.next_ahead.ensures.reached c.in_ok-entry.was c.in_default.is))
