-- Each entry that is read is fed, and the pass ends as the reader does.
use Rattle.std.proofs.Common.{◌≡◌, map, ◌∷◌, ◌++◌, [], length-append, sym, ap, ◌∙◌, subst, arith}
use Rattle.std.proofs.Common.{Ok, length}
use Rattle.std.specs.List.{flat_map}
use Rattle.trace_core.specs.Events.{events_of}
use Rattle.trace_core.specs.Task.{entries_of}
use Rattle.trace_core.proofs.WholeTraces.{holds-less, reads-end, reads-fault, reads-more}
use Rattle.trace_core.proofs.WholeTraces.{reads-none, not-ahead, begins-ahead, caught-end}
use Rattle.trace_core.proofs.WholeTraces.{caught-fault}
use Rattle.sweep_core.specs.internal.Pass.{profiles_after, pair_after_flush}
use Rattle.sweep_core.specs.internal.Feeding.{profiles_with_fronts, FedAtMost, profiles_after_batch}
use Rattle.sweep_core.specs.internal.Waiting.{AreWaiting, AreNoFiner, finest_bits}
use Rattle.sweep_core.proofs.Passes.{all_after-nil, all_after-append, fed-more}
use Rattle.sweep_core.proofs.Catching.{fresh-few, caught-none, caught-flush, few-flush}
use Rattle.sweep_core.proofs.Waiting.{fed-nil, waiting-none, waiting-behind, waiting-few}
use Rattle.sweep_core.proofs.Waiting.{waiting-led}
use Rattle.sweep_core.proofs.Repeated.{finest-finer, no-finer-fed, no-finer-flushed}
use Rattle.sweep_core.proofs.Items.{kept-most}
use Rattle.sweep_core.proofs.pass.read_entries.Goals as goal

pub loop-entry-init : goal.loop-entry-init
loop-entry-init g c =
    let xs = c.args.profiles.now in
    let caught : profiles_with_fronts 0 xs ≡ profiles_after [] xs = caught-none xs ∙
    sym (all_after-nil xs) in (
      reads-none (g.S.Source.view c.args.source.now)
          (not-ahead c.args.lines.now _ c.none-ahead.ensures ∙ c.requires.begun) (
            ap (λ b. profiles_with_fronts b.added (profiles_after_batch b.waiting xs))
                c.requires.empty ∙ ap (profiles_with_fronts 0) (fed-nil xs) ∙ caught,
            subst (λ b. AreWaiting b.added b.waiting xs) (sym c.requires.empty)
                (waiting-none 0 [] xs xs c.requires.fresh c.requires.followers caught
                (fresh-few xs c.requires.fresh)),
            omega (arith, ap (λ b. b.added) c.requires.empty),
          ),
      omega (arith, ap (λ a. a.lines) c.none-ahead.ensures, ap (λ p. p.lines) c.requires.begun),
      (finest_bits xs, c.finest_size-size.ensures, finest-finer xs),
      c.kept_counts-counts.ensures,
      omega (arith, ap (λ b. length b.waiting) c.requires.empty),
      begins-ahead c.args.lines.now _ c.none-ahead.ensures,
    )

pub loop-entry-preserved-in-Item : goal.loop-entry-preserved-in-Item
loop-entry-preserved-in-Item g c =
    let so_far = c.loop-entry.invariant.0 in
    let es = entries_of so_far.read in
    let fed = c.feed_item.ensures in
    let counted = c.kept_count.ensures c.args.kind c.loop-entry.invariant.3 in
    let old = profiles_with_fronts c.loop-entry.batch.added
    (profiles_after_batch c.loop-entry.batch.waiting c.loop-entry.profiles) in
    let new = profiles_with_fronts c.feed_item.new.batch.added
    (profiles_after_batch c.feed_item.new.batch.waiting c.feed_item.new.profiles) in
    let caught : new ≡ profiles_after (events_of c.args.kind c.in-Some.entry) old =
    subst (λ e. new ≡ profiles_after (events_of c.args.kind e) old) (sym c.in-Item.is)
    (fed.caught c.args.kind counted) in (
      reads-more so_far c.next_ahead.ensures.reached c.next_ahead.ensures.entry
          c.in_ok-entry.was c.in-Some.is (
            fed-more profiles_after all_after-append c.args.kind c.args.profiles.now old new es
                c.in-Some.entry so_far.holds.0 caught,
            fed.waiting,
            omega (
              arith,
              so_far.holds.2,
              fed.added,
              counted,
              kept-most c.args.kind c.in-Item.item.op,
              length-append es (c.in-Some.entry ∷ []),
            ),
          ),
      omega (arith, c.next_ahead.ensures.within, c.next_ahead.ensures.limited),
      fed.finest,
      c.loop-entry.invariant.3,
      fed.room,
      c.next_ahead.ensures.ahead,
    )

-- a kind keeps two references at most
pub feed_item-requires-clause-few : goal.feed_item-requires-clause-few
feed_item-requires-clause-few g c =
    let so_far = c.loop-entry.invariant.0 in
    let counted = c.kept_count.ensures c.args.kind c.loop-entry.invariant.3 in
    let bears = c.next_ahead.ensures.entry in
    let further = (rw (c.in_ok-entry.was ∙ ap Ok c.in-Some.is) at bears).1 in
    omega (
      arith,
      so_far.holds.2,
      so_far.few,
      further,
      c.next_ahead.ensures.within,
      c.next_ahead.ensures.limited,
      counted,
      kept-most c.args.kind c.in-Item.item.op,
    )

-- at a flush those that wait are fed first
pub feed-requires-clause-few : goal.feed-requires-clause-few
feed-requires-clause-few g c =
    let so_far = c.loop-entry.invariant.0 in
    waiting-few c.loop-entry.batch.added c.loop-entry.batch.waiting c.loop-entry.profiles
    so_far.holds.1 (omega (arith, so_far.holds.2, so_far.few, c.loop-entry.invariant.1))

pub feed-requires-clause-led : goal.feed-requires-clause-led
feed-requires-clause-led g c =
    waiting-led c.loop-entry.batch.added c.loop-entry.batch.waiting c.loop-entry.profiles
    c.loop-entry.invariant.0.holds.1

pub loop-entry-preserved : goal.loop-entry-preserved
loop-entry-preserved g c =
    let so_far = c.loop-entry.invariant.0 in
    let es = entries_of so_far.read in
    let n = c.loop-entry.batch.added in
    let bits = c.loop-entry.invariant.2.0 in
    let xs = profiles_after_batch c.loop-entry.batch.waiting c.loop-entry.profiles in
    let flushed : c.flush.new.profiles ≡ map pair_after_flush xs = c.flush.ensures ∙
    ap (map pair_after_flush) c.feed.ensures.fed in
    let old = profiles_with_fronts n xs in
    let fed : profiles_with_fronts n c.flush.new.profiles
    ≡ profiles_after (events_of c.args.kind c.in-Some.entry) old =
    ap (profiles_with_fronts n) flushed ∙ caught-flush n xs
    ∙ ap (λ e. profiles_after (events_of c.args.kind e) old) (sym c.in-Flush.is) in
    let caught = fed-more profiles_after all_after-append c.args.kind c.args.profiles.now old
    (profiles_with_fronts n c.flush.new.profiles) es c.in-Some.entry so_far.holds.0 fed in
    let few = subst (FedAtMost n) (sym flushed) (few-flush n xs
    (waiting-behind n c.loop-entry.batch.waiting c.loop-entry.profiles so_far.holds.1).fed) in (
      reads-more so_far c.next_ahead.ensures.reached c.next_ahead.ensures.entry
          c.in_ok-entry.was c.in-Some.is (
            (λ i. profiles_with_fronts (c.feed.ensures.same i) (profiles_after_batch
                (c.feed.ensures.none i) c.flush.new.profiles)) ∙ ap (profiles_with_fronts n)
                (fed-nil c.flush.new.profiles) ∙ caught,
            subst (λ k. AreWaiting k c.feed.new.self.waiting c.flush.new.profiles)
                (sym c.feed.ensures.same)
                (subst (λ l. AreWaiting n l c.flush.new.profiles) (sym c.feed.ensures.none)
                (waiting-none n (flat_map (events_of c.args.kind) (es ++ c.in-Some.entry ∷ []))
                c.args.profiles.now c.flush.new.profiles c.requires.fresh c.requires.followers
                caught
                few)),
            omega (
              arith,
              so_far.holds.2,
              c.feed.ensures.same,
              length-append es (c.in-Some.entry ∷ []),
            ),
          ),
      omega (arith, c.next_ahead.ensures.within, c.next_ahead.ensures.limited),
      (
        bits,
        c.loop-entry.invariant.2.1,
        subst (AreNoFiner bits) (sym flushed) (no-finer-flushed bits xs
            (no-finer-fed bits c.loop-entry.batch.waiting c.loop-entry.profiles
            c.loop-entry.invariant.2.2)),
      ),
      c.loop-entry.invariant.3,
      omega (arith, ap length c.feed.ensures.none),
      c.next_ahead.ensures.ahead,
    )

pub returns-in_err-entry-clause-fed : goal.returns-in_err-entry-clause-fed
returns-in_err-entry-clause-fed g c =
    holds-less (λ es held. held.0) (caught-fault _ _ c.next_ahead.ensures.caught_up
    c.in_err-entry.was (reads-fault c.loop-entry.invariant.0 c.next_ahead.ensures.reached
    c.in_err-entry.was))

pub returns-clause-fed : goal.returns-clause-fed
returns-clause-fed g c =
    holds-less (λ es held. held.0) (caught-end _ _ c.next_ahead.ensures.caught_up
    c.in_ok-entry.was c.in_default.is (reads-end c.loop-entry.invariant.0
    c.next_ahead.ensures.reached c.in_ok-entry.was c.in_default.is))
