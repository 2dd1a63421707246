-- The profiles were fed what was read, and have counted it.
use Rattle.std.proofs.Common.{◌≡◌, sym, subst, arith}
use Rattle.std.specs.List.{AllByRecursion as Each}
use Rattle.std.specs.Vec.{with_items}
use Rattle.std.proofs.lemmas.List.{take_at}
use Rattle.trace_core.specs.declared.state.ReaderState.{ReaderState}
use Rattle.trace_core.proofs.Runs.{Reached-from}
use Rattle.sweep_core.specs.Rows.{ReadsTo, events_read}
use Rattle.sweep_core.specs.internal.Full.{IsNewPair}
use Rattle.sweep_core.specs.internal.FullRuns.{ServesFull}
use Rattle.sweep_core.proofs.Sweeping.{faultless-known}
use Rattle.sweep_core.proofs.FullStanding.{full-serve, fresh-full}
use Rattle.sweep_core.proofs.FullSweeping.{FullEnded, ended-after, full-counts-known, counted-ended}
use Rattle.sweep_core.proofs.full.FullSweepCounts.read.Given as given
use Rattle.sweep_core.proofs.full.FullSweepCounts.read.Goals as goal
use Rattle.sweep_core.proofs.full.FullSweepCounts.read.Goals.{After-read_full}

-- the profiles are those of what was read
swept : (g : given.Over) (c : After-read_full g)
    → FullEnded c.args.request.now
    (events_read c.args.request.now.kind c.read_full.ensures.fed.read)
    (with_items c.in_ok-profiles.profiles c.read_full.new.profiles).items
swept g c = ended-after c.in_ok-profiles.ensures c.deref_mut.ensures.value
    c.read_full.ensures.fed (take_at _ _ _ (omega arith))

-- what was read, up to a state
abbrev run : (g : given.Over) (c : After-read_full g) (state : ReaderState) →
    c.read_full.new.lines.state ≡ state
    → ReadsTo c.args.request.now.format c.args.request.now.max_lines
    (g.S.Source.view c.args.source.now) (g.S.Source.view c.read_full.new.source) state
run g c state is = record {
  read = c.read_full.ensures.fed.read;
  at = c.read_full.new.lines;
  reached = Reached-from c.in_ok-lines.ensures c.read_full.ensures.fed.reached;
  stopped = is;
}

pub read_full-requires-clause-fresh : goal.read_full-requires-clause-fresh
read_full-requires-clause-fresh g c =
    subst (Each IsNewPair) (sym c.deref_mut.ensures.value)
    (fresh-full c.args.request.now c.in_ok-profiles.profiles.items
    c.in_ok-profiles.ensures.full)

pub invariant_of-result : goal.invariant_of-result
invariant_of-result g c =
    let after = swept g (goal.at.invariant_of-result g c).After-read_full in
    subst (Each (ServesFull c.args.request.now.space.powers)) (sym after.is)
    (full-serve c.args.request.now _ after.before after.stands)

pub returns-clause-reads : goal.returns-clause-reads
returns-clause-reads g c =
    let after = (goal.at.returns-clause-reads g c).After-read_full in (
      run g after _ c.in_ok-read_full.ensures.reports,
      counted-ended c.args.request.now _ _ (swept g after),
    )

pub returns-clause-counts : goal.returns-clause-counts
returns-clause-counts g c =
    let after = (goal.at.returns-clause-counts g c).After-read_full in
    full-counts-known c.args.request.now (run g after _ c.in_ok-read_full.ensures.reports)
    (counted-ended c.args.request.now _ _ (swept g after))

pub returns-clause-faultless : goal.returns-clause-faultless
returns-clause-faultless g c =
    faultless-known c.args.request.now
    (run g (goal.at.returns-clause-faultless g c).After-read_full _
    c.in_ok-read_full.ensures.reports)
