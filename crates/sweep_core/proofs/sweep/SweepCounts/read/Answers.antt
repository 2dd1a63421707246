-- The profiles were fed what was read, and have counted it.
use Rattle.std.proofs.Common.{◌≡◌, sym, subst, arith}
use Rattle.std.specs.List.{AllByRecursion as Each}
use Rattle.std.specs.Vec.{with_items}
use Rattle.std.proofs.lemmas.List.{take_at}
use Rattle.trace_core.specs.declared.state.ReaderState.{ReaderState}
use Rattle.trace_core.proofs.Runs.{Reached-from}
use Rattle.sweep_core.specs.internal.Pass.{SweepStandsFor}
use Rattle.sweep_core.specs.Rows.{ReadsTo, events_read}
use Rattle.sweep_core.specs.internal.Feeding.{IsFresh, HaveFollowers}
use Rattle.sweep_core.proofs.Catching.{fresh-sweep}
use Rattle.sweep_core.proofs.Serving.{swept-serve}
use Rattle.sweep_core.proofs.Sweeping.{swept-after, counted-is, counts-known, faultless-known}
use Rattle.sweep_core.proofs.sweep.SweepCounts.read.Given as given
use Rattle.sweep_core.proofs.sweep.SweepCounts.read.Goals as goal
use Rattle.sweep_core.proofs.sweep.SweepCounts.read.Goals.{After-read_trace}

-- the profiles are those of what was read
swept : (g : given.Over) (c : After-read_trace g)
    → SweepStandsFor c.args.request.now
    (events_read c.args.request.now.kind c.read_trace.ensures.fed.read)
    (with_items c.in_ok-profiles.profiles c.read_trace.new.profiles).items
swept g c = swept-after c.in_ok-profiles.ensures.stands c.deref_mut.ensures.value
    c.read_trace.ensures.fed (take_at _ _ _ (omega arith))

-- what was read, up to a state
abbrev run : (g : given.Over) (c : After-read_trace g) (state : ReaderState) →
    c.read_trace.new.lines.state ≡ state
    → ReadsTo c.args.request.now.format c.args.request.now.max_lines
    (g.S.Source.view c.args.source.now) (g.S.Source.view c.read_trace.new.source) state
run g c state is = record {
  read = c.read_trace.ensures.fed.read;
  at = c.read_trace.new.lines;
  reached = Reached-from c.in_ok-lines.ensures c.read_trace.ensures.fed.reached;
  stopped = is;
}

pub read_trace-requires-clause-fresh : goal.read_trace-requires-clause-fresh
read_trace-requires-clause-fresh g c =
    subst (Each IsFresh) (sym c.deref_mut.ensures.value)
    (fresh-sweep c.args.request.now c.in_ok-profiles.profiles.items
    c.in_ok-profiles.ensures.stands.fed)

pub read_trace-requires-clause-followers : goal.read_trace-requires-clause-followers
read_trace-requires-clause-followers g c =
    subst HaveFollowers (sym c.deref_mut.ensures.value) c.in_ok-profiles.ensures.followers

pub invariant_of-result : goal.invariant_of-result
invariant_of-result g c = swept-serve c.args.request.now _ _
    (swept g (goal.at.invariant_of-result g c).After-read_trace)

pub returns-clause-reads : goal.returns-clause-reads
returns-clause-reads g c =
    let after = (goal.at.returns-clause-reads g c).After-read_trace in (
      run g after _ c.in_ok-read_trace.ensures.reports,
      counted-is c.args.request.now _ _
          (swept g after),
    )

pub returns-clause-counts : goal.returns-clause-counts
returns-clause-counts g c =
    let after = (goal.at.returns-clause-counts g c).After-read_trace in
    counts-known c.args.request.now (run g after _ c.in_ok-read_trace.ensures.reports)
    (counted-is c.args.request.now _ _ (swept g after))

pub returns-clause-faultless : goal.returns-clause-faultless
returns-clause-faultless g c =
    faultless-known c.args.request.now
    (run g (goal.at.returns-clause-faultless g c).After-read_trace _
    c.in_ok-read_trace.ensures.reports)
