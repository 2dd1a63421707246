-- What `csim` has read, simulated and written where it stands, and so what it performs at each of
-- its ends.
use Rattle.std.proofs.Common.{ℕ, Ok, ◌≡◌, ◌^◌, ◌++◌, [], List, cond, length, arith, refl, sym, ap}
use Rattle.std.proofs.Common.{◌∙◌, subst, Bool, true, false}
use Rattle.trace_core.specs.declared.events.Kind.TheVariants.{DataOnly}
use Rattle.trace_core.specs.declared.line.Format.TheVariants.{Lackey}
use Rattle.trace_core.specs.declared.events.Entry.{Entry}
use Rattle.trace_core.specs.Device.{Wrote, WrotePart}
use Rattle.trace_core.specs.Reading.{entries}
use Rattle.trace_core.specs.Task.{entries_of}
use Rattle.trace_core.proofs.EntryEvents.{events_within}
use Rattle.trace_core.proofs.Performing.{err_is, Performs-ok, Performs-trace, Performs-write}
use Rattle.trace_core.proofs.WholeTraces.{reads-none, reads-more, reads-end, reads-fault}
use Rattle.trace_core.proofs.WholeTraces.{not-ahead, begins-ahead}
use Rattle.trace_core.proofs.WholeTraces.{run-stopped, run-finished, run-unfinished, run-broken}
use Rattle.trace_core.proofs.Written.{Wrote-none}
use Rattle.cache_core.specs.Windows.{counts}
use Rattle.cache_core.proofs.simulation.Simulating.{simulated_within, within_above}
use Rattle.commands.specs.CsimText.{csim_task, csim_lines, csim_text, line_of}
use Rattle.commands.specs.internal.CsimPass.{lookups_of_pair, lookups_found}
use Rattle.commands.specs.CsimText.{summary}
use Rattle.commands.proofs.CsimLemmas.{along, data_of, lines-more, simulated-more, simulated-none}
use Rattle.commands.proofs.CsimLemmas.{is_verbose, is_verbose-if, is_verbose-unless, no_line}
use Rattle.commands.proofs.csim.run.Given as given
use Rattle.commands.proofs.csim.run.Goals as goal
use Rattle.commands.proofs.csim.run.Goals.{After-as_slice}

-- whether the lines are written
abbrev shows : given.Over → Bool
shows g = is_verbose g.row.VERBOSE

cond_same : (b : Bool) → cond {A = List ℕ} b [] [] ≡ []
cond_same true = refl
cond_same false = refl

pub loop-simulation-init : goal.loop-simulation-init
loop-simulation-init g c = (
  reads-none _ (not-ahead _ _ c.none-ahead.ensures ∙ c.in_ok-lines.ensures)
      (simulated-none c.args.geometry (shows g) (g.K.Sink.view c.args.sink.now) _
      c.in_ok-simulation.ensures),
  begins-ahead _ _ c.none-ahead.ensures,
)

pub step-requires : goal.step-requires
step-requires g c =
    let so_far = c.loop-simulation.invariant.0 in
    let es = entries_of so_far.read in
    let bears = rw c.in-Some.is at c.in_ok-entry.ensures.entry in
    within_above (length (data_of es)) (2 ^ 62) c.loop-simulation.simulation.counts
    (omega (
      arith,
      so_far.few,
      events_within DataOnly es,
      bears.1,
      c.next_ahead.ensures.within,
      c.next_ahead.ensures.limited,
    ))
    (simulated_within c.args.geometry (data_of es) c.loop-simulation.simulation so_far.holds.0)

pub loop-simulation-preserved-in-Continue-branch-5
    : goal.loop-simulation-preserved-in-Continue-branch-5
loop-simulation-preserved-in-Continue-branch-5 g c =
    let so_far = c.loop-simulation.invariant.0 in
    let es = entries_of so_far.read in
    let lookups = lookups_of_pair c.in-Some-step.lookups in
    let line = line_of c.in-Some.entry lookups in
    let stands = c.step.ensures c.args.geometry (data_of es) so_far.holds.0 in (
      reads-more so_far c.next_ahead.ensures.reached c.next_ahead.ensures.entry c.in_ok-entry.was
          c.in-Some.is
          (simulated-more c.args.geometry (shows g) es c.in-Some.entry lookups _ _ so_far.holds
          (stands.0, sym (ap lookups_found c.in-Some-step.is) ∙ stands.1)
          (subst (λ v. Wrote (g.K.Sink.view c.loop-simulation.sink) (g.K.Sink.view
          c.write_line.new.sink)
          (cond v line []))
          (sym (is_verbose-if g.row.VERBOSE c.if-this-ne0.true)) c.in_ok-write_line.ensures)),
      c.next_ahead.ensures.ahead,
    )

pub loop-simulation-preserved-else-this-ne0 : goal.loop-simulation-preserved-else-this-ne0
loop-simulation-preserved-else-this-ne0 g c =
    let so_far = c.loop-simulation.invariant.0 in
    let es = entries_of so_far.read in
    let lookups = lookups_of_pair c.in-Some-step.lookups in
    let line = line_of c.in-Some.entry lookups in
    let sink = g.K.Sink.view c.loop-simulation.sink in
    let stands = c.step.ensures c.args.geometry (data_of es) so_far.holds.0 in (
      reads-more so_far c.next_ahead.ensures.reached c.next_ahead.ensures.entry c.in_ok-entry.was
          c.in-Some.is
          (simulated-more c.args.geometry (shows g) es c.in-Some.entry lookups _ _ so_far.holds
          (stands.0, sym (ap lookups_found c.in-Some-step.is) ∙ stands.1)
          (subst (λ v. Wrote sink sink (cond v line []))
          (sym (is_verbose-unless g.row.VERBOSE c.if-this-ne0.false)) (Wrote-none sink))),
      c.next_ahead.ensures.ahead,
    )

-- an entry without data references has no line
pub loop-simulation-preserved : goal.loop-simulation-preserved
loop-simulation-preserved g c =
    let so_far = c.loop-simulation.invariant.0 in
    let es = entries_of so_far.read in
    let e = c.in-Some.entry in
    let sink = g.K.Sink.view c.loop-simulation.sink in
    let stands = c.step.ensures c.args.geometry (data_of es) so_far.holds.0 in
    let none = sym (ap lookups_found c.in_default-step.is) ∙ stands.1 in (
      reads-more so_far c.next_ahead.ensures.reached c.next_ahead.ensures.entry c.in_ok-entry.was
          c.in-Some.is
          (simulated-more c.args.geometry (shows g) es e [] _ _ so_far.holds (stands.0, none)
          (subst (λ line. Wrote sink sink (cond (shows g) line []))
          (sym (no_line c.args.geometry (data_of es) e none))
          (subst (Wrote sink sink) (sym (cond_same (shows g))) (Wrote-none sink)))),
      c.next_ahead.ensures.ahead,
    )

pub returns-in_err-entry : goal.returns-in_err-entry
unfolding csim_task
returns-in_err-entry g c =
    let so_far = c.loop-simulation.invariant.0 in
    let run = reads-fault so_far c.next_ahead.ensures.reached c.in_err-entry.was in
    let task = csim_task c.args.geometry (shows g) c.args.max_lines in
    Performs-trace c.in_err-entry.field-0.0 (err_is c.from_residual-in_err-entry.ensures.1)
    (run-stopped {task = task} run so_far.holds.1 c.in_err-entry.field-0.0
    (rw c.in_err-entry.was at c.next_ahead.ensures.reports)) (λ late. absurd cc)

pub returns-in_err-write_line : goal.returns-in_err-write_line
unfolding csim_task
returns-in_err-write_line g c =
    let so_far = c.loop-simulation.invariant.0 in
    let a = c.args in
    let es = entries_of so_far.read in
    let lookups = lookups_of_pair c.in-Some-step.lookups in
    let stands = c.step.ensures a.geometry (data_of es) so_far.holds.0 in
    Performs-write (err_is c.from_residual-in_err-write_line.ensures.1)
    (run-broken {task = csim_task a.geometry (shows g) a.max_lines} refl
    (along a.geometry (shows g) a.max_lines) so_far
    c.next_ahead.ensures.reached c.next_ahead.ensures.reports c.in_ok-entry.was c.in-Some.is
    so_far.holds.1
    (lines-more a.geometry (shows g) es c.in-Some.entry lookups
    (sym (ap lookups_found c.in-Some-step.is) ∙ stands.1))
    (subst (λ v. WrotePart (g.K.Sink.view c.loop-simulation.sink)
    (g.K.Sink.view c.write_line.new.sink)
    (cond v (line_of c.in-Some.entry lookups) []))
    (sym (is_verbose-if g.row.VERBOSE c.if-this-ne0.true))
    c.in_err-write_line.ensures))

-- the lines and the summary are what has to be written
output : (g : given.Over) (c : After-as_slice g) (text : List ℕ)
    → (let es : List Entry = entries_of c.loop-simulation.invariant.0.read in
    es ≡ entries Lackey text
    → csim_text c.args.geometry (shows g) text ≡ csim_lines c.args.geometry (shows g)
    es ++ c.as_slice.result.now)
output g c text all =
    let es = entries_of c.loop-simulation.invariant.0.read in
    let last = c.as_slice.ensures ∙ c.set_summary.ensures
    ∙ ap summary (c.counts.ensures.trace c.args.geometry
    (data_of es) c.loop-simulation.invariant.0.holds.0) in
    ap (λ xs. csim_lines c.args.geometry (shows g) xs ++
    summary (counts c.args.geometry (data_of xs))) (sym all)
    ∙ ap (λ l. csim_lines c.args.geometry (shows g) es ++ l) (sym last)

pub returns-in_err-write_last : goal.returns-in_err-write_last
unfolding csim_task
returns-in_err-write_last g c =
    let so_far = c.loop-simulation.invariant.0 in
    let ended = c.in_ok-entry.was ∙ ap Ok c.in_default.is in
    let task = csim_task c.args.geometry (shows g) c.args.max_lines in
    Performs-write (err_is c.from_residual-in_err-write_last.ensures.1)
    (run-unfinished {task = task} (reads-end so_far c.next_ahead.ensures.reached c.in_ok-entry.was
    c.in_default.is) so_far.holds.1 _
    (rw ended at c.next_ahead.ensures.reports)
    (output g (goal.at.returns-in_err-write_last g c).After-as_slice)
    c.in_err-write_last.ensures)

pub returns : goal.returns
unfolding csim_task
returns g c =
    let so_far = c.loop-simulation.invariant.0 in
    let ended = c.in_ok-entry.was ∙ ap Ok c.in_default.is in
    let task = csim_task c.args.geometry (shows g) c.args.max_lines in
    Performs-ok tt refl
    (run-finished {task = task} (reads-end so_far c.next_ahead.ensures.reached c.in_ok-entry.was
    c.in_default.is) so_far.holds.1 _
    (rw ended at c.next_ahead.ensures.reports) (output g (goal.at.returns g c).After-as_slice)
    c.in_ok-write_last.ensures)
