-- What `log` has read, stepped through and written where it stands, and so what it performs at each
-- of its ends.
use Rattle.std.proofs.Common.{Ok, [], refl, sym, ap, ◌∙◌, append-nil, arith}
use Rattle.trace_core.specs.declared.events.Kind.TheVariants.{All}
use Rattle.trace_core.specs.Task.{entries_of}
use Rattle.trace_core.proofs.EntryEvents.{events_within}
use Rattle.trace_core.proofs.Performing.{err_is, Performs-ok, Performs-trace, Performs-write}
use Rattle.trace_core.proofs.WholeTraces.{reads-none, reads-more, reads-end, reads-fault}
use Rattle.trace_core.proofs.WholeTraces.{not-ahead, begins-ahead}
use Rattle.trace_core.proofs.WholeTraces.{run-stopped, run-finished, run-unfinished, run-broken}
use Rattle.trace_core.proofs.Written.{Wrote-none}
use Rattle.commands.specs.LogText.{log_lines, log_task}
use Rattle.commands.proofs.LogLemmas.{all_of, along, lines-more, logged-more}
use Rattle.commands.proofs.log.log.Goals as goal

pub loop-system-init : goal.loop-system-init
loop-system-init g c = (
  reads-none _ (not-ahead _ _ c.none-ahead.ensures ∙ c.in_ok-lines.ensures) (
    c.in_ok-system.ensures.stands,
    Wrote-none _,
  ),
  begins-ahead _ _ c.none-ahead.ensures,
)

pub step-requires : goal.step-requires
step-requires g c =
    let so_far = c.loop-system.invariant.0 in
    let bears = rw c.in-Some.is at c.in_ok-entry.ensures.entry in
    omega (
      arith,
      so_far.few,
      so_far.holds.0.steps,
      events_within All (entries_of so_far.read),
      bears.1,
      c.next_ahead.ensures.within,
      c.next_ahead.ensures.limited,
    )

pub loop-system-preserved : goal.loop-system-preserved
loop-system-preserved g c =
    let so_far = c.loop-system.invariant.0 in
    let a = c.args in
    let es = entries_of so_far.read in
    let stepped = c.step.ensures a.plan a.seed (all_of es) c.in_ok-system.ensures.limits
    so_far.holds.0 in
    let next = c.next_ahead.ensures in (
      reads-more so_far next.reached next.entry c.in_ok-entry.was c.in-Some.is
          (logged-more a.plan a.seed es c.in-Some.entry _ so_far.holds stepped.0
          (c.as_slice.ensures ∙ stepped.1) c.in_ok-write_all.ensures),
      next.ahead,
    )

pub returns-in_err-entry : goal.returns-in_err-entry
unfolding log_task
returns-in_err-entry g c =
    let so_far = c.loop-system.invariant.0 in
    let a = c.args in
    let run = reads-fault so_far c.next_ahead.ensures.reached c.in_err-entry.was in
    Performs-trace c.in_err-entry.field-0.0 (err_is c.from_residual-in_err-entry.ensures.1)
    (run-stopped {task = log_task a.plan a.seed a.format a.max_lines} run so_far.holds.1
    c.in_err-entry.field-0.0
    (rw c.in_err-entry.was at c.next_ahead.ensures.reports)) (λ late. absurd cc)

pub returns-in_err-write_all : goal.returns-in_err-write_all
unfolding log_task
returns-in_err-write_all g c =
    let so_far = c.loop-system.invariant.0 in
    let a = c.args in
    let es = entries_of so_far.read in
    let stepped = c.step.ensures a.plan a.seed (all_of es) c.in_ok-system.ensures.limits
    so_far.holds.0 in
    Performs-write (err_is c.from_residual-in_err-write_all.ensures.1)
    (run-broken {task = log_task a.plan a.seed a.format a.max_lines} refl
    (along a.plan a.seed a.format a.max_lines) so_far
    c.next_ahead.ensures.reached c.next_ahead.ensures.reports c.in_ok-entry.was c.in-Some.is
    so_far.holds.1
    (lines-more a.plan a.seed es c.in-Some.entry _ (c.as_slice.ensures ∙ stepped.1))
    c.in_err-write_all.ensures)

pub returns-in_err-write_last : goal.returns-in_err-write_last
unfolding log_task
returns-in_err-write_last g c =
    let so_far = c.loop-system.invariant.0 in
    let a = c.args in
    let lines = log_lines a.plan a.seed in
    Performs-write (err_is c.from_residual-in_err-write_last.ensures.1)
    (run-unfinished {task = log_task a.plan a.seed a.format a.max_lines}
    (reads-end so_far c.next_ahead.ensures.reached c.in_ok-entry.was c.in_default.is)
    so_far.holds.1 []
    (rw (c.in_ok-entry.was ∙ ap Ok c.in_default.is) at c.next_ahead.ensures.reports)
    (λ text all. ap lines (sym all) ∙ sym (append-nil (lines (entries_of so_far.read))))
    c.in_err-write_last.ensures)

pub returns : goal.returns
unfolding log_task
returns g c =
    let so_far = c.loop-system.invariant.0 in
    let a = c.args in
    let lines = log_lines a.plan a.seed in
    Performs-ok tt refl
    (run-finished {task = log_task a.plan a.seed a.format a.max_lines}
    (reads-end so_far c.next_ahead.ensures.reached c.in_ok-entry.was c.in_default.is)
    so_far.holds.1 []
    (rw (c.in_ok-entry.was ∙ ap Ok c.in_default.is) at c.next_ahead.ensures.reports)
    (λ text all. ap lines (sym all) ∙ sym (append-nil (lines (entries_of so_far.read))))
    c.in_ok-write_last.ensures)
