-- What `din` performs at a fault of the trace, at a failure of the sink, and at its end.
use Rattle.std.proofs.Common.{◌≡◌, ℕ, List, [], refl, sym, ap, ◌∙◌}
use Rattle.std.specs.List.{flat_map}
use Rattle.trace_core.specs.declared.events.Kind.TheVariants.{All}
use Rattle.trace_core.specs.Events.{events_of}
use Rattle.trace_core.specs.Reading.{entries}
use Rattle.trace_core.specs.Task.{entries_of}
use Rattle.trace_core.proofs.Performing.{err_is, Performs-ok, Performs-trace, Performs-write}
use Rattle.trace_core.proofs.WholeTraces.{read-from, run-stopped, run-finished, run-unfinished}
use Rattle.trace_core.proofs.Written.{Wrote-none}
use Rattle.cache_core.specs.system.Systems.{system_run}
use Rattle.commands.specs.DinText.{din_task, report_of}
use Rattle.commands.proofs.din.din.Given as given
use Rattle.commands.proofs.din.din.Goals as goal
use Rattle.commands.proofs.din.din.Goals.{After-as_slice}

pub returns-in_err-stats : goal.returns-in_err-stats
unfolding din_task
returns-in_err-stats g c =
    let a = c.args in
    let fault = c.in_err-stats.field-0.0 in
    let run = read-from c.in_ok-lines.ensures c.stats_of_trace.ensures.stepped.1 in
    Performs-trace fault (err_is c.from_residual-in_err-stats.ensures.1)
    (run-stopped {task = din_task a.plan a.seed a.format a.max_lines} run
    (Wrote-none (g.K.Sink.view a.sink.now)) fault
    c.in_err-stats.ensures.reports) (λ late. refl)

-- the report of the system is what has to be written
output : (g : given.Over) (c : After-as_slice g) (text : List ℕ)
    → entries_of c.in_ok-stats.ensures.stepped.1.read ≡ entries c.args.format text
    → report_of (system_run c.args.plan c.args.seed
    (flat_map (events_of All) (entries c.args.format text))) ≡ c.as_slice.result.now
output g c text all =
    let run = c.in_ok-stats.ensures.stepped in
    let stands = run.1.holds c.args.plan c.args.seed [] c.in_ok-system.ensures.limits
    c.in_ok-system.ensures.stands in
    sym (c.as_slice.ensures ∙ c.set_report.ensures ∙ ap report_of (run.2 ∙ stands.stats
    ∙ ap (λ es. system_run c.args.plan c.args.seed (flat_map (events_of All) es)) all))

pub returns-in_err-write_last : goal.returns-in_err-write_last
unfolding din_task
returns-in_err-write_last g c =
    let a = c.args in
    let run = read-from c.in_ok-lines.ensures c.in_ok-stats.ensures.stepped.1 in
    Performs-write (err_is c.from_residual-in_err-write_last.ensures.1)
    (run-unfinished {task = din_task a.plan a.seed a.format a.max_lines} run
    (Wrote-none (g.K.Sink.view a.sink.now)) _
    c.in_ok-stats.ensures.reports (output g (goal.at.returns-in_err-write_last g c).After-as_slice)
    c.in_err-write_last.ensures)

pub returns : goal.returns
unfolding din_task
returns g c =
    let a = c.args in
    let run = read-from c.in_ok-lines.ensures c.in_ok-stats.ensures.stepped.1 in
    Performs-ok tt refl
    (run-finished {task = din_task a.plan a.seed a.format a.max_lines} run
    (Wrote-none (g.K.Sink.view a.sink.now)) _
    c.in_ok-stats.ensures.reports (output g (goal.at.returns g c).After-as_slice)
    c.in_ok-write_last.ensures)
