-- A sweep does its task: it reads and counts, writes the rows of what was read, and answers the
-- comparisons.
use Rattle.std.proofs.Common.{Err, refl, ap, ◌∙◌}
use Rattle.trace_core.proofs.Performing.{err_is, Finished-written, WriteFailed-late, Performs-ok}
use Rattle.trace_core.proofs.Performing.{Performs-write}
use Rattle.sweep_core.proofs.FullSweeping.{full-stopped, full-whole, full-works}
use Rattle.sweep_core.proofs.full.sweep_full.Goals as goal

pub returns-in_err-write_full_table-clause-performs :
    goal.returns-in_err-write_full_table-clause-performs
returns-in_err-write_full_table-clause-performs g c =
    let read = c.in_ok-counts.ensures.reads in
    Performs-write (err_is c.from_residual-in_err-write_full_table.ensures.1)
    (WriteFailed-late (full-whole c.args.request.now read.0 read.1)
    c.in_err-write_full_table.ensures)

pub returns-clause-performs : goal.returns-clause-performs
returns-clause-performs g c =
    let read = c.in_ok-counts.ensures.reads in
    Performs-ok c.comparisons.result refl
    (Finished-written (full-whole c.args.request.now read.0 read.1)
    c.in_ok-write_full_table.ensures)

pub returns-clause-work : goal.returns-clause-work
returns-clause-work g c =
    full-works c.args.request.now (g.S.Source.view c.args.source.now) _ c.comparisons.result
    c.comparisons.ensures c.in_ok-counts.ensures.counts

pub returns-in_err-counts-clause-performs : goal.returns-in_err-counts-clause-performs
returns-in_err-counts-clause-performs g c =
    full-stopped c.args.request.now c.in_err-counts.field-0.0 (err_is c.from_residual.ensures.1)
    c.in_err-counts.ensures.reads
    (λ memory. c.read.ensures.memory (c.in_err-counts.was ∙ ap (λ e. Err e) memory))
