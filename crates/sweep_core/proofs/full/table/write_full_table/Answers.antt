-- The header and the rows are written, and then the sink is flushed.
use Rattle.std.proofs.lemmas.Result.{err_from_is_err_and}
use Rattle.trace_core.proofs.Written.{Wrote-more, WrotePart-more, WrotePart-after}
use Rattle.trace_core.proofs.Written.{WroteLastPart-unflushed, WritesLast-flushes}
use Rattle.sweep_core.specs.FullText.{full_csv_rows}
use Rattle.sweep_core.proofs.full.table.write_full_table.Goals as goal

pub returns-in_err-write_all : goal.returns-in_err-write_all
returns-in_err-write_all g c =
    let p = err_from_is_err_and c.from_residual.result c.from_residual.ensures.1 in
    let header = rw c.full_header.ensures at c.in_err-write_all.ensures in
    rw p.1 (WroteLastPart-unflushed (WrotePart-more (full_csv_rows c.args.counts.now.rows) header))

pub returns-in_err-write_full_rows : goal.returns-in_err-write_full_rows
returns-in_err-write_full_rows g c =
    let p = err_from_is_err_and c.from_residual-in_err-write_full_rows.result
    c.from_residual-in_err-write_full_rows.ensures.1 in
    let header = rw c.full_header.ensures at c.in_ok-write_all.ensures in
    rw p.1 (WroteLastPart-unflushed
    (WrotePart-after header (rw c.rows.ensures.rows at c.in_err-write_full_rows.ensures)))

pub returns : goal.returns
returns g c =
    let header = rw c.full_header.ensures at c.in_ok-write_all.ensures in
    WritesLast-flushes c.flush.result
    (Wrote-more header (rw c.rows.ensures.rows at c.in_ok-write_full_rows.ensures)) c.flush.ensures
