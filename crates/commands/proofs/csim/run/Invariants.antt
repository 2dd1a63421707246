-- The loop of `csim` goes on while the reader has lines left.
use Rattle.std.proofs.Common.{◌+◌, ◌-◌}
use Rattle.trace_core.specs.declared.line.Format.TheVariants.{Lackey}
use Rattle.trace_core.specs.Reader.{IsAhead, progress_ahead}
use Rattle.trace_core.proofs.WholeTraces.{Reads}
use Rattle.commands.proofs.CsimLemmas.{Simulated, is_verbose}
use Rattle.commands.proofs.csim.run.Given as goal

-- what was read, simulated and written
abbrev pub invariant-loop-simulation : goal.invariant-loop-simulation
invariant-loop-simulation g l =
    let source = g.S.Source.view in
    let sink = g.K.Sink.view in
    Reads Lackey l.fn.max_lines (source l.initial.source) (source l.source)
    (progress_ahead l.lines l.ahead)
    (Simulated l.fn.geometry (is_verbose g.row.VERBOSE) (sink l.initial.sink) (sink l.sink)
    l.simulation) × IsAhead l.lines l.ahead

abbrev pub decreases-loop-simulation : goal.decreases-loop-simulation
decreases-loop-simulation g l = l.lines.limit - (l.ahead.lines + l.lines.lines)
