-- The loop of `log` goes on while the reader has lines left.
use Rattle.std.proofs.Common.{◌+◌, ◌-◌}
use Rattle.trace_core.specs.Reader.{IsAhead, progress_ahead}
use Rattle.trace_core.proofs.WholeTraces.{Reads}
use Rattle.commands.proofs.LogLemmas.{Logged}
use Rattle.commands.proofs.log.log.Given as goal

-- what was read, stepped through and written
abbrev pub invariant-loop-system : goal.invariant-loop-system
invariant-loop-system g l =
    let source = g.S.Source.view in
    let sink = g.K.Sink.view in
    Reads l.fn.format l.fn.max_lines (source l.initial.source) (source l.source)
    (progress_ahead l.lines l.ahead)
    (Logged l.fn.plan l.fn.seed (sink l.initial.sink) (sink l.sink) l.system)
    × IsAhead l.lines l.ahead

abbrev pub decreases-loop-system : goal.decreases-loop-system
decreases-loop-system g l = l.lines.limit - (l.ahead.lines + l.lines.lines)
