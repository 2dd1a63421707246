use Rattle.trace_core.specs.Reader.{Reached}
use Rattle.trace_core.specs.declared.limits.TheConstants.{MAX_LINES}
use Rattle.std.proofs.Common.{◌-◌}
use Rattle.callers.proofs.readers.all_entries.Given as goal

-- the entries are those that the reader returned so far
abbrev pub invariant-loop-given : goal.invariant-loop-given
invariant-loop-given g l =
    Reached l.fn.format MAX_LINES (g.S.Source.view l.initial.source) (g.S.Source.view l.source)
    l.given.items l.lines

abbrev pub decreases-loop-given : goal.decreases-loop-given
decreases-loop-given g l = l.lines.limit - l.lines.lines
