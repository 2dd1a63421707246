-- The loop of `din` goes on while the reader has lines left.
use Rattle.std.proofs.Common.{◌+◌, ◌-◌, ◌*◌, ◌≤◌, length}
use Rattle.std.specs.List.{flat_map}
use Rattle.trace_core.specs.declared.events.Kind.TheVariants.{All}
use Rattle.trace_core.specs.Events.{events_of}
use Rattle.trace_core.specs.Reader.{IsAhead, progress_ahead}
use Rattle.trace_core.proofs.WholeTraces.{Reads}
use Rattle.commands.specs.internal.DinPass.{AddsEvents}
use Rattle.commands.proofs.din.stats_of_trace.Given as goal

-- the system was stepped through the entries that were read, at most two references each
abbrev pub invariant-loop-system : goal.invariant-loop-system
invariant-loop-system g l =
    Reads l.fn.lines.format l.fn.lines.limit (g.S.Source.view l.initial.source)
    (g.S.Source.view l.source) (progress_ahead l.lines l.ahead)
    (λ es. AddsEvents l.fn.system (flat_map (events_of All) es) l.system
    × (l.system.steps ≤ 2 * length es)) × IsAhead l.lines l.ahead

abbrev pub decreases-loop-system : goal.decreases-loop-system
decreases-loop-system g l = l.lines.limit - (l.ahead.lines + l.lines.lines)
