-- What was read was fed, except references that wait or that a profile finds in front, and each
-- line that is read brings the end nearer.
use Rattle.std.proofs.Common.{◌≡◌, ◌+◌, ◌-◌, ◌*◌, ◌≤◌, length}
use Rattle.std.specs.List.{flat_map}
use Rattle.trace_core.specs.Events.{events_of}
use Rattle.trace_core.specs.declared.limits.TheConstants.{MAX_LINES}
use Rattle.trace_core.specs.Reader.{IsAhead, progress_ahead}
use Rattle.trace_core.proofs.WholeTraces.{Reads}
use Rattle.sweep_core.specs.internal.Full.{full_pairs_after, full_pairs_caught, full_pairs_fed}
use Rattle.sweep_core.specs.internal.Full.{FullWaiting, AreNoSmallerFull}
use Rattle.sweep_core.proofs.full.pass.read_full_entries.Given as goal

-- the entries that were read were fed or wait, at most two references each
abbrev pub invariant-loop-entry : goal.invariant-loop-entry
invariant-loop-entry g l =
    Reads l.fn.lines.format l.fn.lines.limit (g.S.Source.view l.initial.source)
    (g.S.Source.view l.source) (progress_ahead l.lines l.ahead)
    (λ es. (full_pairs_caught l.batch.added (full_pairs_fed l.batch.waiting l.profiles)
    ≡ full_pairs_after (flat_map (events_of l.kind) es) l.fn.profiles)
    × FullWaiting l.batch.added l.batch.waiting l.profiles × (l.batch.added ≤ 2 * length es))
    × (l.ahead.lines + l.lines.lines ≤ MAX_LINES) × AreNoSmallerFull l.size l.profiles
    × IsAhead l.lines l.ahead

abbrev pub decreases-loop-entry : goal.decreases-loop-entry
decreases-loop-entry g l = l.lines.limit - (l.ahead.lines + l.lines.lines)
