-- What was read was fed, but for references that wait or that a profile finds in front, and each
-- line that is read brings the end nearer.
use Rattle.std.proofs.Common.{◌≡◌, ◌+◌, ◌-◌, ◌*◌, ◌<◌, ◌≤◌, length}
use Rattle.std.specs.List.{flat_map}
use Rattle.trace_core.specs.Events.{events_of}
use Rattle.trace_core.specs.declared.limits.TheConstants.{MAX_LINES}
use Rattle.trace_core.specs.Reader.{IsAhead, progress_ahead}
use Rattle.trace_core.proofs.WholeTraces.{Reads}
use Rattle.sweep_core.specs.declared.batch.TheConstants.{BATCH}
use Rattle.sweep_core.specs.internal.Pass.{profiles_after}
use Rattle.sweep_core.specs.internal.Feeding.{profiles_with_fronts, profiles_after_batch}
use Rattle.sweep_core.specs.internal.Waiting.{AreWaiting, AreNoSmaller, kept_counts}
use Rattle.sweep_core.proofs.pass.read_entries.Given as goal

-- the entries that were read were fed or wait, at most two references each
abbrev pub invariant-loop-entry : goal.invariant-loop-entry
invariant-loop-entry g l =
    Reads l.fn.lines.format l.fn.lines.limit (g.S.Source.view l.initial.source)
    (g.S.Source.view l.source) (progress_ahead l.lines l.ahead)
    (λ es. (profiles_with_fronts l.batch.added (profiles_after_batch l.batch.waiting l.profiles)
    ≡ profiles_after (flat_map (events_of l.fn.kind) es) l.fn.profiles)
    × AreWaiting l.batch.added l.batch.waiting l.profiles × (l.batch.added ≤ 2 * length es))
    × (l.ahead.lines + l.lines.lines ≤ MAX_LINES) × AreNoSmaller l.size l.profiles
    × (l.counts ≡ kept_counts l.fn.kind) × (length l.batch.waiting < BATCH)
    × IsAhead l.lines l.ahead

abbrev pub decreases-loop-entry : goal.decreases-loop-entry
decreases-loop-entry g l = l.lines.limit - (l.ahead.lines + l.lines.lines)
