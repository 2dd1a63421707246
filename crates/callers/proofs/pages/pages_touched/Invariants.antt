use Rattle.std.proofs.Common.{◌≡◌, ◌≤◌, ◌*◌, ◌-◌, ℕ, List, fold}
use Rattle.trace_core.specs.Reader.{Reached}
use Rattle.trace_core.specs.declared.events.Entry.{Entry}
use Rattle.trace_core.specs.declared.limits.TheConstants.{MAX_LINES}
use Rattle.cache_core.specs.Geometry.{geometry_value}
use Rattle.profile_core.specs.profile.State.{empty, after_event, fed_of}
use Rattle.callers.proofs.Touching.{events_in}
use Rattle.callers.proofs.pages.pages_touched.Given as goal

-- the entries so far were fed
abbrev pub invariant-loop-profile : goal.invariant-loop-profile
invariant-loop-profile g l =
    (xs : List (ℕ × Entry)) × Reached l.fn.format MAX_LINES (g.S.Source.view l.initial.source)
    (g.S.Source.view l.source) xs l.lines
    × (l.profile ≡ fold after_event (empty (geometry_value 0 65536 12)) (events_in xs))
    × (fed_of l.profile ≤ 2 * l.lines.lines)

abbrev pub decreases-loop-profile : goal.decreases-loop-profile
decreases-loop-profile g l = l.lines.limit - l.lines.lines
