use Rattle.std.proofs.Common.{◌≡◌, ◌*◌, map, take, fold}
use Rattle.trace_core.specs.declared.events.Event.TheVariants as event
use Rattle.cache_core.specs.Geometry.{geometry_value}
use Rattle.profile_core.specs.profile.State.{empty, after_event, fed_of}
use Rattle.callers.proofs.doubling.counts_at_double.Given as goal

-- the profile was fed the references so far
abbrev pub invariant-loop-reference : goal.invariant-loop-reference
invariant-loop-reference l =
    (l.profile ≡ fold after_event (empty (geometry_value 0 (l.e * 2) l.b))
    (map event.Reference (take l.reference-index l.refs)))
    × (fed_of l.profile ≡ l.reference-index)
    × (l.profile.geometry ≡ geometry_value 0 (l.e * 2) l.b)
