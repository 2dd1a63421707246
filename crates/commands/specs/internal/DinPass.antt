-- The events through which `din` has stepped its caches.
use Rattle.std.specs.Prelude.{ℕ, List, ◌++◌}
use Rattle.trace_core.specs.declared.events.Event.{Event}
use Rattle.cache_core.specs.system.SystemSteps.{SystemValue}
use Rattle.cache_core.specs.system.Plans.{PlannedCaches, IsPlan}
use Rattle.cache_core.specs.system.SystemStands.{SystemStandsFor}

-- a system that stood for some events stands for these events too
abbrev pub AddsEvents : SystemValue → List Event → SystemValue → Type 0
AddsEvents old more new = (plan : PlannedCaches) (seed : ℕ) (events : List Event) → IsPlan plan
    → SystemStandsFor plan seed events old → SystemStandsFor plan seed (events ++ more) new
