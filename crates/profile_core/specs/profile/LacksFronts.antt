-- Profiles that count later the references that find their block in front.
use Rattle.std.specs.Prelude.{ℕ, ◌≤◌, ◌-◌, List}
use Rattle.trace_core.specs.declared.events.Event.{Event}
use Rattle.profile_core.specs.profile.State.{ProfileState, fed_of}
use Rattle.profile_core.specs.profile.Fronts.{after_fronts}
use Rattle.profile_core.specs.profile.ProfileStandsFor.{ProfileStandsFor}

-- a profile that was fed some events, with n references in all, except some that found their block
-- in front: once these are counted, it stands for the events
pub record LacksFronts (n : ℕ) (es : List Event) (v : ProfileState) : Type 0 where
  pub few : fed_of v ≤ n
  pub caught : ProfileStandsFor es (after_fronts (n - fed_of v) v)
