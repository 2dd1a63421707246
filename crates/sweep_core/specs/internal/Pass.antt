-- The profiles of a sweep after some events.
use Rattle.std.specs.Prelude.{◌≡◌, ◌≤◌, ℕ, None, List, map, filter, flat_map, fold, Result, Ok, Err}
use Rattle.std.specs.List.{AllByRecursion}
use Rattle.trace_core.specs.declared.events.Ref.{Ref}
use Rattle.trace_core.specs.declared.events.Event.{Event}
use Rattle.trace_core.specs.declared.events.Event.TheVariants as event
use Rattle.trace_core.specs.Device.{SourceView}
use Rattle.trace_core.specs.Events.{events_of, is_kept}
use Rattle.trace_core.specs.Reader.{Progress}
use Rattle.trace_core.specs.Task.{HasRead}
use Rattle.trace_core.specs.declared.events.Kind.{Kind}
use Rattle.trace_core.specs.declared.line.Format.{Format}
use Rattle.trace_core.specs.declared.fault.TraceFault.{TraceFault}
use Rattle.trace_core.specs.declared.state.ReaderState.{ReaderState}
use Rattle.trace_core.specs.declared.state.ReaderState.TheVariants as state
use Rattle.cache_core.specs.Geometry.{IsGeometry}
use Rattle.profile_core.specs.profile.State.{empty, after_flush, after_event}
use Rattle.sweep_core.specs.declared.space.Config.{Config}
use Rattle.sweep_core.specs.declared.request.Request.{Request}
use Rattle.sweep_core.specs.declared.profiles.PairProfile.{PairProfile}
use Rattle.sweep_core.specs.Space.{space_fault}
use Rattle.sweep_core.specs.SweepText.{configs_of, rows_of}
use Rattle.sweep_core.specs.Work.{pair_of, pairs, geometry_of_pair}
use Rattle.sweep_core.specs.internal.Runs.{rows_of_profile}

-- the profile of a pair after a flush
abbrev pub pair_after_flush : PairProfile → PairProfile
pair_after_flush x = record x { profile = after_flush x.profile }

-- the profile of a pair after some events
abbrev pub pair_after_events : List Event → PairProfile → PairProfile
pair_after_events es x = record x { profile = fold after_event x.profile es }

-- those of some references that a kind keeps, as events
abbrev pub kept_events : Kind → List Ref → List Event
kept_events kind refs = map event.Reference (filter (λ r. is_kept kind r.access) refs)

-- some profiles after some events
abbrev pub profiles_after : List Event → List PairProfile → List PairProfile
profiles_after es xs = map (pair_after_events es) xs

-- a profile was made for the rows of its pair, within the limits and as deep as the greatest
-- associativity of the pair in all, and was fed some events
pub record WasFed (all : List Config) (es : List Event) (x : PairProfile) : Type 0 where
  pub some : 1 ≤ x.row_count
  pub sound : IsGeometry (geometry_of_pair all (pair_of x.first))
  pub is : x.profile ≡ fold after_event (empty (geometry_of_pair all (pair_of x.first))) es

-- The profiles of a sweep after some events: one for each pair that has a row, and their rows are
-- those of the sweep, in order.
pub record SweepStandsFor (r : Request) (es : List Event)
    (profiles : List PairProfile) : Type 0 where
  pub space : space_fault r.space ≡ None
  pub pairs : map (λ x. pair_of x.first) profiles ≡ pairs (rows_of r)
  pub rows : flat_map (rows_of_profile r.space.powers) profiles ≡ rows_of r
  pub fed : AllByRecursion (WasFed (configs_of r) es) profiles

-- the state of a reader that returned this
abbrev pub state_after : Result (Unit {0}) TraceFault → ReaderState
state_after (Ok done) = state.Ended
state_after (Err fault) = state.Failed fault

-- entries were read from a source, and their events were fed to each profile
abbrev pub Feeds : Kind → Format → ℕ → SourceView → SourceView → Progress → List PairProfile →
    List PairProfile → Type 0
Feeds kind format limit start now p old new =
    HasRead format limit start now p (λ es. new ≡ profiles_after (flat_map (events_of kind) es) old)
