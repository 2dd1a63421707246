-- A profile that is fed a list of events.
use Rattle.std.proofs.Common.{◌≡◌, List, [], ◌∷◌, ◌++◌, refl, sym, ◌∙◌, subst, append-nil}
use Rattle.std.proofs.Common.{append_assoc}
use Rattle.std.specs.Prelude.{fold}
use Rattle.trace_core.specs.declared.events.Event.{Event}
use Rattle.trace_core.specs.declared.events.Event.TheVariants as event
use Rattle.cache_core.specs.Geometry.{GeometryValue, IsGeometry}
use Rattle.profile_core.specs.profile.State.{ProfileState, empty, after_event}
use Rattle.profile_core.specs.profile.ProfileStandsFor.{ProfileStandsFor}
use Rattle.profile_core.proofs.profile.Stands.{new_stands, reference_stands, flush_stands}

pub event_stands : (es : List Event) (v : ProfileState) (e : Event) → ProfileStandsFor es v →
    ProfileStandsFor (es ++ e ∷ []) (after_event v e)
event_stands es v (event.Reference r) h = reference_stands es v r h
event_stands es v event.Flush h = flush_stands es v h

-- more events after those that a profile stands for
pub stands_with : (before es : List Event) (v : ProfileState) → ProfileStandsFor before v →
    ProfileStandsFor (before ++ es) (fold after_event v es)
stands_with before [] v h = subst (λ (xs : List Event). ProfileStandsFor xs v)
    (sym (append-nil before)) h
stands_with before (e ∷ es) v h =
    subst (λ (xs : List Event). ProfileStandsFor xs (fold after_event (after_event v e) es))
    (append_assoc before (e ∷ []) es)
    (stands_with (before ++ e ∷ []) es (after_event v e) (event_stands before v e h))

pub stands_after : (g : GeometryValue) (es : List Event) → IsGeometry g →
    ProfileStandsFor es (fold after_event (empty g) es)
stands_after g es h = stands_with [] es (empty g) (new_stands g h)

geometry_step : (v : ProfileState) (e : Event) → (after_event v e).geometry ≡ v.geometry
geometry_step v (event.Reference r) = refl
geometry_step v event.Flush = refl

pub geometry_after : (es : List Event) (v : ProfileState) →
    (fold after_event v es).geometry ≡ v.geometry
geometry_after [] v = refl
geometry_after (e ∷ es) v = geometry_after es (after_event v e) ∙ geometry_step v e
