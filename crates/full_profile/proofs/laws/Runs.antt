-- A full profile that is fed a list of events: the plain profile within it, and one event more.
use Rattle.std.proofs.Common.{◌≡◌, List, [], ◌∷◌, ◌++◌, refl, sym, ◌∙◌, ap, subst, append-nil}
use Rattle.std.proofs.Common.{append_assoc, fold}
use Rattle.std.proofs.lemmas.List.Sums.{fold_push}
use Rattle.trace_core.specs.declared.events.Event.{Event}
use Rattle.trace_core.specs.declared.events.Event.TheVariants as event
use Rattle.cache_core.specs.Geometry.{GeometryValue}
use Rattle.profile_core.specs.profile.State.{empty, after_event}
use Rattle.profile_core.proofs.profile.Runs.{geometry_after}
use Rattle.full_profile.specs.State.{FullState, empty_full, after_full_event, full_after}

pub plain_event : (v : FullState) (e : Event) →
    (after_full_event v e).plain ≡ after_event v.plain e
plain_event v (event.Reference r) = refl
plain_event v event.Flush = refl

pub plain_from : (es : List Event) (v : FullState) →
    (fold after_full_event v es).plain ≡ fold after_event v.plain es
plain_from [] v = refl
plain_from (e ∷ es) v = plain_from es (after_full_event v e) ∙
    ap (λ w. fold after_event w es) (plain_event v e)

pub plain_part : (g : GeometryValue) (es : List Event) →
    (full_after g es).plain ≡ fold after_event (empty g) es
plain_part g es = plain_from es (empty_full g)

pub geometry_stays : (g : GeometryValue) (es : List Event) → (full_after g es).plain.geometry ≡ g
geometry_stays g es = ap (λ p. p.geometry) (plain_part g es) ∙ geometry_after es (empty g)

-- what holds of no events, and of one more where it holds of some
pub each_event : (P : List Event → Type 0) → P [] →
    ((es : List Event) (e : Event) → P es → P (es ++ e ∷ [])) → (es : List Event) → P es
each_event P none more es = with_more [] es none
  where
    with_more : (before es : List Event) → P before → P (before ++ es)
    with_more before [] h = subst P (sym (append-nil before)) h
    with_more before (e ∷ es) h =
        subst P (append_assoc before (e ∷ []) es)
        (with_more (before ++ e ∷ []) es (more before e h))

pub after_more : (g : GeometryValue) (es : List Event) (e : Event) →
    full_after g (es ++ e ∷ []) ≡ after_full_event (full_after g es) e
after_more g es e = fold_push after_full_event (empty_full g) es e
