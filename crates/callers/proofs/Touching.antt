-- A profile to which the entries of a trace were fed.
use Rattle.std.proofs.Common.{◌≡◌, ℕ, List, [], ◌∷◌, ◌++◌, Option, None, Some, fold, refl, ap, sym}
use Rattle.std.proofs.Common.{◌∙◌, subst}
use Rattle.std.specs.Prelude.{IfSome, flat_map}
use Rattle.std.proofs.lemmas.List.Sums.{fold-append}
use Rattle.trace_core.specs.Events.{events_of}
use Rattle.trace_core.specs.Task.{entries_of}
use Rattle.trace_core.specs.declared.events.Entry.{Entry}
use Rattle.trace_core.specs.declared.events.Event.{Event}
use Rattle.trace_core.specs.declared.events.Kind.TheVariants.{All}
use Rattle.cache_core.specs.Geometry.{GeometryValue}
use Rattle.cache_core.specs.Windows.{held}
use Rattle.profile_core.specs.profile.State.{ProfileState, empty, after_event}
use Rattle.profile_core.specs.profile.ProfileStandsFor.{ProfileStandsFor}

-- the events of some entries
abbrev pub events_in : List (ℕ × Entry) → List Event
events_in xs = flat_map (events_of All) (entries_of xs)

-- one entry more
pub fed_more : (v : ProfileState) (xs : List (ℕ × Entry)) (x : ℕ × Entry) →
    events_in (xs ++ x ∷ []) ≡ events_in xs ++ events_of All x.1
    → fold after_event v (events_in (xs ++ x ∷ [])) ≡ fold after_event
    (fold after_event v (events_in xs)) (events_of All x.1)
fed_more v xs x more = ap (fold after_event v) more ∙ fold-append after_event v (events_in xs)
    (events_of All x.1)

-- what a profile holds at the end of a trace
pub held_at_end : (g : GeometryValue) (es fed : List Event) (v : ProfileState) (n : ℕ) → fed ≡ es
    → ProfileStandsFor es (fold after_event (empty g) es) →
    (fold after_event (empty g) es).geometry ≡ (empty g).geometry
    → v ≡ fold after_event (empty g) fed → ((xs : List Event) → ProfileStandsFor xs v →
    n ≡ held v.geometry xs) → n ≡ held g es
held_at_end g es fed v n same stands geometry is trace =
    let whole : v ≡ fold after_event (empty g) es = is ∙ ap (fold after_event (empty g)) same in
    trace es (subst (ProfileStandsFor es) (sym whole) stands) ∙
    ap (λ (h : GeometryValue). held h es) (ap (λ w. w.geometry) whole ∙ geometry)

-- where the text is known
pub if_known : (o : Option (List ℕ)) (P : List ℕ → Type 0) →
    ((text : List ℕ) → o ≡ Some text → P text) → IfSome o P
if_known None P holds = tt
if_known (Some text) P holds = holds text refl
