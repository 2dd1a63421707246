-- How a simulation follows the data references of an entry.
use Rattle.std.proofs.Common.{◌≡◌, ℕ, true, false, List, [], ◌∷◌, ◌++◌, None, Some, map, refl, sym}
use Rattle.std.proofs.Common.{ap, ap₂, ◌∙◌, append-nil, append_assoc}
use Rattle.std.specs.List.{filter}
use Rattle.std.specs.Option.{option_to_list}
use Rattle.std.proofs.lemmas.List.{map-append}
use Rattle.trace_core.specs.declared.events.Op.{Op}
use Rattle.trace_core.specs.declared.events.Op.TheVariants.{Fetch, Load, Store, Modify}
use Rattle.trace_core.specs.declared.events.Access.TheVariants.{Write}
use Rattle.trace_core.specs.declared.events.Ref.{Ref}
use Rattle.trace_core.specs.declared.events.Event.{Event}
use Rattle.trace_core.specs.declared.events.Event.TheVariants as event
use Rattle.trace_core.specs.declared.events.Kind.TheVariants.{DataOnly}
use Rattle.trace_core.specs.Events.{at, is_kept, references_to}
use Rattle.cache_core.specs.declared.simulation.Lookup.{Lookup}
use Rattle.cache_core.specs.declared.simulation.Simulation.{Simulation}
use Rattle.cache_core.specs.Geometry.{GeometryValue}
use Rattle.cache_core.specs.LruLaws.{occurrence_after}
use Rattle.cache_core.specs.Simulation.{lookup_at, SimulationStandsFor}
use Rattle.cache_core.specs.Windows.{occurrences_after}
use Rattle.cache_core.proofs.Occurrences.{occurrences_after-append}

-- what a step of a simulation over some events shows
abbrev pub Follows : GeometryValue → List Event → Simulation → List Event → Simulation →
    List Lookup → Type 0
Follows g events old more new lookups = SimulationStandsFor g events old
    → SimulationStandsFor g (events ++ more) new ×
    (lookups ≡ map (lookup_at g) (occurrences_after g events more))

pub follows_none : (g : GeometryValue) (events : List Event) (sim : Simulation)
    (more : List Event) → more ≡ [] → Follows g events sim more sim []
unfolding occurrences_after
follows_none g events sim more none h = rw (none, append-nil events) (h, refl)

pub follows_one : (g : GeometryValue) (events : List Event) (old new : Simulation) (r : Ref)
    (more : List Event) (lookup : Lookup)
    → more ≡ event.Reference r ∷ []
    → (SimulationStandsFor g events old → SimulationStandsFor g (events ++ event.Reference r ∷ [])
    new × (lookup ≡ lookup_at g (occurrence_after g events r)))
    → Follows g events old more new (lookup ∷ [])
unfolding occurrences_after
follows_one g events old new r more lookup one step h = let s = step h in
    rw one (s.0, ap (λ l. l ∷ []) s.1)

pub follows_both : (g : GeometryValue) (events : List Event) (old mid new : Simulation)
    (first second : List Event) (a b : List Lookup)
    → Follows g events old first mid a → Follows g (events ++ first) mid second new b →
    Follows g events old (first ++ second) new (a ++ b)
follows_both g events old mid new first second a b one two h =
    let s = one h in
    let t = two s.0 in (
      rw (sym (append_assoc events first second)) t.0,
      ap₂ (λ x y. x ++ y) s.1 t.1
          ∙ sym (map-append (lookup_at g) (occurrences_after g events first)
          (occurrences_after g (events ++ first) second))
          ∙ ap (map (lookup_at g)) (sym (occurrences_after-append g events first second)),
    )

-- the events of an item whose first reference is a fetch, and of one with one data reference or two
module _ (addr : ℕ) where
  abbrev events_to : Op → List Event
  events_to op = map event.Reference (filter (λ r. is_kept DataOnly r.access)
      ((references_to op addr).0 ∷ option_to_list (references_to op addr).1))

  pub no_data : (op : Op) → is_kept DataOnly (references_to op addr).0.access ≡ false →
      events_to op ≡ []
  no_data Fetch is = refl
  no_data Load is = absurd cc
  no_data Store is = absurd cc
  no_data Modify is = absurd cc

  -- An item that made no reference is a fetch.
  pub only_fetch : (g : GeometryValue) (before : List Event) (op : Op) →
      [] ≡ map (lookup_at g) (occurrences_after g before (events_to op)) → op ≡ Fetch
  unfolding occurrences_after
  only_fetch g before Fetch none = refl
  only_fetch g before Load none = absurd cc
  only_fetch g before Store none = absurd cc
  only_fetch g before Modify none = absurd cc

  pub one_datum : (op : Op) → is_kept DataOnly (references_to op addr).0.access ≡ true →
      (references_to op addr).1 ≡ None →
      events_to op ≡ event.Reference (references_to op addr).0 ∷ []
  one_datum Fetch is none = absurd cc
  one_datum Load is none = refl
  one_datum Store is none = refl
  one_datum Modify is none = absurd cc

  pub two_data : (op : Op) (second : Ref) → (references_to op addr).1 ≡ Some second →
      events_to op ≡ event.Reference (references_to op addr).0 ∷ event.Reference second ∷ []
  two_data Fetch second is = absurd cc
  two_data Load second is = absurd cc
  two_data Store second is = absurd cc
  two_data Modify second is = let same : at Write addr ≡ second = cc in rw (sym same) refl
