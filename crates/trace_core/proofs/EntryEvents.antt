-- The events of an entry, and of one entry more.
use Rattle.std.proofs.Common.{◌≡◌, ℕ, ◌*◌, ◌≤◌, List, [], ◌∷◌, ◌++◌, Option, None, Some, map, sym}
use Rattle.std.proofs.Common.{ap, ◌∙◌, arith, length, length-append}
use Rattle.std.proofs.lemmas.List.{flat_map_more, map_push}
use Rattle.std.specs.List.{filter, flat_map}
use Rattle.std.specs.Option.{option_to_list}
use Rattle.trace_core.specs.Events.{events_of, is_kept, references}
use Rattle.trace_core.specs.declared.events.Entry.{Entry}
use Rattle.trace_core.specs.declared.events.Entry.TheVariants as entry
use Rattle.trace_core.specs.declared.events.Event.{Event}
use Rattle.trace_core.specs.declared.events.Event.TheVariants as event
use Rattle.trace_core.specs.declared.events.Item.{Item}
use Rattle.trace_core.specs.declared.events.Kind.{Kind}
use Rattle.trace_core.specs.declared.events.Kind.TheVariants.{All, DataOnly, FetchOnly}
use Rattle.trace_core.specs.declared.events.Op.{Op}
use Rattle.trace_core.specs.declared.events.Op.TheVariants.{Fetch, Load, Store, Modify}
use Rattle.trace_core.specs.declared.events.Ref.{Ref}

-- of some references those that a kind keeps, as events
abbrev pub kept : Kind → List Ref → List Event
kept kind refs = map event.Reference (filter (λ r. is_kept kind r.access) refs)

-- the events of an item by its references, two or one
pub two_events : (kind : Kind) {e : Entry} {item : Item} {p : Ref × Option Ref} {second : Ref}
    → e ≡ entry.Item item → p ≡ references item → p.1 ≡ Some second →
    events_of kind e ≡ kept kind (p.0 ∷ second ∷ [])
two_events kind {p = p} is refs some =
    ap (events_of kind) is ∙ ap (λ q. kept kind (q.0 ∷ option_to_list q.1)) (sym refs)
    ∙ ap (λ q. kept kind (p.0 ∷ option_to_list q)) some

pub one_event : (kind : Kind) {e : Entry} {item : Item} {p : Ref × Option Ref}
    → e ≡ entry.Item item → p ≡ references item → p.1 ≡ None →
    events_of kind e ≡ kept kind (p.0 ∷ [])
one_event kind {p = p} is refs none =
    ap (events_of kind) is ∙ ap (λ q. kept kind (q.0 ∷ option_to_list q.1)) (sym refs)
    ∙ ap (λ q. kept kind (p.0 ∷ option_to_list q)) none

-- an entry has two events at most
pub most_events : (kind : Kind) (e : Entry) → length (events_of kind e) ≤ 2
most_events kind entry.Flush = omega arith
most_events kind (entry.Item item) = by_op kind item.op
  where
    by_op : (kind : Kind) (op : Op) →
        length (events_of kind (entry.Item (record item { op = op }))) ≤ 2
    by_op All Fetch = omega arith
    by_op All Load = omega arith
    by_op All Store = omega arith
    by_op All Modify = omega arith
    by_op DataOnly Fetch = omega arith
    by_op DataOnly Load = omega arith
    by_op DataOnly Store = omega arith
    by_op DataOnly Modify = omega arith
    by_op FetchOnly Fetch = omega arith
    by_op FetchOnly Load = omega arith
    by_op FetchOnly Store = omega arith
    by_op FetchOnly Modify = omega arith

-- so some entries have at most two for each
pub events_within : (kind : Kind) (es : List Entry) →
    length (flat_map (events_of kind) es) ≤ 2 * length es
events_within kind [] = omega arith
events_within kind (e ∷ es) =
    omega (
      arith,
      most_events kind e,
      events_within kind es,
      length-append (events_of kind e)
          (flat_map (events_of kind) es),
    )

-- the events of one entry more come last
pub events_more : (kind : Kind) (es : List Entry) (e : Entry)
    → flat_map (events_of kind) (es ++ e ∷ []) ≡ flat_map (events_of kind) es ++ events_of kind e
events_more kind es e = sym (flat_map_more (events_of kind) [] es e)

-- so it is where the entries bear the numbers of their lines
pub collected-more : (kind : Kind) (xs : List (ℕ × Entry)) (x : ℕ × Entry)
    → flat_map (events_of kind) (map (λ y. y.1) (xs ++ x ∷ [])) ≡ flat_map (events_of kind)
    (map (λ y. y.1) xs) ++ events_of kind x.1
collected-more kind xs x =
    ap (flat_map (events_of kind)) (map_push (λ y. y.1) xs x) ∙
    events_more kind (map (λ y. y.1) xs) x.1
