-- The references of an item, and the events that a trace gives a cache.
use Rattle.std.specs.Prelude.{ℕ, Bool, true, false, Option, None, Some, List, [], ◌∷◌, map, filter}
use Rattle.std.specs.Prelude.{if◌then◌else◌}
use Rattle.std.specs.Option.{option_to_list}
use Rattle.trace_core.specs.declared.events.Op.{Op}
use Rattle.trace_core.specs.declared.events.Op.TheVariants as op
use Rattle.trace_core.specs.declared.events.Item.{Item}
use Rattle.trace_core.specs.declared.events.Entry.{Entry}
use Rattle.trace_core.specs.declared.events.Entry.TheVariants as entry
use Rattle.trace_core.specs.declared.events.Access.{Access}
use Rattle.trace_core.specs.declared.events.Access.TheVariants.{Fetch, Read, Write}
use Rattle.trace_core.specs.declared.events.Ref.{Ref}
use Rattle.trace_core.specs.declared.events.Event.{Event}
use Rattle.trace_core.specs.declared.events.Event.TheVariants as event
use Rattle.trace_core.specs.declared.events.Kind.{Kind}
use Rattle.trace_core.specs.declared.events.Kind.TheVariants.{All, DataOnly, FetchOnly}

-- one access to an address
abbrev pub at : Access → ℕ → Ref
at access addr = record { access = access; addr = addr }

-- a fetch gives a fetch, a load a read, a store a write, a modify a read and then a write (lackey;
-- CS:APP)
abbrev pub references_to : Op → ℕ → Ref × Option Ref
references_to op.Fetch addr = (at Fetch addr, None)
references_to op.Load addr = (at Read addr, None)
references_to op.Store addr = (at Write addr, None)
references_to op.Modify addr = (at Read addr, Some (at Write addr))

-- the references of an item: one, or of a modify two
abbrev pub references : Item → Ref × Option Ref
references item = references_to item.op item.addr

-- whether a kind keeps such references
abbrev pub is_kept : Kind → Access → Bool
is_kept All access = true
is_kept DataOnly Fetch = false
is_kept DataOnly Read = true
is_kept DataOnly Write = true
is_kept FetchOnly Fetch = true
is_kept FetchOnly Read = false
is_kept FetchOnly Write = false

-- the events that an entry gives a cache: the references of its item that are kept, or a flush
abbrev pub events_of : Kind → Entry → List Event
events_of kind (entry.Item item) =
    map event.Reference (filter (λ r. is_kept kind r.access) ((references item).0 ∷ option_to_list
    (references item).1))
events_of kind entry.Flush = event.Flush ∷ []

-- whether an access is an instruction fetch
abbrev pub is_fetch : Access → Bool
is_fetch Fetch = true
is_fetch Read = false
is_fetch Write = false

-- whether it is a data read
abbrev pub is_read : Access → Bool
is_read Fetch = false
is_read Read = true
is_read Write = false

-- whether it is a write
abbrev pub is_write : Access → Bool
is_write Fetch = false
is_write Read = false
is_write Write = true

-- 1 if something is so, and else 0
abbrev pub one_if : Bool → ℕ
one_if b = if b then 1 else 0

-- the references of a list of events
abbrev pub references_in : List Event → List Ref
references_in [] = []
references_in (event.Reference ref ∷ events) = ref ∷ references_in events
references_in (event.Flush ∷ events) = references_in events
