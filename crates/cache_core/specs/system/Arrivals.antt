-- The log of a system of caches: each arrival of a reference at a cache or at memory, each
-- reference that no cache takes, and each flush of a cache, in the order in which they happen.
use Rattle.std.specs.Prelude.{ℕ, List, [], ◌∷◌, ◌++◌, map, Option, Some, None, Bool, if◌then◌else◌}
use Rattle.std.specs.Option.{option_map}
use Rattle.trace_core.specs.declared.events.Ref.{Ref}
use Rattle.trace_core.specs.declared.events.Event.{Event}
use Rattle.trace_core.specs.declared.events.Event.TheVariants as event
use Rattle.cache_core.specs.declared.outcome.Slot.{Slot}
use Rattle.cache_core.specs.declared.system.plan.PlannedCache.{PlannedCache}
use Rattle.cache_core.specs.declared.system.plan.CacheName.{CacheName}
use Rattle.cache_core.specs.declared.system.plan.CacheName.TheVariants.{L1I, L1D, L1U, L2U}
use Rattle.cache_core.specs.declared.system.arrival.Victim.{Victim}
use Rattle.cache_core.specs.declared.system.arrival.Arrival.{Arrival}
use Rattle.cache_core.specs.declared.system.arrival.Arrival.TheVariants.{Cache, Memory, Bypassed}
use Rattle.cache_core.specs.declared.system.arrival.Arrival.TheVariants.{Flush}
use Rattle.cache_core.specs.Geometry.{GeometryValue, address_of}
use Rattle.cache_core.specs.cache.Machine.{run, step, dirty_count}
use Rattle.cache_core.specs.system.Plans.{PlannedCaches}
use Rattle.cache_core.specs.system.Systems.{machine_of, is_taken_by, events_for}
use Rattle.cache_core.specs.system.Systems.{first_level_references, lower_events, is_taken}

-- the address of an evicted block, and whether it was dirty
abbrev pub victim_of : GeometryValue → Slot → Victim
victim_of g slot = record { addr = address_of g slot.block; dirty = slot.dirty }

-- a reference at a cache: whether it hits, and what it evicts
abbrev pub arrival_at : CacheName → GeometryValue → Ref → Bool → Option Slot → Arrival
arrival_at name g ref hit evicted = Cache name ref hit (option_map (victim_of g) evicted)

-- a reference arrives at a cache after these events, if the plan has the cache
abbrev pub cache_arrivals : ℕ → CacheName → Option PlannedCache → List Event → Ref → List Arrival
cache_arrivals seed name None before ref = []
cache_arrivals seed name (Some planned) before ref =
    let m = machine_of seed planned in
    let effect = (step m (run m before) ref).effect in
    arrival_at name planned.design.geometry ref effect.hit effect.evicted ∷ []

-- the references that the second level sends to memory for one after these events: this one itself
-- if the plan has no second level
abbrev pub references_passed : ℕ → Option PlannedCache → List Event → Ref → List Ref
references_passed seed None before ref = ref ∷ []
references_passed seed (Some planned) before ref =
    (step (machine_of seed planned) (run (machine_of seed planned) before) ref).effect.down

-- a reference at a cache of the first level, if the plan has the cache and it takes the reference
abbrev pub first_level_arrivals : ℕ → CacheName → Option PlannedCache → List Event →
    Ref → List Arrival
first_level_arrivals seed name None earlier ref = []
first_level_arrivals seed name (Some planned) earlier ref =
    if is_taken_by name ref then cache_arrivals seed name (Some planned)
    (events_for name earlier) ref else []

-- references at memory
abbrev pub at_memory : List Ref → List Arrival
at_memory refs = map (λ ref. Memory ref) refs

-- a reference that is sent down to the second level, and what that sends to memory
abbrev pub arrivals_below : ℕ → Option PlannedCache → List Event → Ref → List Arrival
arrivals_below seed second before ref = cache_arrivals seed L2U second before ref ++
    at_memory (references_passed seed second before ref)

-- references that are sent down, one after another
abbrev pub all_arrivals_below : ℕ → Option PlannedCache → List Event → List Ref → List Arrival
all_arrivals_below seed second before [] = []
all_arrivals_below seed second before (ref ∷ refs) =
    arrivals_below seed second before ref ++ all_arrivals_below seed second (before ++
    event.Reference ref ∷ []) refs

-- a cache is flushed after these events, if the plan has it
abbrev pub flushes : ℕ → CacheName → Option PlannedCache → List Event → List Arrival
flushes seed name None before = []
flushes seed name (Some planned) before =
    Flush name (dirty_count (run (machine_of seed planned) before)) ∷ []

-- a reference at the first level
abbrev pub first_arrivals : PlannedCaches → ℕ → List Event → Ref → List Arrival
first_arrivals plan seed earlier ref =
    first_level_arrivals seed L1I plan.i earlier ref ++ first_level_arrivals seed L1D plan.d earlier
    ref ++ first_level_arrivals seed L1U plan.u earlier ref

-- the arrivals of a reference below the first level, or, if no cache takes it, the one that says so
abbrev pub lower_arrivals : PlannedCaches → ℕ → List Event → Ref → List Arrival
lower_arrivals plan seed earlier ref =
    if is_taken plan ref then all_arrivals_below seed plan.second (lower_events plan seed earlier)
    (first_level_references plan seed earlier ref) else Bypassed ref ∷ []

-- the arrivals of an event that comes after earlier ones
abbrev pub arrivals_of : PlannedCaches → ℕ → List Event → Event → List Arrival
arrivals_of plan seed earlier (event.Reference ref) = first_arrivals plan seed earlier ref ++
    lower_arrivals plan seed earlier ref
arrivals_of plan seed earlier event.Flush =
    flushes seed L1I plan.i (events_for L1I earlier) ++ flushes seed L1D plan.d
    (events_for L1D earlier)
    ++ flushes seed L1U plan.u (events_for L1U earlier) ++ flushes seed L2U plan.second
    (lower_events plan seed earlier)

-- the arrivals of events that come after earlier ones
abbrev pub arrivals_from : PlannedCaches → ℕ → List Event → List Event → List Arrival
arrivals_from plan seed earlier [] = []
arrivals_from plan seed earlier (e ∷ events) = arrivals_of plan seed earlier e ++
    arrivals_from plan seed (earlier ++ e ∷ []) events

-- the log of a list of events
abbrev pub arrivals : PlannedCaches → ℕ → List Event → List Arrival
arrivals plan seed events = arrivals_from plan seed [] events

-- an observer that had seen some arrivals has now seen these after them
abbrev pub Saw : {O : Type 0} → (O → List Arrival → Type 0) → O → List Arrival → O → Type 0
Saw has_seen old arrivals new = (before : List Arrival) → has_seen old before →
    has_seen new (before ++ arrivals)
