-- Laws of the log, stated over its lines alone and the references that come to the system: which
-- come to which cache, to memory, and to none.
use Rattle.std.specs.Prelude.{◌≡◌, ℕ, ◌*◌, ◌-◌, ◌%◌, ◌^◌, Bool, true, false, not, List, [], ◌∷◌}
use Rattle.std.specs.Prelude.{◌++◌, Option, Some, None, is_some, is_none, filter, map, flat_map}
use Rattle.std.specs.Prelude.{if◌then◌else◌}
use Rattle.std.specs.Option.{option_map}
use Rattle.trace_core.specs.declared.events.Ref.{Ref}
use Rattle.trace_core.specs.declared.events.Access.TheVariants.{Fetch, Read, Write}
use Rattle.trace_core.specs.declared.events.Event.{Event}
use Rattle.trace_core.specs.declared.events.Event.TheVariants as event
use Rattle.trace_core.specs.Events.{is_fetch, is_write, references_in}
use Rattle.cache_core.specs.declared.design.Design.{Design}
use Rattle.cache_core.specs.declared.design.WriteMode.{WriteMode}
use Rattle.cache_core.specs.declared.design.WriteMode.TheVariants.{Back, Through}
use Rattle.cache_core.specs.declared.design.AllocMode.{AllocMode}
use Rattle.cache_core.specs.declared.design.AllocMode.TheVariants.{Always, Never}
use Rattle.cache_core.specs.declared.system.plan.PlannedCache.{PlannedCache}
use Rattle.cache_core.specs.declared.system.plan.CacheName.{CacheName}
use Rattle.cache_core.specs.declared.system.plan.CacheName.TheVariants.{L1I, L1D, L1U, L2U}
use Rattle.cache_core.specs.declared.system.arrival.Victim.{Victim}
use Rattle.cache_core.specs.declared.system.arrival.Arrival.{Arrival}
use Rattle.cache_core.specs.declared.system.arrival.Arrival.TheVariants.{Cache, Memory, Bypassed}
use Rattle.cache_core.specs.declared.system.arrival.Arrival.TheVariants.{Flush}
use Rattle.cache_core.specs.Geometry.{GeometryValue}
use Rattle.cache_core.specs.cache.Outcomes.{Effect}
use Rattle.cache_core.specs.cache.Machine.{with_effects}
use Rattle.cache_core.specs.system.Plans.{PlannedCaches, IsPlan}
use Rattle.cache_core.specs.system.Systems.{machine_of, events_for, lower_events, to_memory}
use Rattle.cache_core.specs.system.Systems.{flush_counts_if_planned}
use Rattle.cache_core.specs.system.Arrivals.{arrivals_from, arrivals}

-- whether two names are the same
abbrev pub is_same : CacheName → CacheName → Bool
is_same L1I L1I = true
is_same L1D L1D = true
is_same L1U L1U = true
is_same L2U L2U = true
is_same _ _ = false

-- the reference of a line, if it is one of this cache
abbrev pub refs_at : CacheName → Arrival → List Ref
refs_at name (Cache at ref hit victim) = if is_same name at then ref ∷ [] else []
refs_at name _ = []

-- the reference of a line, if it is one of memory
abbrev pub refs_at_memory : Arrival → List Ref
refs_at_memory (Memory ref) = ref ∷ []
refs_at_memory _ = []

-- the reference of a line, if it says that no cache takes it
abbrev pub refs_past : Arrival → List Ref
refs_past (Bypassed ref) = ref ∷ []
refs_past _ = []

-- Memory gets, in order, the references that the last level sends: the second if there is one, else
-- the first.
abbrev pub MemoryLaw : Type 0
MemoryLaw = (plan : PlannedCaches) (seed : ℕ) (events : List Event) →
    flat_map refs_at_memory (arrivals plan seed events) ≡ to_memory seed plan.second
    (lower_events plan seed events)

-- whether no cache takes a reference: there is no unified one, and none for fetches or for data
abbrev pub is_left_out : PlannedCaches → Ref → Bool
is_left_out plan ref = if is_some plan.u then false else if is_fetch ref.access then is_none plan.i
    else is_none plan.d

-- the bypassed references are, in order, those that no cache takes
abbrev pub BypassedLaw : Type 0
BypassedLaw = (plan : PlannedCaches) (seed : ℕ) (events : List Event) →
    flat_map refs_past (arrivals plan seed events) ≡ filter (is_left_out plan)
    (references_in events)

-- the references with this property, if there is a cache
abbrev pub if_there : Option PlannedCache → (Ref → Bool) → List Ref → List Ref
if_there None wanted refs = []
if_there (Some planned) wanted refs = filter wanted refs

-- the cache for fetches gets the fetches, in order
abbrev pub FetchCacheLaw : Type 0
FetchCacheLaw = (plan : PlannedCaches) (seed : ℕ) (events : List Event) →
    flat_map (refs_at L1I) (arrivals plan seed events) ≡ if_there plan.i
    (λ ref. is_fetch ref.access) (references_in events)

-- the cache for data gets the other references, in order
abbrev pub DataCacheLaw : Type 0
DataCacheLaw = (plan : PlannedCaches) (seed : ℕ) (events : List Event) →
    flat_map (refs_at L1D) (arrivals plan seed events) ≡ if_there plan.d
    (λ ref. not (is_fetch ref.access)) (references_in events)

-- a unified cache gets all references, in order
abbrev pub UnifiedCacheLaw : Type 0
UnifiedCacheLaw = (plan : PlannedCaches) (seed : ℕ) (events : List Event) →
    flat_map (refs_at L1U) (arrivals plan seed events) ≡ if_there plan.u (λ ref. true)
    (references_in events)

-- the second level gets, in order, the references that the first sends
abbrev pub SecondLevelLaw : Type 0
SecondLevelLaw = (plan : PlannedCaches) (seed : ℕ) (events : List Event) →
    is_some plan.second ≡ true →
    flat_map (refs_at L2U) (arrivals plan seed events) ≡
    references_in (lower_events plan seed events)

-- a dirty victim is written back at its address
abbrev pub victim_write : Option Victim → List Ref
victim_write None = []
victim_write (Some victim) = if victim.dirty then record {
  access = Write;
  addr =
      victim.addr;
} ∷ [] else []

-- a block is loaded from the first of its addresses, by a fetch for a fetch, and else by a read
abbrev pub load : ℕ → Ref → Ref
load b ref = record {
  access = (if is_fetch ref.access then Fetch else Read);
  addr =
      ref.addr - ref.addr % 2 ^ b;
}

-- a write goes on unchanged if the cache writes through
abbrev pub writes_sent_on : WriteMode → Ref → List Ref
writes_sent_on Back ref = []
writes_sent_on Through ref = if is_write ref.access then ref ∷ [] else []

-- whether a reference that misses goes on alone: a write, if the cache allocates no block for it
abbrev pub is_sent_alone : AllocMode → Ref → Bool
is_sent_alone Always ref = false
is_sent_alone Never ref = is_write ref.access

-- The references that a cache must send to the next level, by its line: at a hit the write that
-- goes on; at a miss first the write of a dirty victim, then the load of the block, and then that
-- write; or the write alone.
abbrev pub required_references : Design → Ref → Bool → Option Victim → List Ref
required_references design ref true victim = writes_sent_on design.write ref
required_references design ref false victim =
    if is_sent_alone design.allocate ref then ref ∷ []
    else victim_write victim ++ load design.geometry.b ref ∷ writes_sent_on design.write ref

-- the references that a cache of a plan must send to the next level, by its line
abbrev pub required_references_of : Option PlannedCache → Ref → Bool → Option Victim → List Ref
required_references_of None ref hit victim = []
required_references_of (Some planned) ref hit victim =
    required_references planned.design ref hit victim

-- the references that go from the first level to memory: all, if there is no second level
abbrev pub direct_references : Option PlannedCache → List Ref → List Ref
direct_references None down = down
direct_references (Some second) down = []

-- those that go from the first level to the second: all, if there is one
abbrev pub second_level_references : Option PlannedCache → List Ref → List Ref
second_level_references None down = []
second_level_references (Some second) down = down

-- The lines of a log follow from one another. The first references are on their way to memory, and
-- the others to the second level. Those to memory arrive first; then the next one arrives at the
-- second level, which may send more to memory. Only when none is on its way, another reference
-- comes to the first level, or is bypassed, or a cache is flushed.
abbrev pub Follow : PlannedCaches → List Ref → List Ref → List Arrival → Type 0
Follow plan [] [] [] = Unit {0}
Follow plan [] [] (Cache L1I ref hit victim ∷ lines) =
    (let down = required_references_of plan.i ref hit victim in
    Follow plan (direct_references plan.second down)
    (second_level_references plan.second down) lines)
Follow plan [] [] (Cache L1D ref hit victim ∷ lines) =
    (let down = required_references_of plan.d ref hit victim in
    Follow plan (direct_references plan.second down)
    (second_level_references plan.second down) lines)
Follow plan [] [] (Cache L1U ref hit victim ∷ lines) =
    (let down = required_references_of plan.u ref hit victim in
    Follow plan (direct_references plan.second down)
    (second_level_references plan.second down) lines)
Follow plan [] [] (Bypassed ref ∷ lines) = Follow plan [] [] lines
Follow plan [] [] (Flush name dirty ∷ lines) = Follow plan [] [] lines
Follow plan [] (next ∷ down) (Cache L2U ref hit victim ∷ lines) =
    (ref ≡ next) × Follow plan (required_references_of plan.second ref hit victim) down lines
Follow plan (next ∷ writes) down (Memory ref ∷ lines) = (ref ≡ next) × Follow plan writes down lines
Follow plan _ _ _ = ⊥

-- each line follows from those before it, and nothing is left on its way
abbrev pub FollowLaw : Type 0
FollowLaw = (plan : PlannedCaches) (seed : ℕ) (events : List Event) → IsPlan plan →
    Follow plan [] [] (arrivals plan seed events)

-- the cache of this name, if the plan has it
abbrev pub planned_of : PlannedCaches → CacheName → Option PlannedCache
planned_of plan L1I = plan.i
planned_of plan L1D = plan.d
planned_of plan L1U = plan.u
planned_of plan L2U = plan.second

-- the events that come to it
abbrev pub events_at : PlannedCaches → ℕ → CacheName → List Event → List Event
events_at plan seed L1I events = events_for L1I events
events_at plan seed L1D events = events_for L1D events
events_at plan seed L1U events = events_for L1U events
events_at plan seed L2U events = lower_events plan seed events

-- a line, if it is one of this cache
abbrev pub lines_at : CacheName → Arrival → List Arrival
lines_at name (Cache at ref hit victim) =
    if is_same name at then Cache at ref hit victim ∷ [] else []
lines_at name _ = []

-- the line that shows a reference with its effect: whether it hit, and the first address of the
-- block that it evicted
abbrev pub access_line : CacheName → GeometryValue → Ref × Effect → Arrival
access_line name g access =
    Cache name access.0 access.1.hit
    (option_map (λ slot. record { addr = slot.block * 2 ^ g.b; dirty = slot.dirty })
    access.1.evicted)

-- the lines that show what a cache does for its events, if there is one
abbrev pub access_lines : ℕ → CacheName → Option PlannedCache → List Event → List Arrival
access_lines seed name None events = []
access_lines seed name (Some planned) events = map (access_line name planned.design.geometry)
    (with_effects (machine_of seed planned) events)

-- the lines of each cache show, in order, the references that come to it, each with its effect
abbrev pub LinesLaw : Type 0
LinesLaw = (name : CacheName) (plan : PlannedCaches) (seed : ℕ) (events : List Event) →
    flat_map (lines_at name) (arrivals plan seed events) ≡ access_lines seed name
    (planned_of plan name) (events_at plan seed name events)

-- the log of more events begins with that of fewer
abbrev pub GrowthLaw : Type 0
GrowthLaw = (plan : PlannedCaches) (seed : ℕ) (events more : List Event) →
    arrivals plan seed (events ++ more) ≡ arrivals plan seed events ++
    arrivals_from plan seed events more

-- the cache that a line of a flush names
abbrev pub names_in : Arrival → List CacheName
names_in (Flush name dirty) = name ∷ []
names_in _ = []

-- the name of a cache, if there is one
abbrev pub name_if_there : CacheName → Option PlannedCache → List CacheName
name_if_there name None = []
name_if_there name (Some planned) = name ∷ []

-- a flush empties each cache of the plan, the first level before the second
abbrev pub names_of : PlannedCaches → Event → List CacheName
names_of plan (event.Reference ref) = []
names_of plan event.Flush =
    name_if_there L1I plan.i ++ name_if_there L1D plan.d ++ name_if_there L1U plan.u ++
    name_if_there L2U plan.second

-- the lines of the flushes name, in order, each cache once for each flush
abbrev pub FlushNamesLaw : Type 0
FlushNamesLaw = (plan : PlannedCaches) (seed : ℕ) (events : List Event) →
    flat_map names_in (arrivals plan seed events) ≡ flat_map (names_of plan) events

-- how many dirty blocks a line of a flush shows, if it is one of this cache
abbrev pub dirty_at : CacheName → Arrival → List ℕ
dirty_at name (Flush at dirty) = if is_same name at then dirty ∷ [] else []
dirty_at name _ = []

-- the lines of the flushes of a cache show, in order, how many dirty blocks each finds
abbrev pub FlushCountsLaw : Type 0
FlushCountsLaw = (name : CacheName) (plan : PlannedCaches) (seed : ℕ) (events : List Event) →
    flat_map (dirty_at name) (arrivals plan seed events) ≡ flush_counts_if_planned seed
    (planned_of plan name) (events_at plan seed name events)
