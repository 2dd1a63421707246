-- Any policy keeps the slots of a set, and a cache under it does the same as a stamp machine that
-- may evict any line of a full set.
use Rattle.std.specs.Prelude.{◌≡◌, ℕ, ◌<◌, ◌≤◌, ◌^◌, Bool, true, false, ◌&&◌, List, [], Option}
use Rattle.std.specs.Prelude.{None, Some, is_none, find, map, length, replicate, Contains}
use Rattle.std.specs.Prelude.{IsPermutation}
use Rattle.trace_core.specs.declared.events.Ref.{Ref}
use Rattle.trace_core.specs.declared.events.Event.TheVariants as event
use Rattle.cache_core.specs.declared.outcome.Slot.{Slot}
use Rattle.cache_core.specs.declared.design.Repl.{Repl}
use Rattle.cache_core.specs.declared.outcome.Outcome.{Outcome}
use Rattle.cache_core.specs.declared.design.WriteMode.TheVariants.{Through}
use Rattle.cache_core.specs.Geometry.{block_of, set_of}
use Rattle.cache_core.specs.cache.Machine.{Machine, MachineState, Line, start, slot_of, is_block}
use Rattle.cache_core.specs.cache.Machine.{lines_of_set, is_full, step_with, next, dirty_count}
use Rattle.cache_core.specs.cache.Order.{Touches, TakesIn, Contents, Accesses, FlushesCache}
use Rattle.cache_core.specs.cache.Order.{slots_of}
use Rattle.cache_core.specs.cache.Outcomes.{is_allocated, outcome_of}
use Rattle.cache_core.specs.cache.Stands.{Distinct}

-- a touch keeps the slots of its set
abbrev pub TouchKeeps : Type 0
TouchKeeps = (policy : Option Repl) (old : List Slot) (at : ℕ) (new : List Slot) → at < length old →
    Touches policy old at new → IsPermutation old new

-- A placing under any policy: the new slot is in, and if the set is full, one of its slots is out.
abbrev pub PlaceKeeps : Type 0
PlaceKeeps = (policy : Option Repl) (number capacity : ℕ) (old : List Slot) (slot : Slot)
    (gone : Option Slot) (new : List Slot) →
    1 ≤ capacity → TakesIn policy number capacity old slot gone new →
    TakesIn None 0 capacity old slot gone new

-- Each set holds the slots of the machine's lines of it, in some order; a block has one line at
-- most; a write-through cache holds no dirty line.
pub record HoldsSame (m : Machine) (st : MachineState) (c : Contents) : Type 0 where
  pub design : c.design ≡ m.design
  pub count : length c.sets ≡ 2 ^ m.design.geometry.s
  pub sets : (k : ℕ) → IsPermutation (slots_of c.sets k)
      (map slot_of (lines_of_set m.design.geometry k st.lines))
  pub distinct : (k : ℕ) → Distinct (lines_of_set m.design.geometry k st.lines)
  pub clean : m.design.write ≡ Through → dirty_count st ≡ 0

-- whether a reference places its block in a full set
abbrev pub is_evicting : Machine → MachineState → Ref → Bool
is_evicting m st ref =
    is_none (find (is_block (block_of m.design.geometry ref.addr)) st.lines) && is_allocated
    m.design.allocate ref.access
    && is_full m st (set_of m.design.geometry ref.addr)

-- A line is evicted exactly if a block needs a victim, and then it is any line of the set.
abbrev pub MayLeave : Bool → List Line → Option Line → Type 0
MayLeave needed here None = needed ≡ false
MayLeave needed here (Some line) = (needed ≡ true) × Contains here line

-- one access is a step of the machine with some victim that it may have, and has this step's
-- effect; at most two references are sent down
pub record AnyStep (m : Machine) (st : MachineState) (ref : Ref) (outcome : Outcome)
    (new : Contents) : Type 0 where
  pub gone : Option Line
  pub may : MayLeave (is_evicting m st ref) (lines_of_set m.design.geometry
      (set_of m.design.geometry ref.addr) st.lines) gone
  pub effect : outcome ≡ outcome_of (step_with m ref gone st).effect
  pub few : length (step_with m ref gone st).effect.down ≤ 2
  pub holds : HoldsSame m (step_with m ref gone st).after new

-- a new cache holds what the machine holds at its start
abbrev pub AnyStartLaw : Type 0
AnyStartLaw = (m : Machine) (c : Contents) → c.design ≡ m.design →
    c.sets ≡ replicate (2 ^ m.design.geometry.s) [] → HoldsSame m start c

-- an access is such a step, whatever policy there is, and whatever keys the machine gives
abbrev pub AnyAccessLaw : Type 0
AnyAccessLaw = (m : Machine) (st : MachineState) (old : Contents) (ref : Ref) (outcome : Outcome)
    (new : Contents) →
    1 ≤ m.design.geometry.e → HoldsSame m st old → Accesses old ref outcome new →
    AnyStep m st ref outcome new

-- a flush is the machine's flush
abbrev pub AnyFlushLaw : Type 0
AnyFlushLaw = (m : Machine) (st : MachineState) (old : Contents) (dirty : ℕ) (new : Contents) →
    HoldsSame m st old → FlushesCache old dirty new → HoldsSame m (next m st event.Flush) new ×
    (dirty ≡ dirty_count st)
