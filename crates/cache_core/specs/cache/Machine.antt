-- The stamp machine: a cache as a map. It holds blocks, each with a stamp (its key) and a dirty
-- mark; the key says which
-- block of a full set leaves. (LRU by stamps: Mattson, Gecsei, Slutz and Traiger 1970.)
use Rattle.std.specs.Prelude.{ℕ, ◌+◌, ◌%◌, Bool, ◌||◌, ◌&&◌, not, List, [], ◌∷◌, ◌++◌, Option, Some}
use Rattle.std.specs.Prelude.{None, if◌then◌else◌, ◌==◌, nat_lt, length, filter, map, find, fold}
use Rattle.std.specs.Prelude.{count_by, is_some}
use Rattle.trace_core.specs.declared.events.Ref.{Ref}
use Rattle.trace_core.specs.declared.events.Event.{Event}
use Rattle.trace_core.specs.declared.events.Event.TheVariants as event
use Rattle.cache_core.specs.declared.outcome.Slot.{Slot}
use Rattle.cache_core.specs.declared.outcome.Counts.{Counts}
use Rattle.cache_core.specs.declared.design.Design.{Design}
use Rattle.cache_core.specs.declared.design.Repl.{Repl}
use Rattle.cache_core.specs.Geometry.{GeometryValue, block_of, set_of_block, set_of}
use Rattle.cache_core.specs.cache.Outcomes.{Effect, on_hit, on_placing, on_passing, is_dirtied}
use Rattle.cache_core.specs.cache.Outcomes.{is_allocated}
use Rattle.cache_core.specs.replacement.Rules.{Place, InFront, InPlace, Victim, Last, Drawn, rules}
use Rattle.cache_core.specs.replacement.Rules.{is_random}

-- a block that is held. Its key is the clock of the last touch or placing (LRU), the clock of
-- placing (FIFO), or the way (random)
pub record Line : Type 0 where
  pub block : ℕ
  pub key : ℕ
  pub dirty : Bool

-- The clock, the blocks held, and how many random numbers were drawn. The lines of each set are in
-- the policy's order, which is that of their keys (the law `sets_in_order`), so nothing depends on
-- how the lines of different sets are mixed.
pub record MachineState : Type 0 where
  pub clock : ℕ
  pub lines : List Line
  pub drawn : ℕ

-- a machine: random_numbers n is its random number n, from 0
pub record Machine : Type 0 where
  pub design : Design
  pub policy : Repl
  pub random_numbers : ℕ → ℕ

-- the state at first: nothing is held, and no random number is drawn
abbrev pub start : MachineState
start = record { clock = 0; lines = []; drawn = 0 }

-- the line without its key
abbrev pub slot_of : Line → Slot
slot_of line = record { block = line.block; dirty = line.dirty }

-- the slot of a line, if there is one
abbrev pub option_slot : Option Line → Option Slot
option_slot None = None
option_slot (Some line) = Some (slot_of line)

-- whether a line holds a block
abbrev pub is_block : ℕ → Line → Bool
is_block block line = line.block == block

-- the lines of one set
abbrev pub lines_of_set : GeometryValue → ℕ → List Line → List Line
lines_of_set g set lines = filter (λ line. set_of_block g line.block == set) lines

-- the lines without that of a block
abbrev pub lines_without : ℕ → List Line → List Line
lines_without block lines = filter (λ line. not (is_block block line)) lines

-- the lines with another instead of that of a block
abbrev pub exchange : ℕ → Line → List Line → List Line
exchange block new lines = map (λ line. if is_block block line then new else line) lines

-- of two lines the one with the lesser key
abbrev pub lesser_line : Line → Option Line → Line
lesser_line line None = line
lesser_line line (Some other) = if nat_lt line.key other.key then line else other

-- the line with the least key; no two lines of a set have the same one
abbrev pub least_line : List Line → Option Line
least_line [] = None
least_line (line ∷ lines) = Some (lesser_line line (least_line lines))

-- the victim in a full set: the line with the least key (LRU, FIFO), or the line of the way that
-- was drawn (random)
abbrev pub victim : Victim → ℕ → List Line → Option Line
victim Last way lines = least_line lines
victim Drawn way lines = find (λ line. line.key == way) lines

-- the lines with a new one: in front of them, or in the place of the line that goes, and behind
-- them if none goes
abbrev pub with_line_at : Place → Line → Option Line → List Line → List Line
with_line_at InFront new None lines = new ∷ lines
with_line_at InFront new (Some gone) lines = new ∷ lines_without gone.block lines
with_line_at InPlace new None lines = lines ++ new ∷ []
with_line_at InPlace new (Some gone) lines = exchange gone.block new lines

-- the key of a line that goes there: the clock in front, and else what its place has
abbrev pub key_at : Place → ℕ → ℕ → ℕ
key_at InFront clock there = clock
key_at InPlace clock there = there

-- the lines after a touch of this one: LRU puts it in front with this clock as its key, the others
-- leave it where it is
abbrev pub with_touch : Repl → ℕ → Line → List Line → List Line
with_touch policy clock line lines =
    let to = (rules policy).touched in
    with_line_at to (record line { key = key_at to clock line.key }) (Some line) lines

-- the key of the line that goes, or of the next way if none goes from a set of so many blocks
abbrev pub key_there : Option Line → ℕ → ℕ
key_there None count = count
key_there (Some gone) count = gone.key

-- The lines with a new block placed at this clock in a set that held so many blocks, in place of
-- this line, if any: LRU and FIFO put it in front with the clock as its key, random in the way of
-- the line that goes, or in the next one.
abbrev pub with_block : Repl → ℕ → ℕ → Slot → Option Line → List Line → List Line
with_block policy clock count new gone lines =
    let to = (rules policy).placed in
    with_line_at to (record {
      block = new.block;
      key =
          key_at to clock (key_there gone count);
      dirty = new.dirty;
    }) gone lines

-- whether a set is full
abbrev pub is_full : Machine → MachineState → ℕ → Bool
is_full m st set = not (nat_lt (length (lines_of_set m.design.geometry set st.lines))
    m.design.geometry.e)

-- the step of one reference: the state after it, and its effect
pub record Step : Type 0 where
  pub after : MachineState
  pub effect : Effect

-- a reference whose block is placed; this line of its set leaves, if any
abbrev pub placing_step : Machine → Ref → ℕ → Option Line → MachineState → Step
placing_step m ref block leaving st =
    let set = set_of_block m.design.geometry block in
    record {
      after = record {
        clock = st.clock + 1;
        lines = with_block m.policy (st.clock + 1)
            (length (lines_of_set m.design.geometry set st.lines))
            (record { block = block; dirty = is_dirtied m.design.write ref.access })
            leaving st.lines;
        drawn = (if is_full m st set && is_random (rules m.policy).victim then st.drawn + 1
            else st.drawn);
      };
      effect = on_placing m.design.geometry m.design.write ref block (option_slot leaving);
    }

-- a reference that is passed on
abbrev pub passing_step : Ref → MachineState → Step
passing_step ref st = record { after = record st { clock = st.clock + 1 }; effect = on_passing ref }

-- one reference to a block; this line leaves if the block is placed (the last argument is the
-- block's line, if it is held)
abbrev pub step_at : Machine → Ref → ℕ → Option Line → MachineState → Option Line → Step
step_at m ref block leaving st (Some line) = record {
  after = record st {
    clock = st.clock + 1;
    lines = with_touch m.policy (st.clock + 1)
        (record line { dirty = is_dirtied m.design.write ref.access || line.dirty }) st.lines;
  };
  effect = on_hit m.design.write ref;
}
step_at m ref block leaving st None =
    if is_allocated m.design.allocate ref.access then placing_step m ref block leaving st else
    passing_step ref st

-- one reference; this line leaves if its block is placed
abbrev pub step_with : Machine → Ref → Option Line → MachineState → Step
step_with m ref leaving st =
    let block = block_of m.design.geometry ref.addr in
    step_at m ref block leaving st (find (is_block block) st.lines)

-- the line that leaves for a block of this set by the policy, if the set is full
abbrev pub victim_line : Machine → MachineState → ℕ → Option Line
victim_line m st set =
    let here = lines_of_set m.design.geometry set st.lines in
    if nat_lt (length here) m.design.geometry.e then None
    else victim (rules m.policy).victim (m.random_numbers st.drawn % m.design.geometry.e) here

-- one reference; the line leaves that the policy names
abbrev pub step : Machine → MachineState → Ref → Step
step m st ref = step_with m ref (victim_line m st (set_of m.design.geometry ref.addr)) st

-- how many blocks are dirty
abbrev pub dirty_count : MachineState → ℕ
dirty_count st = count_by (λ line. line.dirty) st.lines

-- the state after one event: a flush empties the cache, and keeps the number of random numbers
-- drawn
abbrev pub next : Machine → MachineState → Event → MachineState
next m st (event.Reference ref) = (step m st ref).after
next m st event.Flush = record st { lines = [] }

-- the state after a list of events
abbrev pub run : Machine → List Event → MachineState
run m events = fold (next m) start events

-- the references of a list of events, each with its effect on the machine, from a state
abbrev pub with_effects_from : Machine → MachineState → List Event → List (Ref × Effect)
with_effects_from m st [] = []
with_effects_from m st (event.Reference ref ∷ events) = let now = step m st ref in
    (ref, now.effect) ∷ with_effects_from m now.after events
with_effects_from m st (event.Flush ∷ events) = with_effects_from m (next m st event.Flush) events

-- the references of a list of events, each with its effect, from the start
abbrev pub with_effects : Machine → List Event → List (Ref × Effect)
with_effects m events = with_effects_from m start events

-- the effects alone
abbrev pub effects : Machine → List Event → List Effect
effects m events = map (λ p. p.1) (with_effects m events)

-- how many of the effects hit, missed and took out a block
abbrev pub counts_in : List Effect → Counts
counts_in all = record {
  hits = count_by (λ a. a.hit) all;
  misses = count_by (λ a. not a.hit) all;
  evictions = count_by (λ a. is_some a.evicted) all;
}
