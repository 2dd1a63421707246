-- The contents of a cache as those of a machine after a list of events, and what follows.
use Rattle.std.specs.Prelude.{◌≡◌, ◌≢◌, ◌<◌, ◌≤◌, ℕ, ◌+◌, ◌^◌, List, [], ◌∷◌, ◌++◌, Some, map}
use Rattle.std.specs.Prelude.{length, replicate}
use Rattle.trace_core.specs.declared.events.Ref.{Ref}
use Rattle.trace_core.specs.declared.events.Event.{Event}
use Rattle.trace_core.specs.declared.events.Event.TheVariants as event
use Rattle.cache_core.specs.declared.outcome.Outcome.{Outcome}
use Rattle.cache_core.specs.cache.Machine.{Machine, MachineState, Line, run, slot_of, lines_of_set}
use Rattle.cache_core.specs.cache.Machine.{step, dirty_count}
use Rattle.cache_core.specs.cache.Order.{Contents, Accesses, FlushesCache, slots_of}
use Rattle.cache_core.specs.cache.Outcomes.{outcome_of}
use Rattle.cache_core.specs.replacement.Rules.{Place, InFront, InPlace, rules}

-- no line of this block
abbrev pub Absent : ℕ → List Line → Type 0
Absent b [] = Unit {0}
Absent b (l ∷ ls) = (l.block ≢ b) × Absent b ls

-- each block has one line at most
abbrev pub Distinct : List Line → Type 0
Distinct [] = Unit {0}
Distinct (l ∷ ls) = Absent l.block ls × Distinct ls

-- keys that fall from one line to the next, the first below a number
abbrev pub Falls : ℕ → List Line → Type 0
Falls n [] = Unit {0}
Falls n (line ∷ lines) = (line.key < n) × Falls line.key lines

-- keys that count up by one from a number
abbrev pub CountsUp : ℕ → List Line → Type 0
CountsUp n [] = Unit {0}
CountsUp n (line ∷ lines) = (line.key ≡ n) × CountsUp (n + 1) lines

-- the lines of a set are in order: the newest key first if a new block goes in front, and else way
-- after way
abbrev pub InOrder : Place → ℕ → List Line → Type 0
InOrder InFront clock lines = Falls (clock + 1) lines
InOrder InPlace clock lines = CountsUp 0 lines

-- Each set holds the slots of the machine's lines of it, in their order, and the random numbers
-- still to come are those that the machine hasn't drawn.
pub record IsState (m : Machine) (st : MachineState) (c : Contents) : Type 0 where
  pub design : c.design ≡ m.design
  pub policy : c.policy ≡ Some m.policy
  pub random_numbers : c.random_numbers ≡ (λ n. m.random_numbers (st.drawn + n))
  pub count : length c.sets ≡ 2 ^ m.design.geometry.s
  pub sets : (k : ℕ) → slots_of c.sets k ≡ map slot_of (lines_of_set m.design.geometry k st.lines)

-- the invariant of the lines of a set, by where a new block goes: each block has one at most, and
-- they are in order
pub record IsGood (placed : Place) (clock : ℕ) (ls : List Line) : Type 0 where
  pub distinct : Distinct ls
  pub order : InOrder placed clock ls

-- each set of the machine is good
abbrev pub IsSoundState : Machine → MachineState → Type 0
IsSoundState m st = (k : ℕ) → IsGood (rules m.policy).placed st.clock
    (lines_of_set m.design.geometry k st.lines)

-- a cache that holds what the machine holds after a list of events
abbrev pub CacheStandsFor : Machine → List Event → Contents → Type 0
CacheStandsFor m events c = IsState m (run m events) c

-- a new cache stands for no event
abbrev pub StartLaw : Type 0
StartLaw = (m : Machine) (c : Contents) →
    c.design ≡ m.design → c.policy ≡ Some m.policy → c.random_numbers ≡ m.random_numbers →
    c.sets ≡ replicate (2 ^ m.design.geometry.s) [] → CacheStandsFor m [] c

-- a list of events at a cache, one after another
abbrev pub Runs : Contents → List Event → Contents → Type 0
Runs old [] new = new ≡ old
Runs old (event.Reference ref ∷ events) new = (outcome : Outcome) × (half : Contents) ×
    Accesses old ref outcome half × Runs half events new
Runs old (event.Flush ∷ events) new = (dirty : ℕ) × (half : Contents) ×
    FlushesCache old dirty half × Runs half events new

-- an access leads from a list of events to that list with the reference, and its outcome is the
-- machine's
abbrev pub AccessLaw : Type 0
AccessLaw =
    (m : Machine) (events : List Event) (old : Contents) (ref : Ref) (outcome : Outcome)
    (new : Contents) →
    1 ≤ m.design.geometry.e → CacheStandsFor m events old → Accesses old ref outcome new →
    CacheStandsFor m (events ++ event.Reference ref ∷ []) new ×
    (outcome ≡ outcome_of (step m (run m events) ref).effect)

-- a flush leads to that list with a flush, and returns how many blocks the machine holds dirty
abbrev pub FlushLaw : Type 0
FlushLaw =
    (m : Machine) (events : List Event) (old : Contents) (dirty : ℕ) (new : Contents) →
    CacheStandsFor m events old → FlushesCache old dirty new →
    CacheStandsFor m (events ++ event.Flush ∷ []) new × (dirty ≡ dirty_count (run m events))

-- so a list of events leads to that list with the others after it
abbrev pub RunLaw : Type 0
RunLaw = (m : Machine) (events more : List Event) (old new : Contents) →
    1 ≤ m.design.geometry.e → CacheStandsFor m events old → Runs old more new →
    CacheStandsFor m (events ++ more) new

-- Each set of the machine has one line at most for a block, and is in the policy's order: for LRU
-- and FIFO the newest key first, for random way after way.
abbrev pub OrderLaw : Type 0
OrderLaw = (m : Machine) (events : List Event) → 1 ≤ m.design.geometry.e →
    IsSoundState m (run m events)

-- never more than two references are sent down
abbrev pub DownLaw : Type 0
DownLaw = (m : Machine) (events : List Event) (ref : Ref) →
    length (step m (run m events) ref).effect.down ≤ 2
