-- The contents of a cache, each set in its policy's order, and one access to it.
use Rattle.std.specs.Prelude.{◌≡◌, ◌≢◌, ◌<◌, ◌≤◌, ℕ, ◌+◌, ◌-◌, ◌%◌, Bool, true, false, List}
use Rattle.std.specs.Prelude.{[], ◌∷◌, ◌++◌, Option, Some, None, if◌then◌else◌, ◌==◌, length}
use Rattle.std.specs.Prelude.{MatchOption, MatchBool, slice_get, slice_set, slice_index_or, remove}
use Rattle.std.specs.Prelude.{position, sum_by, count_by, replicate, IsPermutation, unwrap_or}
use Rattle.std.specs.Option.{option_map}
use Rattle.trace_core.specs.declared.events.Ref.{Ref}
use Rattle.trace_core.specs.Events.{is_write, one_if}
use Rattle.cache_core.specs.declared.outcome.Slot.{Slot}
use Rattle.cache_core.specs.declared.outcome.Outcome.{Outcome}
use Rattle.cache_core.specs.declared.design.Design.{Design}
use Rattle.cache_core.specs.declared.design.Repl.{Repl}
use Rattle.cache_core.specs.Geometry.{block_of, set_of}
use Rattle.cache_core.specs.cache.Outcomes.{outcome_of, on_hit, on_placing, on_passing, is_dirtied}
use Rattle.cache_core.specs.cache.Outcomes.{is_allocated}
use Rattle.cache_core.specs.replacement.Rules.{Place, InFront, InPlace, Victim, Last, Drawn, rules}
use Rattle.cache_core.specs.replacement.Rules.{is_random}

-- the slot at an index comes to the front, or stays where it is
abbrev pub Moves : Place → List Slot → ℕ → List Slot → Type 0
Moves InFront old at new = (x : Slot) × (slice_get old at ≡ Some x) × (new ≡ x ∷ remove old at)
Moves InPlace old at new = new ≡ old

-- A touch of the slot at an index. LRU brings it to the front; FIFO and random leave the order. Of
-- any other policy it is known that the slots are the same.
abbrev pub Touches : Option Repl → List Slot → ℕ → List Slot → Type 0
Touches None old at new = IsPermutation old new
Touches (Some policy) old at new = Moves (rules policy).touched old at new

-- the slots with a new one: in front of them, or in the place of that at an index, which goes, and
-- behind them if none goes
abbrev pub with_slot_at : Place → Slot → Option ℕ → List Slot → List Slot
with_slot_at InFront slot None old = slot ∷ old
with_slot_at InFront slot (Some at) old = slot ∷ remove old at
with_slot_at InPlace slot None old = old ++ slot ∷ []
with_slot_at InPlace slot (Some at) old = slice_set old at slot

-- A slot put into a set that is not full: LRU and FIFO put it in front, random in the next way.
abbrev pub Inserts : Option Repl → List Slot → Slot → List Slot → Type 0
Inserts None old slot new = IsPermutation (slot ∷ old) new
Inserts (Some policy) old slot new = new ≡ with_slot_at (rules policy).placed slot None old

-- the index of the slot that leaves a full set: the last one, or the one that the random number
-- names
abbrev pub victim_at : Victim → ℕ → List Slot → ℕ
victim_at Last number slots = length slots - 1
victim_at Drawn number slots = number % length slots

-- A slot put into a full set, from which one leaves: LRU and FIFO put it in front and take out the
-- last, random exchanges the way that the random number names.
abbrev pub Exchanges : Option Repl → ℕ → List Slot → Slot → Slot → List Slot → Type 0
Exchanges None number old slot gone new =
    (rest : List Slot) × IsPermutation old (gone ∷ rest) × IsPermutation (slot ∷ rest) new
Exchanges (Some policy) number old slot gone new =
    let at = victim_at (rules policy).victim number old in
    (slice_get old at ≡ Some gone) × (new ≡ with_slot_at (rules policy).placed slot (Some at) old)

-- A slot placed in a set of this capacity, by the slot that leaves, if any.
abbrev pub TakesIn : Option Repl → ℕ → ℕ → List Slot → Slot → Option Slot → List Slot → Type 0
TakesIn policy number capacity old slot None new =
    (length old < capacity) × Inserts policy old slot new
TakesIn policy number capacity old slot (Some gone) new =
    (length old ≡ capacity) × Exchanges policy number old slot gone new

-- only random draws a random number, and only when a slot leaves
abbrev pub random_numbers_after : Option Repl → Option Slot → (ℕ → ℕ) → ℕ → ℕ
random_numbers_after (Some policy) (Some _) numbers n =
    if is_random (rules policy).victim then numbers (n + 1) else numbers n
random_numbers_after (Some policy) None numbers n = numbers n
random_numbers_after None _ numbers n = numbers n

-- the slots with that at an index marked dirty, if it is to be
abbrev pub with_dirty_at : Bool → List Slot → ℕ → List Slot
with_dirty_at false slots at = slots
with_dirty_at true slots at =
    slice_set slots at (record (slice_index_or slots at (record { block = 0; dirty = false }))
    { dirty = true })

-- the index of a block among slots
abbrev pub position_of : ℕ → List Slot → Option ℕ
position_of block slots = position (λ x. x.block == block) slots

-- a reference whose block is at an index of its set
pub record Hits (d : Design) (policy : Option Repl) (numbers : ℕ → ℕ) (ref : Ref) (at : ℕ)
    (old : List Slot) (outcome : Outcome) (new : List Slot)
    (rest : ℕ → ℕ) : Type 0 where
  pub order : Touches policy (with_dirty_at (is_dirtied d.write ref.access) old at) at new
  pub undrawn : rest ≡ numbers
  pub effect : outcome ≡ outcome_of (on_hit d.write ref)

-- a reference whose block is placed
pub record Fills (d : Design) (policy : Option Repl) (numbers : ℕ → ℕ) (ref : Ref) (old : List Slot)
    (outcome : Outcome) (new : List Slot)
    (rest : ℕ → ℕ) : Type 0 where
  pub order : TakesIn policy (numbers 0) d.geometry.e old
      (record { block = block_of d.geometry ref.addr; dirty = is_dirtied d.write ref.access })
      outcome.evicted new
  pub undrawn : rest ≡ random_numbers_after policy outcome.evicted numbers
  pub effect : outcome ≡ outcome_of (on_placing d.geometry d.write ref
      (block_of d.geometry ref.addr) outcome.evicted)

-- a reference that the cache passes on
pub record PassesOn (numbers : ℕ → ℕ) (ref : Ref) (old : List Slot) (outcome : Outcome)
    (new : List Slot) (rest : ℕ → ℕ) : Type 0 where
  pub order : new ≡ old
  pub undrawn : rest ≡ numbers
  pub effect : outcome ≡ outcome_of (on_passing ref)

-- One access, by the index of its block among the slots: a hit, or else a block that is placed or a
-- reference that is passed on.
abbrev pub VisitsAt : Option ℕ → Design → Option Repl → (ℕ → ℕ) → Ref → List Slot → Outcome →
    List Slot → (ℕ → ℕ) → Type 0
VisitsAt index d policy numbers ref old outcome new rest =
    MatchOption index
    (MatchBool (is_allocated d.allocate ref.access)
    (Fills d policy numbers ref old outcome new rest)
    (PassesOn numbers ref old outcome new rest))
    (λ at. Hits d policy numbers ref at old outcome new rest)

-- One access, as its set sees it: the slots and the random numbers to come, before it and after it.
abbrev pub Visits : Design → Option Repl → (ℕ → ℕ) → Ref → List Slot → Outcome → List Slot →
    (ℕ → ℕ) → Type 0
Visits d policy numbers ref old outcome new rest =
    VisitsAt (position_of (block_of d.geometry ref.addr) old) d policy numbers ref old
    outcome new rest

-- a cache's contents: its sets, each in its policy's order, and the random numbers still to come
pub record Contents : Type 0 where
  pub design : Design
  pub policy : Option Repl
  pub random_numbers : ℕ → ℕ
  pub sets : List (List Slot)

-- the slots of a set
abbrev pub slots_of : List (List Slot) → ℕ → List Slot
slots_of sets set = slice_index_or sets set []

-- one access: its set is visited, and the others stay
pub record Accesses (old : Contents) (ref : Ref) (outcome : Outcome) (new : Contents) : Type 0 where
  pub visit : Visits old.design old.policy old.random_numbers ref
      (slots_of old.sets (set_of old.design.geometry ref.addr)) outcome
      (slots_of new.sets (set_of old.design.geometry ref.addr)) new.random_numbers
  pub others : (k : ℕ) → k ≢ set_of old.design.geometry ref.addr →
      slots_of new.sets k ≡ slots_of old.sets k
  pub count : length new.sets ≡ length old.sets
  pub design : new.design ≡ old.design
  pub policy : new.policy ≡ old.policy

-- how many slots of a set are dirty
abbrev pub dirty_in : List Slot → ℕ
dirty_in slots = count_by (λ slot. slot.dirty) slots

-- how many slots of all sets are dirty
abbrev pub dirty_slots : List (List Slot) → ℕ
dirty_slots sets = sum_by dirty_in sets

-- a flush empties each set and keeps the random numbers; it returns how many slots were dirty
pub record FlushesCache (old : Contents) (dirty : ℕ) (new : Contents) : Type 0 where
  pub empty : new.sets ≡ replicate (length old.sets) []
  pub random_numbers : new.random_numbers ≡ old.random_numbers
  pub counted : dirty ≡ dirty_slots old.sets
  pub design : new.design ≡ old.design
  pub policy : new.policy ≡ old.policy

-- whether there is a slot, and it is dirty
abbrev pub is_dirty : Option Slot → Bool
is_dirty slot = unwrap_or (option_map (λ s. s.dirty) slot) false

-- after an access at most one more slot is dirty, the one that left counted too, and that only
-- after a write
abbrev pub DirtiesByWrites : List (List Slot) → Ref → Outcome → List (List Slot) → Type 0
DirtiesByWrites old ref outcome new =
    dirty_slots new + one_if (is_dirty outcome.evicted) ≤ dirty_slots old + one_if
    (is_write ref.access)
