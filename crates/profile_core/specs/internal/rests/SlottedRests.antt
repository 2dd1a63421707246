-- Rests in slots: a set has its own from its first write on.
use Rattle.std.specs.Prelude.{ℕ, ◌≡◌, ◌≤◌, ◌<◌, ◌+◌, ◌^◌, List, [], length}
use Rattle.std.specs.Prelude.{slice_index, slice_index_or}
use Rattle.profile_core.specs.declared.slots.Slots.{Slots}
use Rattle.profile_core.specs.internal.rests.Places.{taken_count, ArePlaces}
use Rattle.profile_core.specs.Slots.{ordered_numbers, IsOrder}

-- no slots
abbrev pub no_slots : Slots
no_slots = record { marks = []; order = []; numbers = [] }

-- the slots of set k, whose index `places` has
abbrev pub slots_at : List ℕ → List Slots → ℕ → Slots
slots_at places rests k = slice_index_or rests (slice_index places k) no_slots

-- the rest of `stride` numbers of set k
abbrev pub slotted_rest : ℕ → List ℕ → List Slots → ℕ → List ℕ
slotted_rest stride places rests k =
    ordered_numbers (slots_at places rests k).order (slots_at places rests k).numbers stride

-- the first slots are those of all sets that have none of their own; those of the others follow,
-- and there is room for slots of all sets
pub record ArePlaced (places : List ℕ) (rests : List Slots) (room : ℕ) : Type 0 where
  pub few : length places ≤ 2 ^ 22
  pub rests_len : length rests ≡ taken_count places + 1
  pub fits : length places + 1 ≤ room
  pub own : ArePlaces places
  pub each : (r : ℕ) → r < length rests → IsOrder (slice_index_or rests r no_slots).marks
      (slice_index_or rests r no_slots).order (slice_index_or rests r no_slots).numbers

-- the invariant
pub record IsSlotted (stride : ℕ) (places : List ℕ) (rests : List Slots) (room : ℕ) : Type 0 where
  pub some : 1 ≤ stride
  pub most : stride ≤ 16
  pub placed : ArePlaced places rests room
