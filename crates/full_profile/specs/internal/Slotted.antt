-- Lists in slots: the front of each in one array, and the blocks behind it in the slots of its set.
use Rattle.std.specs.Prelude.{ℕ, ◌≡◌, ◌≤◌, ◌<◌, ◌^◌, List, [], ◌∷◌, length, take, slice_index}
use Rattle.std.specs.Prelude.{slice_index_or}
use Rattle.profile_core.specs.Slots.{ordered_numbers, IsOrder}
use Rattle.profile_core.specs.internal.rows.Rows.{rows_by_set}
use Rattle.full_profile.specs.declared.marked_lists.slotted.ListSlots.{ListSlots}

-- what all slots have, in the order of the list
abbrev pub blocks_behind : ListSlots → List ℕ
blocks_behind l = ordered_numbers l.slots.order l.slots.numbers 16

abbrev pub cleans_behind : ListSlots → List ℕ
cleans_behind l = ordered_numbers l.slots.order l.cleans 16

-- a list: its front, and then what the first slots have
abbrev pub listed_blocks : ℕ → ListSlots → List ℕ
listed_blocks front l = take l.len (front ∷ blocks_behind l)

abbrev pub listed_cleans : ℕ → ListSlots → List ℕ
listed_cleans clean l = take l.len (clean ∷ cleans_behind l)

-- a clean depth for each slot
pub record IsInSlots (l : ListSlots) : Type 0 where
  pub order : IsOrder l.slots.marks l.slots.order l.slots.numbers
  pub cleans_len : length l.cleans ≡ 16

-- no list
abbrev pub no_list : ListSlots
no_list = record { slots = record { marks = []; order = []; numbers = [] }; cleans = []; len = 0 }

-- the slots of a set
abbrev pub list_in : List ListSlots → ℕ → ListSlots
list_in lists set = slice_index_or lists set no_list

-- the lists of all sets
abbrev pub all_blocks : List ℕ → List ListSlots → List (List ℕ)
all_blocks fronts lists = rows_by_set (length lists)
    (λ set. listed_blocks (slice_index fronts set) (list_in lists set))

abbrev pub all_cleans : List ℕ → List ListSlots → List (List ℕ)
all_cleans cleans lists = rows_by_set (length lists)
    (λ set. listed_cleans (slice_index cleans set) (list_in lists set))

-- the invariant: the front of an empty list is 0
pub record AreSlotted (depth : ℕ) (fronts cleans : List ℕ)
    (lists : List ListSlots) : Type 0 where
  pub two : 2 ≤ depth
  pub most : depth ≤ 16
  pub few : length lists ≤ 2 ^ 22
  pub fronts_len : length fronts ≡ length lists
  pub cleans_len : length cleans ≡ length lists
  pub sound : (set : ℕ) → set < length lists → IsInSlots (list_in lists set)
  pub short : (set : ℕ) → (list_in lists set).len ≤ depth
  pub blank : (set : ℕ) → (list_in lists set).len ≡ 0 → slice_index fronts set ≡ 0
