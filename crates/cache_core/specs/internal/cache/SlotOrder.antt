-- The filled slots of each set of a cache, in the order of its policy.
use Rattle.std.specs.Prelude.{ℕ, ◌≡◌, ◌≤◌, ◌+◌, ◌-◌, ◌*◌, ◌%◌, ◌^◌, List, [], ◌∷◌, ◌++◌, All}
use Rattle.std.specs.Prelude.{length, map, slice_index_or, slice_set, remove}
use Rattle.std.specs.List.{range_with_len}
use Rattle.block_index.specs.SlotLists.{SlotListsValue, index_of_slot}
use Rattle.cache_core.specs.declared.design.Repl.{Repl}
use Rattle.cache_core.specs.declared.design.Repl.TheVariants.{Lru, Fifo, Random}
use Rattle.cache_core.specs.replacement.Rules.{Place, InFront, InPlace, Victim, Last, Drawn}

-- The filled slots of each set, in the order of the policy. The slots of a set are numbered from
-- its own number times the ways on, and filled in this order.
pub record OrderValue : Type 0 where
  pub policy : Repl
  pub ways : ℕ
  pub sets : List (List ℕ)

-- the filled slots of a set
abbrev pub order_of : List (List ℕ) → ℕ → List ℕ
order_of sets set = slice_index_or sets set []

-- the slots of a set, after one of them goes there
abbrev pub with_moved : Place → ℕ → List ℕ → List ℕ
with_moved InFront slot order = slot ∷ remove order (index_of_slot slot order)
with_moved InPlace slot order = order

-- the slots of a set and one more, which goes there
abbrev pub with_next : Place → ℕ → List ℕ → List ℕ
with_next InFront slot order = slot ∷ order
with_next InPlace slot order = order ++ slot ∷ []

-- the index of the slot that leaves, of so many
abbrev pub victim_index : Victim → ℕ → ℕ → ℕ
victim_index Last number count = count - 1
victim_index Drawn number count = number % count

-- the order, with another one of a set
abbrev pub with_order : OrderValue → ℕ → List ℕ → OrderValue
with_order v set order = record v { sets = slice_set v.sets set order }

-- the slots of each set in the order of the ways, by how many of them are filled; those of the
-- first set begin here
abbrev pub in_ways : ℕ → ℕ → List ℕ → List (List ℕ)
in_ways ways start [] = []
in_ways ways start (count ∷ filled) =
    range_with_len start count ∷ in_ways ways (start + ways) filled

-- the slots of each set: a list of each set, or, if no slot is moved, the ways
abbrev pub orders : Repl → ℕ → List ℕ → SlotListsValue → List (List ℕ)
orders Lru ways filled lists = lists.lists
orders Fifo ways filled lists = lists.lists
orders Random ways filled lists = in_ways ways 0 filled

-- the lists have a node for each slot, if there are lists
abbrev pub HasNodes : Repl → ℕ → SlotListsValue → Type 0
HasNodes Lru slots lists = lists.slots ≡ slots
HasNodes Fifo slots lists = lists.slots ≡ slots
HasNodes Random slots lists = Unit {0}

-- the invariant of the order of slots
pub record IsKept (policy : Repl) (ways : ℕ) (filled : List ℕ)
    (lists : SlotListsValue) : Type 0 where
  pub few : ways * length filled ≤ 2 ^ 22
  pub within : All (λ count. count ≤ ways) filled
  pub counts : map (λ order. length order) (orders policy ways filled lists) ≡ filled
  pub nodes : HasNodes policy (ways * length filled) lists
