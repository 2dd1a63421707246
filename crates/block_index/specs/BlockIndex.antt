-- Which block each slot has, and the chains by which it is found.
use Rattle.std.specs.Prelude.{ℕ, suc, ◌≡◌, ◌≤◌, ◌+◌, ◌/◌, ◌^◌, true, if◌then◌else◌}
use Rattle.std.specs.Prelude.{Option, Some, None, List, [], ◌∷◌, length, slice_get, slice_index}
use Rattle.block_index.specs.SlotLists.{SlotListsValue, has_slot, is_listed, list_at}
use Rattle.block_index.specs.Chains.{chain_of_block}

-- the block of each slot, if it has one
pub record IndexValue : Type 0 where
  pub blocks : List (Option ℕ)

-- slot s has block b
abbrev pub HasBlock : IndexValue → ℕ → ℕ → Type 0
HasBlock v s b = slice_get v.blocks s ≡ Some (Some b)

-- no slot has block b
abbrev pub NoSlotHas : IndexValue → ℕ → Type 0
NoSlotHas v b = (s : ℕ) → HasBlock v s b → ⊥

-- no two slots have the same block
abbrev pub AreDifferent : IndexValue → Type 0
AreDifferent v = (s t b : ℕ) → HasBlock v s b → HasBlock v t b → s ≡ t

-- of each slot from s on the block, if it is in a list
unfoldable pub blocks_listed : List (List ℕ) → ℕ → List ℕ → List (Option ℕ)
blocks_listed lists s [] = []
blocks_listed lists s (b ∷ blocks) =
    (if is_listed lists s then Some b else None) ∷ blocks_listed lists (suc s) blocks

-- each slot that has a block is on its chain, and no two have the same
pub record AreOnChains (blocks : List ℕ) (chains : SlotListsValue) : Type 0 where
  pub few : length blocks ≤ 2 ^ 22
  pub slots_are : chains.slots ≡ length blocks
  pub chains_are : length chains.lists ≡ length blocks / 2 + 1
  pub filed : (k s : ℕ) → has_slot s (list_at chains k) ≡ true →
      chain_of_block (length chains.lists) (slice_index blocks s) ≡ k
  pub different : (s t : ℕ) → is_listed chains.lists s ≡ true → is_listed chains.lists t ≡ true →
      slice_index blocks s ≡ slice_index blocks t → s ≡ t
