-- Slots for blocks: which are live, how many live slots stand before one, and what the live ones
-- have.
use Rattle.std.specs.Prelude.{ℕ, zero, suc, ◌≡◌, ◌≤◌, ◌<◌, ◌*◌, ◌^◌, List, [], ◌∷◌, length}
use Rattle.std.specs.Prelude.{take, sum, slice_set, slice_index}

-- a block for each slot, and 1 for each that is live, else 0
pub record SlotsValue : Type 0 where
  pub blocks : List ℕ
  pub live : List ℕ

-- slot s is live, and has block x
pub record IsAt (v : SlotsValue) (x s : ℕ) : Type 0 where
  pub live : slice_index v.live s ≡ 1
  pub block : slice_index v.blocks s ≡ x

-- no live slot has block x
abbrev pub NoneHas : SlotsValue → ℕ → Type 0
NoneHas v x = (s : ℕ) → s < length v.live → IsAt v x s → ⊥

-- with block x in slot s
abbrev pub slots_with_block : SlotsValue → ℕ → ℕ → SlotsValue
slots_with_block v s x = record { blocks = slice_set v.blocks s x; live = slice_set v.live s 1 }

-- with slot s no longer live
abbrev pub slots_without : SlotsValue → ℕ → SlotsValue
slots_without v s = record v { live = slice_set v.live s 0 }

-- each is 0 or 1
abbrev pub AreFlags : List ℕ → Type 0
AreFlags live = (s : ℕ) → slice_index live s ≤ 1

-- how many slots share a count
abbrev pub chunk : ℕ
chunk = 256

-- the counts of the chunks, one after another
pub record HasCounts (blocks live counts : List ℕ) : Type 0 where
  pub same : length blocks ≡ length live
  pub small : length live ≤ 2 ^ 24
  pub flags : AreFlags live
  pub chunks : length live < length counts * 256
  pub prefixes : (c : ℕ) → c ≤ length counts → sum (take c counts) ≡ sum (take (c * 256) live)

-- of something that each slot has, such as its block, what the live slots have, in order
unfoldable pub live_items : {A : Type 0} → List A → List ℕ → List A
live_items [] live = []
live_items (x ∷ items) [] = []
live_items (x ∷ items) (zero ∷ live) = live_items items live
live_items (x ∷ items) (suc n ∷ live) = x ∷ live_items items live
