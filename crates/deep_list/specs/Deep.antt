-- A list of different blocks, the most recent first, with a value beside each, and the slots that
-- it stands in.
use Rattle.std.specs.Prelude.{ℕ, ◌≡◌, ◌≢◌, ◌≤◌, ◌<◌, ◌+◌, ◌==◌, ◌^◌, Bool}
use Rattle.std.specs.Prelude.{true, false, ◌-◌, Option, MatchOption, List, [], ◌∷◌, length, take}
use Rattle.std.specs.Prelude.{sum, slice_index, slice_index_or}
use Rattle.std.specs.List.{list_any, position_or_len, remove}
use Rattle.deep_list.specs.Slots.{SlotsValue, AreFlags, live_items}
use Rattle.deep_list.specs.Chains.{ChainsValue, AreChains, AreFiled}

-- the index of x in a list, or the list's length
abbrev pub index_of_block : ℕ → List ℕ → ℕ
index_of_block x xs = position_or_len (λ y. y == x) xs

-- whether x is in a list
abbrev pub has_block : ℕ → List ℕ → Bool
has_block x xs = list_any (λ y. y == x) xs

-- no two blocks are equal
abbrev pub IsOnce : List ℕ → Type 0
IsOnce [] = Unit {0}
IsOnce (x ∷ xs) = (has_block x xs ≡ false) × IsOnce xs

-- a list of at most `cap` blocks, and a value beside each
pub record Deep (V : Type 0) : Type 0 where
  pub cap : ℕ
  pub blocks : List ℕ
  pub values : List V

-- without block x
abbrev pub without_block : {V : Type 0} → Deep V → ℕ → Deep V
without_block d x = record d {
  blocks = remove d.blocks (index_of_block x d.blocks);
  values = remove d.values (index_of_block x d.blocks);
}

-- cut to the first n blocks
abbrev pub cut_to : {V : Type 0} → ℕ → Deep V → Deep V
cut_to n d = record d { blocks = take n d.blocks; values = take n d.values }

-- with block y and its value in front and without block x, as far as there is room
abbrev pub list_after_exchange : {V : Type 0} → Deep V → ℕ → ℕ → V → Deep V
list_after_exchange d x y value = record d {
  blocks = take d.cap (y ∷ remove d.blocks (index_of_block x d.blocks));
  values = take d.cap (value ∷ remove d.values (index_of_block x d.blocks));
}

-- the place of block x and its value, or none: then the list doesn't have it
abbrev pub IsFound : {V : Type 0} → ℕ → Deep V → Option (ℕ × V) → Type 0
IsFound x d found = MatchOption found (has_block x d.blocks ≡ false) (λ f.
    (has_block x d.blocks ≡ true) × (f.0 ≡ index_of_block x d.blocks)
    × (f.1 ≡ slice_index_or d.values f.0 f.1))

-- the value of the last block of a full list, or none: then the list has room
abbrev pub IsLastOfFull : {V : Type 0} → Deep V → Option V → Type 0
IsLastOfFull d last = MatchOption last (length d.blocks < d.cap) (λ value.
    (length d.blocks ≡ d.cap) × (value ≡ slice_index_or d.values (d.cap - 1) value))

-- slots whose live ones are from top on and before end, and are on the chains of their blocks; a
-- slot from top on has no block of a later live slot
pub record IsRanked (top end : ℕ) (slots : SlotsValue) (chains : ChainsValue) : Type 0 where
  pub same : length slots.blocks ≡ length slots.live
  pub small : length slots.live ≤ 2 ^ 24
  pub flags : AreFlags slots.live
  pub order : top ≤ end
  pub within : end ≤ length slots.live
  pub before : (s : ℕ) → s < top → slice_index slots.live s ≡ 0
  pub behind : (s : ℕ) → end ≤ s → slice_index slots.live s ≡ 0
  pub chains_are : AreChains top (length slots.live) chains
  pub filed : AreFiled chains slots
  pub latest : (s t : ℕ) → top ≤ s → s < t → slice_index slots.live t ≡ 1 →
      slice_index slots.blocks s ≢ slice_index slots.blocks t

-- the invariant of the fields of a list, with a number of values
pub record IsDeep (cap held top end values : ℕ) (slots : SlotsValue)
    (chains : ChainsValue) : Type 0 where
  pub some : 1 ≤ cap
  pub room : cap < length slots.live
  pub beside : values ≡ length slots.live
  pub at_most : held ≤ cap
  pub held_is : held ≡ sum slots.live
  pub once : IsOnce (live_items slots.blocks slots.live)
  pub ranked : IsRanked top end slots chains

-- the slots while the live ones are moved to the end: those from `from` on were moved, and of these
-- those before `to` are free
pub record IsGathering (from to : ℕ) (before slots : SlotsValue) : Type 0 where
  pub same : length slots.blocks ≡ length slots.live
  pub long : length slots.live ≡ length before.live
  pub flags : AreFlags slots.live
  pub order : from ≤ to
  pub within : to ≤ length slots.live
  pub dead : (s : ℕ) → from ≤ s → s < to → slice_index slots.live s ≡ 0
  pub full : (s : ℕ) → to ≤ s → s < length slots.live → slice_index slots.live s ≡ 1
  pub kept_same : live_items slots.blocks slots.live ≡ live_items before.blocks before.live
  pub left : length slots.live + sum (take from slots.live) ≡ to + sum before.live

-- the live slots are those from `top` on
pub record IsGathered (top : ℕ) (before slots : SlotsValue) : Type 0 where
  pub same : length slots.blocks ≡ length slots.live
  pub long : length slots.live ≡ length before.live
  pub flags : AreFlags slots.live
  pub dead : (s : ℕ) → s < top → slice_index slots.live s ≡ 0
  pub full : (s : ℕ) → top ≤ s → s < length slots.live → slice_index slots.live s ≡ 1
  pub kept_same : live_items slots.blocks slots.live ≡ live_items before.blocks before.live
  pub top_is : length slots.live ≡ top + sum before.live
