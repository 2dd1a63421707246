-- A cache whose blocks are found by an index: its slots, which have blocks and marks, and the order
-- of those that are filled.
use Rattle.std.specs.Prelude.{ℕ, ◌≡◌, ◌≤◌, ◌<◌, ◌+◌, ◌*◌, ◌^◌, ◌↔◌, Bool, true, false, List}
use Rattle.std.specs.Prelude.{length, map, Option, None, slice_index_or, slice_set, unwrap_or}
use Rattle.block_index.specs.SlotLists.{has_slot, AreOnce}
use Rattle.block_index.specs.BlockIndex.{IndexValue, HasBlock, AreDifferent}
use Rattle.cache_core.specs.declared.outcome.Slot.{Slot}
use Rattle.cache_core.specs.declared.design.Design.{Design}
use Rattle.cache_core.specs.declared.design.Repl.{Repl}
use Rattle.cache_core.specs.cache.Order.{Contents}
use Rattle.cache_core.specs.Geometry.{GeometryValue, IsGeometry, set_of_block}
use Rattle.cache_core.specs.internal.cache.SlotOrder.{OrderValue, order_of}

-- what a slot holds
abbrev pub slot_at : IndexValue → List Bool → ℕ → Slot
slot_at index dirty slot = record {
  block = unwrap_or (slice_index_or index.blocks slot None) 0;
  dirty = slice_index_or dirty slot false;
}

-- what the slots of a set hold
abbrev pub set_at : IndexValue → List Bool → List ℕ → List Slot
set_at index dirty order = map (slot_at index dirty) order

-- what the slots of all sets hold
abbrev pub sets_at : IndexValue → List Bool → List (List ℕ) → List (List Slot)
sets_at index dirty sets = map (set_at index dirty) sets

-- how many slots of each set are filled
abbrev pub counts_of : List (List ℕ) → List ℕ
counts_of sets = map (λ order. length order) sets

-- the contents of the cache
abbrev pub indexed_contents : Design → Option Repl → (ℕ → ℕ) → IndexValue → List Bool →
    OrderValue → Contents
indexed_contents d policy numbers index dirty order = record {
  design = d;
  policy = policy;
  random_numbers =
      numbers;
  sets = sets_at index dirty order.sets;
}

-- the marks, after a slot is marked if it is to be
abbrev pub with_mark : Bool → List Bool → ℕ → List Bool
with_mark false dirty slot = dirty
with_mark true dirty slot = slice_set dirty slot true

-- a slot holds a block of a set, whose address is below 2^64
pub record Holds (g : GeometryValue) (index : IndexValue) (set slot : ℕ) : Type 0 where
  pub block : ℕ
  pub has : HasBlock index slot block
  pub own : set_of_block g block ≡ set
  pub address : block * 2 ^ g.b < 2 ^ 64

-- Each slot in the order has a block of its set, and each slot that has a block is in the order of
-- its set. No slot is there twice, and no two slots have the same block.
pub record IsHeld (g : GeometryValue) (index : IndexValue) (sets : List (List ℕ)) : Type 0 where
  pub once : (k : ℕ) → AreOnce (order_of sets k)
  pub holds : (k slot : ℕ) → has_slot slot (order_of sets k) ≡ true → Holds g index k slot
  pub listed : (slot b : ℕ) → HasBlock index slot b →
      has_slot slot (order_of sets (set_of_block g b)) ≡ true
  pub different : AreDifferent index

-- the filled slots of each set are its first
abbrev pub ArePacked : ℕ → List (List ℕ) → Type 0
ArePacked ways sets = (k slot : ℕ) → (has_slot slot (order_of sets k) ≡ true) ↔
    ((k * ways ≤ slot) × (slot < k * ways + length (order_of sets k)))

-- The invariant of a cache whose blocks are found by an index.
pub record IsIndexed (d : Design) (index : IndexValue) (dirty : List Bool)
    (order : OrderValue) : Type 0 where
  pub geometry : IsGeometry d.geometry
  pub ways : order.ways ≡ d.geometry.e
  pub sets : length order.sets ≡ 2 ^ d.geometry.s
  pub slots : length index.blocks ≡ d.geometry.e * 2 ^ d.geometry.s
  pub marks : length dirty ≡ d.geometry.e * 2 ^ d.geometry.s
  pub few : (k : ℕ) → length (order_of order.sets k) ≤ d.geometry.e
  pub held : IsHeld d.geometry index order.sets
  pub packed : ArePacked d.geometry.e order.sets
