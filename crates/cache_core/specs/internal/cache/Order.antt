-- The contents of a cache, each set in its policy's order, and one access to it.
-- Only the proofs need these definitions.
use Rattle.std.specs.Prelude.{◌≡◌, ◌<◌, ℕ, Bool, true, false, List, [], ◌∷◌, None, if◌then◌else◌}
use Rattle.std.specs.Prelude.{◌==◌, length, slice_index_or}
use Rattle.trace_core.specs.declared.events.Ref.{Ref}
use Rattle.cache_core.specs.declared.outcome.Slot.{Slot}
use Rattle.cache_core.specs.declared.outcome.Outcome.{Outcome}
use Rattle.cache_core.specs.declared.design.Design.{Design}
use Rattle.cache_core.specs.Geometry.{block_of, set_of}
use Rattle.cache_core.specs.cache.Outcomes.{through_writes}
use Rattle.cache_core.specs.cache.Order.{slots_of}

-- the outcome of a hit that sends nothing down
abbrev pub hit_in_front : Outcome
hit_in_front = record { hit = true; evicted = None; placed = false; down = None ∷ None ∷ [] }

-- whether the first of these slots holds a block
abbrev pub holds_first : ℕ → List Slot → Bool
holds_first block [] = false
holds_first block (slot ∷ slots) = slot.block == block

-- whether a reference finds its block in the first filled slot of its set, and sends nothing on
abbrev pub hits_in_front : Design → List (List Slot) → Ref → Bool
hits_in_front d sets ref =
    if holds_first (block_of d.geometry ref.addr) (slots_of sets (set_of d.geometry ref.addr))
    then length (through_writes d.write ref) == 0 else false

-- no slot before an index holds a block
abbrev pub NoneBefore : ℕ → List Slot → ℕ → Type 0
NoneBefore block slots at = (k : ℕ) (d : Slot) → k < at → k < length slots →
    (slice_index_or slots k d).block == block ≡ false

-- whether the slot at an index holds a block
abbrev pub HoldsAt : ℕ → List Slot → ℕ → Type 0
HoldsAt block slots at =
    (slice_index_or slots at (record { block = 0; dirty = false })).block ≡ block
