-- The effects of one reference on a cache, apart from which line leaves: the table of outcomes.
-- (Write-back and write-through, and allocation on writes, as the options wback and walloc of the
-- Dinero IV manual.)
use Rattle.std.specs.Prelude.{ℕ, Bool, true, false, not, List, [], ◌∷◌, ◌++◌, Option, Some, None}
use Rattle.std.specs.Prelude.{if◌then◌else◌}
use Rattle.trace_core.specs.declared.events.Ref.{Ref}
use Rattle.trace_core.specs.declared.events.Access.{Access}
use Rattle.trace_core.specs.declared.events.Access.TheVariants.{Fetch, Read, Write}
use Rattle.trace_core.specs.Events.{is_write}
use Rattle.cache_core.specs.declared.outcome.Slot.{Slot}
use Rattle.cache_core.specs.declared.outcome.Outcome.{Outcome}
use Rattle.cache_core.specs.declared.design.WriteMode.{WriteMode}
use Rattle.cache_core.specs.declared.design.WriteMode.TheVariants.{Back, Through}
use Rattle.cache_core.specs.declared.design.AllocMode.{AllocMode}
use Rattle.cache_core.specs.declared.design.AllocMode.TheVariants.{Always, Never}
use Rattle.cache_core.specs.Geometry.{GeometryValue, address_of}

-- whether a reference marks its line dirty: a write, in a write-back cache
abbrev pub is_dirtied : WriteMode → Access → Bool
is_dirtied Back a = is_write a
is_dirtied Through a = false

-- a miss places its block: any but a write without allocation
abbrev pub is_allocated : AllocMode → Access → Bool
is_allocated Always a = true
is_allocated Never a = not (is_write a)

-- a write-through cache sends each write on
abbrev pub through_writes : WriteMode → Ref → List Ref
through_writes Back ref = []
through_writes Through ref = if is_write ref.access then ref ∷ [] else []

-- a dirty victim is written back
abbrev pub copyback_writes : GeometryValue → Option Slot → List Ref
copyback_writes g None = []
copyback_writes g (Some victim) =
    if victim.dirty then record { access = Write; addr = address_of g victim.block } ∷ [] else []

-- the block is fetched for a fetch, and read for a read or a write
abbrev pub block_load_access : Access → Access
block_load_access Fetch = Fetch
block_load_access Read = Read
block_load_access Write = Read

-- the effect of one reference, with the references sent to the next level, in order
pub record Effect : Type 0 where
  pub hit : Bool
  pub evicted : Option Slot
  pub placed : Bool
  pub down : List Ref

-- a hit: nothing leaves, and only a write that goes through is sent on
abbrev pub on_hit : WriteMode → Ref → Effect
on_hit write ref = record {
  hit = true;
  evicted = None;
  placed = false;
  down =
      through_writes write ref;
}

-- a miss that places the block and evicts this slot, if any
abbrev pub on_placing : GeometryValue → WriteMode → Ref → ℕ → Option Slot → Effect
on_placing g write ref block victim = record {
  hit = false;
  evicted = victim;
  placed = true;
  down = copyback_writes g victim ++ record {
    access = block_load_access ref.access;
    addr =
        address_of g block;
  } ∷ through_writes write ref;
}

-- a write that misses without allocation
abbrev pub on_passing : Ref → Effect
on_passing ref = record { hit = false; evicted = None; placed = false; down = ref ∷ [] }

-- a list of at most two as two options, the first ones filled
abbrev pub two_options : List Ref → List (Option Ref)
two_options [] = None ∷ None ∷ []
two_options (x ∷ []) = Some x ∷ None ∷ []
two_options (x ∷ y ∷ _) = Some x ∷ Some y ∷ []

-- an effect as an outcome of the code
abbrev pub outcome_of : Effect → Outcome
outcome_of a = record {
  hit = a.hit;
  evicted = a.evicted;
  placed = a.placed;
  down =
      two_options a.down;
}
