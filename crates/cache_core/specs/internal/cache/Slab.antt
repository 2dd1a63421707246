-- A cache's sets in one array of slots: each has a segment of as many slots as it has ways, and the
-- first of them are filled. Only the proofs need these definitions.
use Rattle.std.specs.Prelude.{◌≡◌, ◌<◌, ◌≤◌, ℕ, ◌*◌, ◌^◌, List, [], ◌∷◌, Option, length, take, drop}
use Rattle.std.specs.Prelude.{All, None, IfSome, is_some}
use Rattle.cache_core.specs.Geometry.{IsGeometry}
use Rattle.trace_core.specs.declared.events.Ref.{Ref}
use Rattle.cache_core.specs.declared.outcome.Slot.{Slot}
use Rattle.cache_core.specs.declared.outcome.Outcome.{Outcome}
use Rattle.cache_core.specs.declared.design.Design.{Design}
use Rattle.cache_core.specs.declared.design.Repl.{Repl}
use Rattle.cache_core.specs.cache.Order.{Contents, Accesses, DirtiesByWrites}
use Rattle.cache_core.specs.cache.Slab.{CacheValue, contents_of}
use Rattle.cache_core.specs.internal.cache.Order.{hit_in_front, hits_in_front}

-- the filled slots of each segment
abbrev pub sets_of : ℕ → List Slot → List ℕ → List (List Slot)
sets_of ways slots [] = []
sets_of ways slots (n ∷ filled) = take n slots ∷ sets_of ways (drop ways slots) filled

-- the address of each slot's block is below 2^64
abbrev pub Addressable : ℕ → List Slot → Type 0
Addressable b slots = All (λ slot. slot.block * 2 ^ b < 2 ^ 64) slots

-- the invariant of a cache's arrays
pub record IsCacheSlab (d : Design) (slots : List Slot) (filled : List ℕ) : Type 0 where
  pub geometry : IsGeometry d.geometry
  pub segments : length slots ≡ d.geometry.e * 2 ^ d.geometry.s
  pub sets : length filled ≡ 2 ^ d.geometry.s
  pub within : All (λ n. n ≤ d.geometry.e) filled
  pub addresses : All (Addressable d.geometry.b) (sets_of d.geometry.e slots filled)

-- the contents of a slab
abbrev pub slab_contents : Design → Option Repl → (ℕ → ℕ) → List Slot → List ℕ → Contents
slab_contents d policy numbers slots filled = record {
  design = d;
  policy = policy;
  random_numbers =
      numbers;
  sets = sets_of d.geometry.e slots filled;
}

-- an access is made if it finds its block in the first slot of its set and sends nothing down; any
-- other access changes nothing
pub record AccessesInFront {P : Type 0} (policy : P → Option Repl) (numbers : P → ℕ → ℕ)
    (old : CacheValue P) (ref : Ref) (result : Option Outcome) (new : CacheValue P) : Type 0 where
  pub step : IfSome result (λ outcome.
      Accesses (contents_of policy numbers old) ref outcome (contents_of policy numbers new))
  pub dirty : IfSome result (λ outcome. DirtiesByWrites old.sets ref outcome new.sets)
  pub answers : is_some result ≡ hits_in_front old.design old.sets ref
  pub outcome : IfSome result (λ outcome. outcome ≡ hit_in_front)
  pub kept : result ≡ None → new ≡ old
