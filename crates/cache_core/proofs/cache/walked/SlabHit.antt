-- A set of a slab is written back, and as many of its slots are filled.
use Rattle.std.proofs.Common.{◌≡◌, ℕ, ◌^◌, ◌<◌, ◌≤◌, List, length, get_or, take, arith, subst}
use Rattle.std.proofs.Common.{Option, set}
use Rattle.std.proofs.lemmas.List.{set-get_or}
use Rattle.std.proofs.lemmas.List.Elements.{All-get_or}
use Rattle.trace_core.specs.declared.events.Ref.{Ref}
use Rattle.cache_core.specs.declared.outcome.Slot.{Slot}
use Rattle.cache_core.specs.declared.outcome.Outcome.{Outcome}
use Rattle.cache_core.specs.declared.design.Design.{Design}
use Rattle.cache_core.specs.declared.design.Repl.{Repl}
use Rattle.cache_core.specs.Geometry.{set_of}
use Rattle.cache_core.specs.cache.Order.{Visits, Accesses, DirtiesByWrites}
use Rattle.cache_core.specs.internal.cache.Slab.{IsCacheSlab, Addressable, sets_of, slab_contents}
use Rattle.cache_core.proofs.cache.Slabs.{IsWritten, segment_slots, with_segment, slab_kept}
use Rattle.cache_core.proofs.cache.Slabs.{slab_access}
use Rattle.cache_core.proofs.cache.DirtyLaw.{slab_dirty}

module _ (d : Design) (filled : List ℕ) (k ways : ℕ) (slots segment : List Slot)
    (i : IsCacheSlab d slots filled) (ways_are : ways ≡ d.geometry.e)
    (within : k < 2 ^ d.geometry.s) (long : length segment ≡ d.geometry.e) where
  abbrev count : ℕ
  count = get_or filled k 0

  written : IsWritten d k count ways segment
  written = record {
    ways_are = ways_are;
    within = within;
    long = long;
    few = All-get_or (λ n. n ≤ d.geometry.e) filled k 0 (omega (arith, i.sets, within)) i.within;
  }

  kept : set filled k count ≡ filled
  kept = set-get_or filled k 0

  pub hit_kept : Addressable d.geometry.b (take count segment) →
      IsCacheSlab d (with_segment ways k slots segment) filled
  hit_kept a = subst (IsCacheSlab d (with_segment ways k slots segment)) kept
      (slab_kept d filled k count ways slots segment i written a)

  module _ (policy later : Option Repl) (numbers rest : ℕ → ℕ) (ref : Ref) (outcome : Outcome)
      (visit : Visits d policy numbers ref (segment_slots ways filled k slots) outcome
      (take count segment) rest) where
    pub hit_access : k ≡ set_of d.geometry ref.addr → later ≡ policy →
        Accesses (slab_contents d policy numbers slots filled) ref outcome
        (slab_contents d later rest (with_segment ways k slots segment) filled)
    hit_access set_is same =
        subst (λ ns. Accesses (slab_contents d policy numbers slots filled) ref outcome
        (slab_contents d later rest (with_segment ways k slots segment) ns)) kept
        (slab_access d filled k count ways slots segment i written policy later numbers rest ref
        outcome set_is same visit)

    pub hit_dirty : DirtiesByWrites (sets_of d.geometry.e slots filled) ref outcome
        (sets_of d.geometry.e (with_segment ways k slots segment) filled)
    hit_dirty =
        subst (λ ns. DirtiesByWrites (sets_of d.geometry.e slots filled) ref outcome
        (sets_of d.geometry.e (with_segment ways k slots segment) ns)) kept
        (slab_dirty d filled k count ways slots segment i written policy numbers rest ref outcome
        visit)
