-- Each dirty slot comes of a write.
use Rattle.std.proofs.Common.{◌≡◌, ℕ, ◌+◌, ◌<◌, ◌≤◌, Bool, false, cond, List, [], ◌∷◌, length}
use Rattle.std.proofs.Common.{get_or, set, Option, Some, None, sym, refl, subst, arith, take}
use Rattle.std.specs.Prelude.{MatchBool}
use Rattle.std.proofs.lemmas.List.Quantifiers.{position-Some}
use Rattle.std.proofs.lemmas.List.Sums.{sum_by-set, sum_by-cons}
use Rattle.std.proofs.lemmas.List.Sorted.{sum_by-IsPermutation}
use Rattle.trace_core.specs.declared.events.Ref.{Ref}
use Rattle.trace_core.specs.Events.{is_write, one_if}
use Rattle.cache_core.specs.declared.outcome.Slot.{Slot}
use Rattle.cache_core.specs.declared.outcome.Outcome.{Outcome}
use Rattle.cache_core.specs.declared.design.Design.{Design}
use Rattle.cache_core.specs.declared.design.Repl.{Repl}
use Rattle.cache_core.specs.Geometry.{block_of}
use Rattle.cache_core.specs.cache.Outcomes.{is_allocated}
use Rattle.cache_core.specs.cache.Order.{Visits, VisitsAt, Hits, Fills, PassesOn, TakesIn}
use Rattle.cache_core.specs.cache.Order.{with_dirty_at, position_of, dirty_in, is_dirty}
use Rattle.cache_core.specs.cache.Order.{dirty_slots, DirtiesByWrites}
use Rattle.cache_core.specs.internal.cache.Slab.{IsCacheSlab, sets_of}
use Rattle.cache_core.proofs.cache.Slabs.{segment_slots, with_segment, IsWritten, set_read}
use Rattle.cache_core.proofs.cache.Slabs.{sets_written, length-sets_of}
use Rattle.cache_core.proofs.replacement.Lawful.{marked_length, lawful_touch, lawful_insert}
use Rattle.cache_core.proofs.replacement.Lawful.{lawful_exchange}

dirty_cons : (x : Slot) (xs : List Slot) → dirty_in (x ∷ xs) ≡ one_if x.dirty + dirty_in xs
dirty_cons x xs = sum_by-cons (λ (slot : Slot). cond slot.dirty 1 0) x xs

dirty_marked : (d : Bool) (slots : List Slot) (at : ℕ) → at < length slots →
    dirty_in (with_dirty_at d slots at) ≤ dirty_in slots + one_if d
dirty_marked d slots at h = grind (arith, sum_by-set)

fills_dirty : (policy : Option Repl) (number capacity : ℕ) (old : List Slot) (slot : Slot)
    (evicted : Option Slot) (new : List Slot) → 0 < capacity →
    TakesIn policy number capacity old slot evicted new →
    dirty_in new + one_if (is_dirty evicted) ≡ dirty_in old + one_if slot.dirty
fills_dirty policy number capacity old slot None new r p =
    let q = sum_by-IsPermutation (λ (s : Slot). cond s.dirty 1 0) (slot ∷ old) new
    (lawful_insert policy old slot new p.1) in
    omega (arith, q, dirty_cons slot old)
fills_dirty policy number capacity old slot (Some gone) new r p =
    let x = lawful_exchange policy number 0 old slot gone new (omega (arith, p.0)) p.1 in
    let a = sum_by-IsPermutation (λ (s : Slot). cond s.dirty 1 0) old (gone ∷ x.0) x.1 in
    let b = sum_by-IsPermutation (λ (s : Slot). cond s.dirty 1 0) (slot ∷ x.0) new x.2 in
    omega (arith, a, b, dirty_cons gone x.0, dirty_cons slot x.0)

miss_dirty : (d : Design) (policy : Option Repl) (numbers rest : ℕ → ℕ) (ref : Ref)
    (old : List Slot) (outcome : Outcome) (new : List Slot) (fills : Bool)
    →
    0 < d.geometry.e → MatchBool fills (Fills d policy numbers ref old outcome new rest)
    (PassesOn numbers ref old outcome new rest) →
    dirty_in new + one_if (is_dirty outcome.evicted) ≤ dirty_in old + one_if (is_write ref.access)
miss_dirty d policy numbers rest ref old outcome new fills e v = grind (arith, fills_dirty)

hit_dirty : (d : Design) (policy : Option Repl) (numbers rest : ℕ → ℕ) (ref : Ref) (old : List Slot)
    (outcome : Outcome) (new : List Slot) (at : ℕ) →
    at < length old → Hits d policy numbers ref at old outcome new rest →
    dirty_in new + one_if (is_dirty outcome.evicted) ≤ dirty_in old + one_if (is_write ref.access)
hit_dirty d policy numbers rest ref old outcome new at h v =
    grind (arith, dirty_marked, marked_length, sum_by-IsPermutation, lawful_touch)

pub visit_dirty : (d : Design) (policy : Option Repl) (numbers rest : ℕ → ℕ) (ref : Ref)
    (old : List Slot) (outcome : Outcome) (new : List Slot) →
    0 < d.geometry.e → Visits d policy numbers ref old outcome new rest →
    dirty_in new + one_if (is_dirty outcome.evicted) ≤ dirty_in old + one_if (is_write ref.access)
visit_dirty d policy numbers rest ref old outcome new e v =
    by_index (position_of (block_of d.geometry ref.addr) old) refl v
  where
    by_index : (o : Option ℕ) → position_of (block_of d.geometry ref.addr) old ≡ o →
        VisitsAt o d policy numbers ref old outcome new rest →
        dirty_in new + one_if (is_dirty outcome.evicted) ≤ dirty_in old + one_if
        (is_write ref.access)
    by_index None q u = miss_dirty d policy numbers rest ref old outcome new
        (is_allocated d.allocate ref.access) e u
    by_index (Some at) q u =
        hit_dirty d policy numbers rest ref old outcome new at
        (position-Some _ old at (record { block = 0; dirty = false }) q).0 u

-- over all sets, where one is written
pub sets_dirty : (sets : List (List Slot)) (k : ℕ) (new : List Slot) (more less : ℕ) →
    k < length sets →
    dirty_in new + less ≤ dirty_in (get_or sets k []) + more →
    dirty_slots (set sets k new) + less ≤ dirty_slots sets + more
sets_dirty sets k new more less h v = grind (arith, sum_by-set)

-- one access to a slab
pub slab_dirty : (d : Design) (filled : List ℕ) (k n ways : ℕ) (slots segment : List Slot) →
    IsCacheSlab d slots filled → IsWritten d k n ways segment →
    (policy : Option Repl) (numbers numbers' : ℕ → ℕ) (ref : Ref) (outcome : Outcome) →
    Visits d policy numbers ref (segment_slots ways filled k slots) outcome
    (take n segment) numbers' →
    DirtiesByWrites (sets_of d.geometry.e slots filled) ref outcome
    (sets_of d.geometry.e (with_segment ways k slots segment) (set filled k n))
slab_dirty d filled k n ways slots segment i w policy numbers numbers' ref outcome v =
    let sets = sets_of d.geometry.e slots filled in
    let in_sets : k < length sets = omega (
      arith,
      length-sets_of d.geometry.e filled slots,
      i.sets,
      w.within,
    ) in
    let visited = visit_dirty d policy numbers numbers' ref _ outcome (take n segment)
    (omega (arith, i.geometry.some)) v in
    let here = subst (λ xs. dirty_in (take n segment) + one_if (is_dirty outcome.evicted) ≤ dirty_in
    xs + one_if (is_write ref.access))
    (set_read d filled k n ways slots segment i w) visited in
    subst (λ xs. DirtiesByWrites sets ref outcome xs)
    (sym (sets_written d filled k n ways slots segment i w))
    (sets_dirty sets k (take n segment) (one_if (is_write ref.access))
    (one_if (is_dirty outcome.evicted)) in_sets here)
