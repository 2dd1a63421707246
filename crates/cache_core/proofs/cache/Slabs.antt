-- The sets of a slab: how one is read and written.
use Rattle.std.proofs.Common.{◌≡◌, ℕ, zero, suc, ◌+◌, ◌-◌, ◌*◌, ◌^◌, ◌<◌, ◌≤◌, List, [], ◌∷◌, ◌++◌}
use Rattle.std.proofs.Common.{length, get_or, take, drop, set, replicate, sym, ◌∙◌, ap, refl, arith}
use Rattle.std.proofs.Common.{length-take, length-take-le, length-set, take-take, drop-drop}
use Rattle.std.proofs.Common.{get_or-set_same, get_or-set_other, length-drop, length-append, Option}
use Rattle.std.specs.Prelude.{All}
use Rattle.std.proofs.lemmas.List.{take_at, length-replicate, drop_at, drop-take, take-append-le}
use Rattle.std.proofs.lemmas.List.{drop-append-le}
use Rattle.std.proofs.lemmas.List.Elements.{All-set, All-replicate}
use Rattle.std.proofs.Math.Nat.{suc-mul}
use borrow.Rule.Slice.PartMut.{put_mid}
use Rattle.cache_core.specs.declared.outcome.Slot.{Slot}
use Rattle.trace_core.specs.declared.events.Ref.{Ref}
use Rattle.cache_core.specs.declared.design.Design.{Design}
use Rattle.cache_core.specs.declared.outcome.Outcome.{Outcome}
use Rattle.cache_core.specs.declared.design.Repl.{Repl}
use Rattle.cache_core.specs.Geometry.{set_of, IsGeometry}
use Rattle.cache_core.specs.cache.Order.{Visits, Accesses}
use Rattle.cache_core.specs.internal.cache.Slab.{sets_of, IsCacheSlab, Addressable, slab_contents}

pub length-sets_of : (ways : ℕ) (filled : List ℕ) (slots : List Slot) →
    length (sets_of ways slots filled) ≡ length filled
length-sets_of ways [] slots = refl
length-sets_of ways (f ∷ fs) slots = ap suc (length-sets_of ways fs (drop ways slots))

pub get_or-sets_of : (ways : ℕ) (filled : List ℕ) (k start : ℕ) (slots : List Slot) →
    start ≡ k * ways → k < length filled →
    get_or (sets_of ways slots filled) k [] ≡ take (get_or filled k 0) (drop start slots)
get_or-sets_of ways [] k start slots e h = absurd (omega arith)
get_or-sets_of ways (f ∷ fs) zero start slots e h = grind arith
get_or-sets_of ways (f ∷ fs) (suc k) start slots e h =
    grind (
      arith,
      drop-drop,
      get_or-sets_of ways fs k (k * ways) (drop ways slots) refl
          (omega arith),
    )

All-rest : {X : Type 0} (P : X → Type 0) (x : X) (xs : List X) → All P (x ∷ xs) → All P xs
All-rest P x xs h k d l = h (suc k) d (omega arith)

pub sets_of-put : (ways : ℕ) (filled : List ℕ) (k n start : ℕ) (slots segment : List Slot) →
    start ≡ k * ways → start ≤ length slots →
    All (λ m. m ≤ ways) filled → k < length filled → length segment ≡ ways → n ≤ ways →
    sets_of ways (put_mid start ways slots segment) (set filled k n) ≡ set
    (sets_of ways slots filled) k (take n segment)
sets_of-put ways [] k n start slots segment e l a h r m = absurd (omega arith)
sets_of-put ways (f ∷ fs) zero n start slots segment e l a h r m =
    grind (arith, take-append-le, drop_at)
sets_of-put ways (f ∷ fs) (suc k) n start slots segment e l a h r m =
    let s : start ≡ ways + k * ways = e ∙ omega (arith, suc-mul k ways) in
    let f_le : f ≤ ways = a zero 0 (omega arith) in
    let front : length (take (ways + k * ways) slots) ≡ ways + k * ways =
    length-take-le (ways + k * ways) slots (omega arith) in
    let rest = drop ways (drop (ways + k * ways) slots) in
    let t = take-append-le f (take (ways + k * ways) slots) (segment ++ rest) (omega arith) in
    let t' = take-take f (ways + k * ways) slots (omega arith) in
    let d = drop-append-le ways (take (ways + k * ways) slots) (segment ++ rest) (omega arith) in
    let d' = drop-take ways (k * ways) slots in
    let d'' = sym (drop-drop (k * ways) ways slots) in
    let i =
    sets_of-put ways fs k n (k * ways) (drop ways slots) segment refl
    (omega (arith, length-drop ways slots)) (All-rest (λ x. x ≤ ways) f fs a)
    (omega arith) r m in
    rw (s, t, t', d, d', d'') (ap (λ (xs : List (List Slot)). take f slots ∷ xs) i)

-- the filled slots of a set, as the code reads them: from its segment on, so many
abbrev pub segment_slots : ℕ → List ℕ → ℕ → List Slot → List Slot
segment_slots ways filled k slots =
    take (get_or filled k 0) (take (k * ways + ways - k * ways) (drop (k * ways) slots))

-- the slots with a segment written back
abbrev pub with_segment : ℕ → ℕ → List Slot → List Slot → List Slot
with_segment ways k slots segment = put_mid (k * ways) (k * ways + ways - k * ways) slots segment

pub slab_read : (ways : ℕ) (filled : List ℕ) (k : ℕ) (slots : List Slot) → k < length filled →
    All (λ m. m ≤ ways) filled →
    segment_slots ways filled k slots ≡ get_or (sets_of ways slots filled) k []
slab_read ways filled k slots h a = grind (arith, take-take, get_or-sets_of)

pub start_le : (k ways sets : ℕ) → k < sets → k * ways + ways ≤ ways * sets
start_le k ways sets h = grind arith

-- A segment that is written back to its set, the first n slots of it filled.
pub record IsWritten (d : Design) (k n ways : ℕ) (segment : List Slot) : Type 0 where
  pub ways_are : ways ≡ d.geometry.e
  pub within : k < 2 ^ d.geometry.s
  pub long : length segment ≡ d.geometry.e
  pub few : n ≤ d.geometry.e

length-put : (a w : ℕ) (slots segment : List Slot) → a + w ≤ length slots → length segment ≡ w →
    length (put_mid a w slots segment) ≡ length slots
length-put a w slots segment h r = grind (arith, length-append, length-take, length-drop)

module _ (d : Design) (filled : List ℕ) (k n ways : ℕ) (slots segment : List Slot)
    (i : IsCacheSlab d slots filled) (w : IsWritten d k n ways segment) where
  in_filled : k < length filled
  in_filled = omega (arith, i.sets, w.within)

  width : k * ways + ways - k * ways ≡ d.geometry.e
  width = omega (arith, w.ways_are)

  within_slots : k * d.geometry.e + d.geometry.e ≤ length slots
  within_slots = omega (arith, i.segments, start_le k d.geometry.e (2 ^ d.geometry.s) w.within)

  -- the set as it was
  pub set_read : segment_slots ways filled k slots ≡ get_or (sets_of d.geometry.e slots filled) k []
  set_read = rw w.ways_are (slab_read d.geometry.e filled k slots in_filled i.within)

  -- the sets after it
  pub sets_written : sets_of d.geometry.e (with_segment ways k slots segment) (set filled k n) ≡ set
      (sets_of d.geometry.e slots filled) k (take n segment)
  sets_written = grind (arith, sets_of-put)

  pub slab_kept : Addressable d.geometry.b (take n segment) →
      IsCacheSlab d (with_segment ways k slots segment) (set filled k n)
  slab_kept a = record {
    geometry = i.geometry;
    segments = rw (width, w.ways_are) (length-put (k * d.geometry.e) d.geometry.e slots segment
        within_slots w.long ∙ i.segments);
    sets = length-set filled k n ∙ i.sets;
    within = All-set (λ m. m ≤ d.geometry.e) filled k n w.few i.within;
    addresses = rw sets_written (All-set (Addressable d.geometry.b)
        (sets_of d.geometry.e slots filled) k (take n segment) a i.addresses);
  }

  -- one access to a slab, by a visit of a segment
  pub slab_access : (policy policy' : Option Repl) (numbers numbers' : ℕ → ℕ) (ref : Ref)
      (outcome : Outcome) → k ≡ set_of d.geometry ref.addr →
      policy' ≡ policy →
      Visits d policy numbers ref (segment_slots ways filled k slots) outcome
      (take n segment) numbers' →
      Accesses (slab_contents d policy numbers slots filled) ref outcome
      (slab_contents d policy' numbers' (with_segment ways k slots segment) (set filled k n))
  slab_access policy policy' numbers numbers' ref outcome s u v =
      grind (
        arith,
        sets_written,
        get_or-set_same,
        length-sets_of,
        set_read,
        get_or-set_other,
        length-set,
      )

pub sets_of-empty : (ways n : ℕ) (slots : List Slot) →
    sets_of ways slots (replicate n 0) ≡ replicate n []
sets_of-empty ways zero slots = refl
sets_of-empty ways (suc n) slots = ap (λ (xs : List (List Slot)). [] ∷ xs)
    (sets_of-empty ways n (drop ways slots))

pub slab_made : (d : Design) (slots : List Slot) (filled : List ℕ) → IsGeometry d.geometry →
    length slots ≡ d.geometry.e * 2 ^ d.geometry.s →
    filled ≡ replicate (2 ^ d.geometry.s) 0 → IsCacheSlab d slots filled
slab_made d slots filled i l f = rw f record {
  geometry = i;
  segments = l;
  sets = length-replicate (2 ^ d.geometry.s) 0;
  within = All-replicate (λ m. m ≤ d.geometry.e) (2 ^ d.geometry.s) 0 (omega arith);
  addresses = rw (sets_of-empty d.geometry.e (2 ^ d.geometry.s) slots)
      (All-replicate (Addressable d.geometry.b) (2 ^ d.geometry.s) []
      (λ k x h. absurd (omega arith)));
}

-- counts that are all set to 0
pub none_filled : (new rest : List ℕ) (len n sets : ℕ) → length new ≡ len →
    new ≡ replicate n 0 → n ≡ sets →
    take len (new ++ rest) ≡ replicate sets 0
none_filled new rest len n sets l e s = take_at new rest len l ∙ e ∙ ap (λ m. replicate m 0) s
