-- An access that finds its block in the first slot of its set.
use Rattle.std.proofs.Common.{◌≡◌, ℕ, zero, suc, ◌+◌, ◌-◌, ◌*◌, ◌^◌, ◌<◌, ◌≤◌, Bool, true, false}
use Rattle.std.proofs.Common.{List, [], ◌∷◌, length, get_or, set, take, drop, Option, Some, None}
use Rattle.std.proofs.Common.{refl, sym, ◌∙◌, subst, arith, length-take, length-drop, ap, not}
use Rattle.std.proofs.Common.{is_some, ◌==◌, ◌++◌, take-append-drop}
use Rattle.std.specs.Prelude.{IsTrue, ◌↔◌, if◌then◌else◌}
use Rattle.std.proofs.lemmas.List.{set-get_or}
use Rattle.std.proofs.lemmas.List.Elements.{All-get_or}
use Rattle.std.proofs.lemmas.List.Quantifiers.{position-Some}
use Rattle.std.proofs.lemmas.List.Sorted.{IsPermutation-refl}
use Rattle.trace_core.specs.declared.events.Ref.{Ref}
use Rattle.trace_core.specs.declared.events.Access.{Access}
use Rattle.trace_core.specs.Events.{is_write}
use Rattle.cache_core.specs.declared.design.WriteMode.{WriteMode}
use Rattle.cache_core.specs.declared.design.WriteMode.TheVariants.{Back, Through}
use Rattle.cache_core.specs.declared.outcome.Slot.{Slot}
use Rattle.cache_core.specs.declared.outcome.Outcome.{Outcome}
use Rattle.cache_core.specs.declared.design.Design.{Design}
use Rattle.cache_core.specs.declared.design.Repl.{Repl}
use Rattle.cache_core.specs.Geometry.{block_of, set_of}
use Rattle.cache_core.specs.cache.Outcomes.{outcome_of, on_hit, is_dirtied, two_options}
use Rattle.cache_core.specs.cache.Outcomes.{through_writes}
use Rattle.cache_core.specs.cache.Order.{Moves, Touches, Hits, Visits, VisitsAt, Accesses}
use Rattle.cache_core.specs.cache.Order.{with_dirty_at, position_of, DirtiesByWrites}
use Rattle.cache_core.specs.internal.cache.Order.{holds_first, hits_in_front, hit_in_front}
use Rattle.cache_core.specs.replacement.Rules.{Place, InFront, InPlace, rules}
use Rattle.cache_core.specs.internal.cache.Slab.{IsCacheSlab, Addressable, sets_of, slab_contents}
use Rattle.cache_core.proofs.replacement.Addresses.{marked_fits}
use Rattle.cache_core.proofs.cache.DirtyLaw.{slab_dirty}
use Rattle.cache_core.proofs.replacement.Lawful.{marked_length}
use Rattle.cache_core.proofs.cache.Slabs.{start_le, IsWritten, segment_slots, with_segment}
use Rattle.cache_core.proofs.cache.Slabs.{set_read, slab_kept, slab_access, length-sets_of}
use Rattle.cache_core.proofs.cache.Slabs.{slab_read}

-- a slot that is moved to the front from there, or stays, leaves the order
moved_in_front : (p : Place) (x : Slot) (xs : List Slot) → Moves p (x ∷ xs) 0 (x ∷ xs)
moved_in_front InFront x xs = (x, refl, refl)
moved_in_front InPlace x xs = refl

-- The rule of every policy for the first slot: it stays first when it is touched.
pub touched_in_front : (policy : Option Repl) (slots : List Slot) → 0 < length slots →
    Touches policy slots 0 slots
touched_in_front policy [] some = absurd (omega arith)
touched_in_front None (x ∷ xs) some = IsPermutation-refl (x ∷ xs)
touched_in_front (Some policy) (x ∷ xs) some = moved_in_front (rules policy).touched x xs

-- the first n slots, the first of all marked
take_marked : (dirty : Bool) (n : ℕ) (slots : List Slot) → 0 < n →
    take n (with_dirty_at dirty slots 0) ≡ with_dirty_at dirty (take n slots) 0
take_marked false n slots some = refl
take_marked true zero slots some = absurd (omega arith)
take_marked true (suc n) [] some = refl
take_marked true (suc n) (x ∷ xs) some = refl

-- only a write marks its line or is sent on
unmarks : (write : WriteMode) (a : Access) → is_write a ≡ false → is_dirtied write a ≡ false
unmarks Back a reads = reads
unmarks Through a reads = refl

pub unsent : (write : WriteMode) (ref : Ref) → is_write ref.access ≡ false →
    through_writes write ref ≡ []
unsent Back ref reads = refl
unsent Through ref reads = rw reads refl

-- a hit that sends nothing on
pub stays_here : (write : WriteMode) (ref : Ref) → through_writes write ref ≡ [] →
    hit_in_front ≡ outcome_of (on_hit write ref)
stays_here write ref none = rw none refl

module _ (d : Design) (filled : List ℕ) (k ways : ℕ) (slots : List Slot) (ref : Ref)
    (i : IsCacheSlab d slots filled)
    (ways_are : ways ≡ d.geometry.e) (within : k < 2 ^ d.geometry.s)
    (first : position_of (block_of d.geometry ref.addr)
    (segment_slots ways filled k slots) ≡ Some 0) where
  abbrev count : ℕ
  count = get_or filled k 0

  abbrev segment : List Slot
  segment = take (k * ways + ways - k * ways) (drop (k * ways) slots)

  -- the segment with its first slot marked
  abbrev pub marked : List Slot
  marked = with_dirty_at (is_dirtied d.write ref.access) segment 0

  some : 0 < length (take count segment)
  some = (position-Some _ (take count segment) 0 (record { block = 0; dirty = false }) first).0

  few : count ≤ d.geometry.e
  few = All-get_or (λ n. n ≤ d.geometry.e) filled k 0 (omega (arith, i.sets, within)) i.within

  filled_some : 0 < count
  filled_some = omega (arith, some, length-take count segment)

  long : length segment ≡ d.geometry.e
  long =
      let wide : k * d.geometry.e + d.geometry.e ≤ length slots =
      omega (arith, i.segments, start_le k d.geometry.e (2 ^ d.geometry.s) within) in
      rw ways_are (omega (
        arith,
        wide,
        length-take (k * d.geometry.e + d.geometry.e - k * d.geometry.e)
            (drop (k * d.geometry.e) slots),
        length-drop (k * d.geometry.e) slots,
      ))

  marked_in : take count marked ≡ with_dirty_at (is_dirtied d.write ref.access)
      (take count segment) 0
  marked_in = take_marked (is_dirtied d.write ref.access) count segment filled_some

  written : IsWritten d k count ways marked
  written = record {
    ways_are = ways_are;
    within = within;
    long =
        marked_length (is_dirtied d.write ref.access) segment 0 ∙ long;
    few = few;
  }

  kept : set filled k count ≡ filled
  kept = set-get_or filled k 0

  visited : (policy : Option Repl) (numbers : ℕ → ℕ) (outcome : Outcome) →
      outcome ≡ outcome_of (on_hit d.write ref) →
      Visits d policy numbers ref (segment_slots ways filled k slots) outcome
      (take count marked) numbers
  visited policy numbers outcome e =
      let dirty = is_dirtied d.write ref.access in
      let hits : Hits d policy numbers ref 0 (take count segment) outcome (take count marked)
      numbers = record {
        order = subst (λ new. Touches policy (with_dirty_at dirty (take count segment) 0) 0 new)
            (sym marked_in)
            (touched_in_front policy (with_dirty_at dirty (take count segment) 0)
            (omega (arith, some, marked_length dirty (take count segment) 0)));
        undrawn = refl;
        effect = e;
      } in
      subst (λ at. VisitsAt at d policy numbers ref (take count segment) outcome (take count marked)
      numbers) (sym first) hits

  -- what a cache keeps of its arrays
  pub front_kept : IsCacheSlab d (with_segment ways k slots marked) filled
  front_kept =
      let in_sets : k < length (sets_of d.geometry.e slots filled) =
      omega (arith, length-sets_of d.geometry.e filled slots, i.sets, within) in
      let here : Addressable d.geometry.b (take count segment) =
      subst (Addressable d.geometry.b) (sym (set_read d filled k count ways slots marked i written))
      (All-get_or (Addressable d.geometry.b) (sets_of d.geometry.e slots filled) k [] in_sets
      i.addresses) in
      subst (IsCacheSlab d (with_segment ways k slots marked)) kept
      (slab_kept d filled k count ways slots marked i written
      (subst (Addressable d.geometry.b) (sym marked_in)
      (marked_fits d.geometry.b (is_dirtied d.write ref.access) (take count segment)
      0 some here)))

  -- the access, under every policy
  pub front_access : (policy : Option Repl) (numbers : ℕ → ℕ) (outcome : Outcome) →
      k ≡ set_of d.geometry ref.addr →
      outcome ≡ outcome_of (on_hit d.write ref) →
      Accesses (slab_contents d policy numbers slots filled) ref outcome
      (slab_contents d policy numbers (with_segment ways k slots marked) filled)
  front_access policy numbers outcome s e =
      subst (λ ns. Accesses (slab_contents d policy numbers slots filled) ref outcome
      (slab_contents d policy numbers (with_segment ways k slots marked) ns))
      kept
      (slab_access d filled k count ways slots marked i written policy policy numbers numbers ref
      outcome s refl (visited policy numbers outcome e))

  pub front_dirty : (outcome : Outcome) → outcome ≡ outcome_of (on_hit d.write ref) →
      DirtiesByWrites (sets_of d.geometry.e slots filled) ref outcome
      (sets_of d.geometry.e (with_segment ways k slots marked) filled)
  front_dirty outcome e =
      subst (λ ns. DirtiesByWrites (sets_of d.geometry.e slots filled) ref outcome
      (sets_of d.geometry.e (with_segment ways k slots marked) ns)) kept
      (slab_dirty d filled k count ways slots marked i written None (λ n. n) (λ n. n) ref outcome
      (visited None (λ n. n) outcome e))

  -- where nothing is marked, the slots stay
  unmarked : is_dirtied d.write ref.access ≡ false → with_segment ways k slots marked ≡ slots
  unmarked none = rw none
      (ap (λ xs. take (k * ways) slots ++ xs)
      (take-append-drop (k * ways + ways - k * ways) (drop (k * ways) slots))
      ∙ take-append-drop (k * ways) slots)

  pub front_read : is_write ref.access ≡ false → (policy : Option Repl) (numbers : ℕ → ℕ) →
      k ≡ set_of d.geometry ref.addr →
      Accesses (slab_contents d policy numbers slots filled) ref hit_in_front
      (slab_contents d policy numbers slots filled)
  front_read reads policy numbers s =
      subst (λ new. Accesses (slab_contents d policy numbers slots filled) ref hit_in_front
      (slab_contents d policy numbers new filled)) (unmarked (unmarks d.write ref.access reads))
      (front_access policy numbers hit_in_front s
      (stays_here d.write ref (unsent d.write ref reads)))

-- a block that is found at the first index is that of the first slot
first_there : (block : ℕ) (slots : List Slot) → position_of block slots ≡ Some 0 →
    holds_first block slots ≡ true
first_there block [] found = absurd (grind (arith, found))
first_there block (x ∷ xs) found =
    (position-Some (λ (s : Slot). s.block == block) (x ∷ xs) 0 x found).1

-- and a block of the first slot is found at the first index
there_first : (block : ℕ) (slots : List Slot) → holds_first block slots ≡ true →
    position_of block slots ≡ Some 0
there_first block [] holds = absurd (grind (arith, holds))
there_first block (x ∷ xs) holds = rw holds (grind arith)

-- a test for the first index tells whether the first slot holds a block
first_told : (b : Bool) (block : ℕ) (slots : List Slot) →
    (IsTrue b ↔ (position_of block slots ≡ Some 0)) → holds_first block slots ≡ b
first_told true block slots tells = grind (arith, first_there block slots, tells)
first_told false block slots tells = grind (arith, there_first block slots, tells)

-- nothing is sent on where the first of two options is none
pub nothing_sent : (refs : List Ref) →
    (length refs == 0) ≡ not (is_some (get_or (two_options refs) 0 None))
nothing_sent [] = refl
nothing_sent (x ∷ []) = refl
nothing_sent (x ∷ y ∷ refs) = grind arith

pub itself : (b : Bool) → (if b then true else false) ≡ b
itself true = refl
itself false = refl

module _ (d : Design) (filled : List ℕ) (k ways : ℕ) (slots : List Slot) (ref : Ref)
    (i : IsCacheSlab d slots filled) (ways_are : ways ≡ d.geometry.e)
    (set_is : k ≡ set_of d.geometry ref.addr) (within : k < 2 ^ d.geometry.s) where
  -- the first filled slot is that of the set's slots
  first_in_set : holds_first (block_of d.geometry ref.addr)
      (get_or (sets_of d.geometry.e slots filled) (set_of d.geometry ref.addr) [])
      ≡ holds_first (block_of d.geometry ref.addr) (segment_slots ways filled k slots)
  first_in_set = rw (ways_are, ← set_is)
      (ap (holds_first (block_of d.geometry ref.addr))
      (sym (slab_read d.geometry.e filled k slots (omega (arith, i.sets, within)) i.within)))

  -- the test of the first slot, and what is sent on, tell whether a reference hits in front
  pub told_in_front : (first : Bool) →
      (IsTrue first ↔ (position_of (block_of d.geometry ref.addr)
      (segment_slots ways filled k slots) ≡ Some 0)) →
      hits_in_front d (sets_of d.geometry.e slots filled) ref
      ≡ (if first then length (through_writes d.write ref) == 0 else false)
  told_in_front first tells =
      rw (
        first_in_set,
        first_told first (block_of d.geometry ref.addr)
            (segment_slots ways filled k slots) tells,
      ) refl
