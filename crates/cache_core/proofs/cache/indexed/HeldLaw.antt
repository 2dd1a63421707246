-- Slots get blocks and lose them, and go elsewhere in the order of their set: which slots have
-- which blocks.
use Rattle.std.proofs.Common.{◌≡◌, ◌≢◌, ℕ, zero, suc, ◌+◌, ◌*◌, ◌^◌, ◌<◌, ◌≤◌, Bool, true, false}
use Rattle.std.proofs.Common.{List, []}
use Rattle.std.proofs.Common.{◌∷◌, length, set, refl, sym, ◌∙◌, ap, subst, arith, Option}
use Rattle.std.proofs.Common.{Some, None}
use Rattle.std.specs.Prelude.{slice_get, ◌↔◌}
use Rattle.std.proofs.lemmas.Bool.{false≢true}
use Rattle.std.proofs.lemmas.List.{get_or-set_other, get_or-set_same}
use Rattle.block_index.specs.SlotLists.{has_slot, AreOnce}
use Rattle.block_index.specs.BlockIndex.{IndexValue, HasBlock, NoSlotHas}
use Rattle.cache_core.specs.Geometry.{GeometryValue, set_of_block}
use Rattle.cache_core.specs.internal.cache.SlotOrder.{order_of}
use Rattle.cache_core.specs.internal.cache.Indexed.{Holds, IsHeld, ArePacked}
use Rattle.cache_core.proofs.cache.indexed.SlotsApart.{same_or}

pub some_some : (a b : ℕ) → Some (Some a) ≡ Some (Some b) → a ≡ b
some_some a b e = cc

some_none : (x : Option (Option ℕ)) (b : ℕ) → x ≡ Some None → x ≡ Some (Some b) → ⊥
some_none x b e f = cc

pub get_other : (xs : List (Option ℕ)) (s t : ℕ) (v : Option ℕ) → t ≢ s →
    slice_get (set xs s v) t ≡ slice_get xs t
get_other [] s t v ne = refl
get_other (x ∷ xs) zero zero v ne = absurd (ne refl)
get_other (x ∷ xs) zero (suc t) v ne = refl
get_other (x ∷ xs) (suc s) zero v ne = refl
get_other (x ∷ xs) (suc s) (suc t) v ne = get_other xs s t v (λ q. ne (ap suc q))

pub get_same : (xs : List (Option ℕ)) (s : ℕ) (v : Option ℕ) → s < length xs →
    slice_get (set xs s v) s ≡ Some v
get_same [] s v lt = absurd (omega (arith, lt))
get_same (x ∷ xs) zero v lt = refl
get_same (x ∷ xs) (suc s) v lt = get_same xs s v (omega (arith, lt))

pub set_twice : (xs : List (Option ℕ)) (s : ℕ) (v w : Option ℕ) →
    set (set xs s v) s w ≡ set xs s w
set_twice [] s v w = refl
set_twice (x ∷ xs) zero v w = refl
set_twice (x ∷ xs) (suc s) v w = ap (λ ys. x ∷ ys) (set_twice xs s v w)

-- the index with another block of a slot, or none
abbrev pub with_block : IndexValue → ℕ → Option ℕ → IndexValue
with_block index s v = record { blocks = set index.blocks s v }

-- a slot that lost its block leaves no other slot with a block that none had
pub left_none : (index : IndexValue) (s b : ℕ) → s < length index.blocks → NoSlotHas index b →
    NoSlotHas (with_block index s None) b
left_none index s b lt none t h = same_or ⊥ t s
    (λ q. some_none (slice_get (set index.blocks s None) s) b (get_same index.blocks s None lt)
    (subst (λ (u : ℕ). HasBlock (with_block index s None) u b) q h))
    (λ ne. none t (sym (get_other index.blocks s t None ne) ∙ h))

-- a slot is in the order of one set at most
pub apart : (g : GeometryValue) (index : IndexValue) (sets : List (List ℕ)) (j k s : ℕ) →
    IsHeld g index sets → has_slot s (order_of sets j) ≡ true →
    has_slot s (order_of sets k) ≡ true → j ≡ k
apart g index sets j k s held a b =
    let x = held.holds j s a in
    let y = held.holds k s b in
    let same : x.block ≡ y.block = some_some x.block y.block (sym x.has ∙ y.has) in
    sym x.own ∙ ap (set_of_block g) same ∙ y.own

pub by_bool : (P : Bool → Type 0) (b : Bool) → P true → P false → P b
by_bool P true t f = t
by_bool P false t f = f

pub in_no_other : (g : GeometryValue) (index : IndexValue) (sets : List (List ℕ)) (j k s : ℕ) →
    IsHeld g index sets → has_slot s (order_of sets k) ≡ true → j ≢ k →
    has_slot s (order_of sets j) ≡ false
in_no_other g index sets j k s held a ne =
    by_bool (λ b. (has_slot s (order_of sets j) ≡ b) → has_slot s (order_of sets j) ≡ false)
    (has_slot s (order_of sets j))
    (λ e. absurd (ne (apart g index sets j k s held e a))) (λ e. e) refl

-- a set has another order
module _ (sets : List (List ℕ)) (k : ℕ) (xs : List ℕ) (lt : k < length sets) where
  pub order_same : order_of (set sets k xs) k ≡ xs
  order_same = get_or-set_same sets k xs [] lt

  pub order_other : (j : ℕ) → j ≢ k → order_of (set sets k xs) j ≡ order_of sets j
  order_other j ne = get_or-set_other sets k j xs [] ne

  -- by set: the one, or another
  pub by_set : (P : ℕ → List ℕ → Type 0) → P k xs → ((j : ℕ) → j ≢ k → P j (order_of sets j)) →
      (j : ℕ) → P j (order_of (set sets k xs) j)
  by_set P here there j = same_or (P j (order_of (set sets k xs) j)) j k
      (λ q. subst (λ (n : ℕ). P n (order_of (set sets k xs) n)) (sym q)
      (subst (λ (ys : List ℕ). P k ys) (sym order_same) here))
      (λ ne. subst (λ (ys : List ℕ). P j ys) (sym (order_other j ne)) (there j ne))

-- a slot gets a block that no slot has
module _ (g : GeometryValue) (index : IndexValue) (sets : List (List ℕ)) (k s b : ℕ) (xs : List ℕ)
    (held : IsHeld g index sets) (lt : k < length sets) (in_blocks : s < length index.blocks)
    (none : NoSlotHas index b) (own : set_of_block g b ≡ k) (address : b * 2 ^ g.b < 2 ^ 64)
    (apart_from : (j : ℕ) → j ≢ k → has_slot s (order_of sets j) ≡ false)
    (once : AreOnce xs) (inside : has_slot s xs ≡ true)
    (same : (t : ℕ) → t ≢ s → has_slot t xs ≡ has_slot t (order_of sets k)) where
  abbrev new : IndexValue
  new = with_block index s (Some b)

  has_other : (t c : ℕ) → t ≢ s → HasBlock new t c → HasBlock index t c
  has_other t c ne h = sym (get_other index.blocks s t (Some b) ne) ∙ h

  has_self : (c : ℕ) → HasBlock new s c → b ≡ c
  has_self c h = some_some b c (sym (get_same index.blocks s (Some b) in_blocks) ∙ h)

  kept : (j t : ℕ) → t ≢ s → Holds g index j t → Holds g new j t
  kept j t ne h = record {
    block = h.block;
    has = get_other index.blocks s t (Some b) ne ∙ h.has;
    own = h.own;
    address = h.address;
  }

  self : Holds g new k s
  self = record {
    block = b;
    has = get_same index.blocks s (Some b) in_blocks;
    own = own;
    address = address;
  }

  put_holds : (j t : ℕ) → has_slot t (order_of (set sets k xs) j) ≡ true → Holds g new j t
  put_holds j t = by_set sets k xs lt
      (λ n ys. has_slot t ys ≡ true → Holds g new n t)
      (λ i. same_or (Holds g new k t) t s (λ q. subst (λ (u : ℕ). Holds g new k u) (sym q) self)
      (λ ne. kept k t ne (held.holds k t (sym (same t ne) ∙ i))))
      (λ n other i. same_or (Holds g new n t) t s
      (λ q. absurd (false≢true (sym (apart_from n other)
      ∙ subst (λ (u : ℕ). has_slot u (order_of sets n) ≡ true) q i)))
      (λ ne. kept n t ne (held.holds n t i))) j

  put_listed : (t c : ℕ) → HasBlock new t c →
      has_slot t (order_of (set sets k xs) (set_of_block g c)) ≡ true
  put_listed t c h = same_or _ t s
      (λ q. let c_is : b ≡ c = has_self c (subst (λ (u : ℕ). HasBlock new u c) q h) in
      subst (λ (u : ℕ). has_slot u (order_of (set sets k xs) (set_of_block g c)) ≡ true) (sym q)
      (subst (λ (n : ℕ). has_slot s (order_of (set sets k xs) n) ≡ true)
      (sym own ∙ ap (set_of_block g) c_is)
      (ap (has_slot s) (order_same sets k xs lt) ∙ inside)))
      (λ ne. let was = held.listed t c (has_other t c ne h) in
      same_or _ (set_of_block g c) k
      (λ q. subst (λ (n : ℕ). has_slot t (order_of (set sets k xs) n) ≡ true) (sym q)
      (ap (has_slot t) (order_same sets k xs lt) ∙ same t ne
      ∙ subst (λ (n : ℕ). has_slot t (order_of sets n) ≡ true) q was))
      (λ other. ap (has_slot t) (order_other sets k xs lt (set_of_block g c) other) ∙ was))

  put_different : (t u c : ℕ) → HasBlock new t c → HasBlock new u c → t ≡ u
  put_different t u c h i = same_or _ t s
      (λ q. let c_is : b ≡ c = has_self c (subst (λ (v : ℕ). HasBlock new v c) q h) in
      same_or _ u s (λ r. q ∙ sym r)
      (λ ne. absurd (none u (subst (λ (d : ℕ). HasBlock index u d) (sym c_is)
      (has_other u c ne i)))))
      (λ ne. same_or _ u s
      (λ r. let c_is : b ≡ c = has_self c (subst (λ (v : ℕ). HasBlock new v c) r i) in
      absurd (none t (subst (λ (d : ℕ). HasBlock index t d) (sym c_is) (has_other t c ne h))))
      (λ differ. held.different t u c (has_other t c ne h) (has_other u c differ i)))

  pub held_put : IsHeld g new (set sets k xs)
  held_put = record {
    once = by_set sets k xs lt (λ n ys. AreOnce ys) once (λ n ne. held.once n);
    holds = put_holds;
    listed = put_listed;
    different = put_different;
  }

-- the order of a set changes, and its slots stay
module _ (g : GeometryValue) (index : IndexValue) (sets : List (List ℕ)) (k : ℕ) (xs : List ℕ)
    (held : IsHeld g index sets) (lt : k < length sets) (once : AreOnce xs)
    (same : (t : ℕ) → has_slot t xs ≡ has_slot t (order_of sets k)) where
  pub held_moved : IsHeld g index (set sets k xs)
  held_moved = record {
    once = by_set sets k xs lt (λ n ys. AreOnce ys) once (λ n ne. held.once n);
    holds = λ j t. by_set sets k xs lt (λ n ys. has_slot t ys ≡ true → Holds g index n t)
        (λ i. held.holds k t (sym (same t) ∙ i)) (λ n ne i. held.holds n t i) j;
    listed = λ t c h. by_set sets k xs lt
        (λ n ys. has_slot t (order_of sets n) ≡ true → has_slot t ys ≡ true)
        (λ i. same t ∙ i) (λ n ne i. i) (set_of_block g c) (held.listed t c h);
    different = held.different;
  }

-- a slot loses its block, and leaves the order of its set
module _ (g : GeometryValue) (index : IndexValue) (sets : List (List ℕ)) (k s : ℕ) (xs : List ℕ)
    (held : IsHeld g index sets) (lt : k < length sets) (in_blocks : s < length index.blocks)
    (inside : has_slot s (order_of sets k) ≡ true) (once : AreOnce xs)
    (gone : has_slot s xs ≡ false)
    (same : (t : ℕ) → t ≢ s → has_slot t xs ≡ has_slot t (order_of sets k)) where
  abbrev left : IndexValue
  left = with_block index s None

  left_other : (t c : ℕ) → HasBlock left t c → (t ≢ s) × HasBlock index t c
  left_other t c h = same_or ((t ≢ s) × HasBlock index t c) t s
      (λ q. absurd (some_none (slice_get left.blocks s) c
      (get_same index.blocks s None in_blocks) (subst (λ (u : ℕ). HasBlock left u c) q h)))
      (λ ne. (ne, sym (get_other index.blocks s t None ne) ∙ h))

  still : (j t : ℕ) → t ≢ s → Holds g index j t → Holds g left j t
  still j t ne h = record {
    block = h.block;
    has = get_other index.blocks s t None ne ∙ h.has;
    own = h.own;
    address = h.address;
  }

  pub held_taken : IsHeld g left (set sets k xs)
  held_taken = record {
    once = by_set sets k xs lt (λ n ys. AreOnce ys) once (λ n ne. held.once n);
    holds = λ j t. by_set sets k xs lt (λ n ys. has_slot t ys ≡ true → Holds g left n t)
        (λ i. same_or (Holds g left k t) t s
        (λ q. absurd (false≢true (sym gone ∙ subst (λ (u : ℕ). has_slot u xs ≡ true) q i)))
        (λ ne. still k t ne (held.holds k t (sym (same t ne) ∙ i))))
        (λ n other i. same_or (Holds g left n t) t s
        (λ q. absurd (false≢true (sym (in_no_other g index sets n k s held inside other)
        ∙ subst (λ (u : ℕ). has_slot u (order_of sets n) ≡ true) q i)))
        (λ ne. still n t ne (held.holds n t i))) j;
    listed = λ t c h. let was = left_other t c h in
        by_set sets k xs lt
        (λ n ys. has_slot t (order_of sets n) ≡ true → has_slot t ys ≡ true)
        (λ i. same t was.0 ∙ i) (λ n ne i. i) (set_of_block g c) (held.listed t c was.1);
    different = λ t u c h i. held.different t u c (left_other t c h).1 (left_other u c i).1;
  }

-- the slots of a set are its first
module _ (ways : ℕ) (sets : List (List ℕ)) (k : ℕ) (xs : List ℕ) (lt : k < length sets)
    (packed : ArePacked ways sets) where
  pub packed_set : ((t : ℕ) → (has_slot t xs ≡ true) ↔
      ((k * ways ≤ t) × (t < k * ways + length xs))) → ArePacked ways (set sets k xs)
  packed_set here j t = by_set sets k xs lt
      (λ n ys. (has_slot t ys ≡ true) ↔ ((n * ways ≤ t) × (t < n * ways + length ys)))
      (here t) (λ n ne. packed n t) j

  pub packed_moved : ((t : ℕ) → has_slot t xs ≡ has_slot t (order_of sets k)) →
      length xs ≡ length (order_of sets k) → ArePacked ways (set sets k xs)
  packed_moved same long = packed_set (λ t. (
    λ i. subst (λ (n : ℕ). (k * ways ≤ t) × (t < k * ways + n)) (sym long)
        ((packed k t).0 (sym (same t) ∙ i)),
    λ w. same t ∙ (packed k t).1 (subst (λ (n : ℕ). (k * ways ≤ t) × (t < k * ways + n)) long w),
  ))
