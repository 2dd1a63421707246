-- The deeds at a cache whose blocks are found by an index: what they do to its invariant, and to
-- what its sets hold.
use Rattle.std.proofs.Common.{◌≡◌, ◌≢◌, ℕ, zero, suc, ◌<◌, Bool, true, false}
use Rattle.std.proofs.Common.{List, []}
use Rattle.std.proofs.Common.{◌∷◌, length, map, set, get_or, refl, sym, ◌∙◌, ap, subst}
use Rattle.std.proofs.Common.{arith, Option, Some, None}
use Rattle.std.specs.Prelude.{slice_get, unwrap_or}
use Rattle.std.proofs.lemmas.List.{get_or-set_other, get_or-set_same}
use Rattle.std.proofs.lemmas.Option.{get_or_from_slice_get}
use Rattle.block_index.specs.SlotLists.{has_slot, index_of_slot, AreOnce}
use Rattle.block_index.specs.BlockIndex.{IndexValue, HasBlock, NoSlotHas}
use Rattle.cache_core.specs.declared.outcome.Slot.{Slot}
use Rattle.cache_core.specs.Geometry.{GeometryValue, set_of_block}
use Rattle.cache_core.specs.cache.Order.{position_of, with_dirty_at}
use Rattle.cache_core.specs.internal.cache.SlotOrder.{order_of}
use Rattle.cache_core.specs.internal.cache.Indexed.{slot_at, set_at, sets_at, with_mark, Holds}
use Rattle.cache_core.specs.internal.cache.Indexed.{IsHeld}
use Rattle.cache_core.proofs.cache.indexed.SlotsApart.{position_here, position_none, map_changed}
use Rattle.cache_core.proofs.cache.indexed.SlotsApart.{get_index, some_is}

-- what a slot with a block holds
pub slot_block : (index : IndexValue) (dirty : List Bool) (s b : ℕ) → HasBlock index s b →
    (slot_at index dirty s).block ≡ b
slot_block index dirty s b h =
    ap (λ o. unwrap_or o 0) (get_or_from_slice_get index.blocks s (Some b) None h)

some_some : (a b : ℕ) → Some (Some a) ≡ Some (Some b) → a ≡ b
some_some a b e = cc

has_of : (g : GeometryValue) (index : IndexValue) (dirty : List Bool) (k t b : ℕ) →
    Holds g index k t → (slot_at index dirty t).block ≡ b → HasBlock index t b
has_of g index dirty k t b h q =
    subst (λ (y : ℕ). HasBlock index t y) (sym (slot_block index dirty t h.block h.has) ∙ q) h.has

-- where a block stands in its set, if a slot has it, and if none has
pub found_at : (g : GeometryValue) (index : IndexValue) (dirty : List Bool) (sets : List (List ℕ))
    (s b : ℕ) → IsHeld g index sets → HasBlock index s b →
    position_of b (set_at index dirty (order_of sets (set_of_block g b)))
    ≡ Some (index_of_slot s (order_of sets (set_of_block g b)))
found_at g index dirty sets s b held h =
    position_here (slot_at index dirty) b s (order_of sets (set_of_block g b)) (held.listed s b h)
    (slot_block index dirty s b h)
    (λ t i q. held.different t s b
    (has_of g index dirty (set_of_block g b) t b (held.holds (set_of_block g b) t i) q) h)

pub found_nowhere : (g : GeometryValue) (index : IndexValue) (dirty : List Bool)
    (sets : List (List ℕ)) (k b : ℕ) → IsHeld g index sets → NoSlotHas index b →
    position_of b (set_at index dirty (order_of sets k)) ≡ None
found_nowhere g index dirty sets k b held none =
    position_none (slot_at index dirty) b (order_of sets k)
    (λ t i q. none t (has_of g index dirty k t b (held.holds k t i) q))

-- what a set holds, among all sets
pub sets_read : (index : IndexValue) (dirty : List Bool) (sets : List (List ℕ)) (k : ℕ) →
    get_or (sets_at index dirty sets) k [] ≡ set_at index dirty (get_or sets k [])
sets_read index dirty [] zero = refl
sets_read index dirty [] (suc k) = refl
sets_read index dirty (x ∷ sets) zero = refl
sets_read index dirty (x ∷ sets) (suc k) = sets_read index dirty sets k

all_kept : (i j : IndexValue) (d e : List Bool) (sets : List (List ℕ)) →
    ((n : ℕ) → set_at j e (get_or sets n []) ≡ set_at i d (get_or sets n [])) →
    sets_at j e sets ≡ sets_at i d sets
all_kept i j d e [] same = refl
all_kept i j d e (x ∷ sets) same =
    ap (λ y. y ∷ sets_at j e sets) (same 0)
    ∙ ap (λ ys. set_at i d x ∷ ys) (all_kept i j d e sets (λ n. same (suc n)))

-- one set is another, and the others hold the same
pub sets_written : (i j : IndexValue) (d e : List Bool) (sets : List (List ℕ)) (k : ℕ)
    (xs : List ℕ) →
    ((n : ℕ) → n ≢ k → set_at j e (get_or sets n []) ≡ set_at i d (get_or sets n [])) →
    sets_at j e (set sets k xs) ≡ set (sets_at i d sets) k (set_at j e xs)
sets_written i j d e [] zero xs same = refl
sets_written i j d e [] (suc k) xs same = refl
sets_written i j d e (x ∷ sets) zero xs same =
    ap (λ ys. set_at j e xs ∷ ys) (all_kept i j d e sets (λ n. same (suc n) (omega arith)))
sets_written i j d e (x ∷ sets) (suc k) xs same =
    ap (λ y. y ∷ sets_at j e (set sets k xs)) (same 0 (omega arith))
    ∙ ap (λ ys. set_at i d x ∷ ys)
    (sets_written i j d e sets k xs (λ n ne. same (suc n) (λ q. ne (omega (arith, q)))))

-- what a slot holds where another one, or this one, gets a block and a mark
pub other_slot : (index : IndexValue) (dirty : List Bool) (s : ℕ) (v : Option ℕ) (mark : Bool)
    (t : ℕ) → t ≢ s →
    slot_at (record { blocks = set index.blocks s v }) (set dirty s mark) t ≡ slot_at index dirty t
other_slot index dirty s v mark t ne =
    rw (get_or-set_other index.blocks s t v None ne, get_or-set_other dirty s t mark false ne) refl

pub new_slot : (index : IndexValue) (dirty : List Bool) (s b : ℕ) (mark : Bool) →
    s < length index.blocks → s < length dirty →
    slot_at (record { blocks = set index.blocks s (Some b) }) (set dirty s mark) s
    ≡ record { block = b; dirty = mark }
new_slot index dirty s b mark lt in_marks =
    rw (
      get_or-set_same index.blocks s (Some b) None lt,
      get_or-set_same dirty s mark false in_marks,
    ) refl

-- what the slot at an index holds
pub get_map : (f : ℕ → Slot) (xs : List ℕ) (i s : ℕ) (d : Slot) → slice_get xs i ≡ Some s →
    get_or (map f xs) i d ≡ f s
get_map f [] i s d e = absurd (cc)
get_map f (x ∷ xs) zero s d e = ap f (some_is x s e)
get_map f (x ∷ xs) (suc i) s d e = get_map f xs i s d e

-- a slot is marked
pub mark_other : (index : IndexValue) (dirty : List Bool) (mark : Bool) (s t : ℕ) → t ≢ s →
    slot_at index (with_mark mark dirty s) t ≡ slot_at index dirty t
mark_other index dirty false s t ne = refl
mark_other index dirty true s t ne = rw (get_or-set_other dirty s t true false ne) refl

pub marked_set : (index : IndexValue) (dirty : List Bool) (mark : Bool) (s : ℕ) (xs : List ℕ) →
    AreOnce xs → has_slot s xs ≡ true → s < length dirty →
    with_dirty_at mark (set_at index dirty xs) (index_of_slot s xs)
    ≡ set_at index (with_mark mark dirty s) xs
marked_set index dirty false s xs once i lt = refl
marked_set index dirty true s xs once i lt =
    let d : Slot = record { block = 0; dirty = false } in
    let was : get_or (set_at index dirty xs) (index_of_slot s xs) d ≡ slot_at index dirty s =
    get_map (slot_at index dirty) xs (index_of_slot s xs) s d (get_index s xs i) in
    let now : slot_at index (set dirty s true) s ≡ record (slot_at index dirty s) { dirty = true } =
    rw (get_or-set_same dirty s true false lt) refl in
    ap (λ (x : Slot). set (set_at index dirty xs) (index_of_slot s xs)
    (record x { dirty = true })) was
    ∙ ap (λ (x : Slot). set (set_at index dirty xs) (index_of_slot s xs) x) (sym now)
    ∙ sym (map_changed (slot_at index dirty) (slot_at index (set dirty s true)) s xs
    (λ t ne. mark_other index dirty true s t ne) once i)
