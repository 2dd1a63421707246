-- Lists of slots in which none is twice, and what their slots hold.
use Rattle.std.proofs.Common.{◌≡◌, ◌≢◌, ℕ, zero, suc, ◌<◌, Bool, true, false, eqb}
use Rattle.std.proofs.Common.{List, []}
use Rattle.std.proofs.Common.{◌∷◌, length, map, set, refl, sym, ◌∙◌, ap, subst}
use Rattle.std.proofs.Common.{arith, Some, None}
use Rattle.std.proofs.Common.{⊎_elim, ◌||◌}
use Rattle.std.specs.Prelude.{slice_get, remove}
use Rattle.std.specs.List.{position_or_len}
use Rattle.std.proofs.lemmas.Bool.{ne_eqb, eq-eqb, false≢true}
use Rattle.std.proofs.lemmas.Bool.Decides.{eqb_tells}
use Rattle.std.proofs.lemmas.List.{length-map}
use Rattle.block_index.specs.SlotLists.{has_slot, index_of_slot, AreOnce}
use Rattle.cache_core.specs.declared.outcome.Slot.{Slot}
use Rattle.cache_core.specs.cache.Order.{position_of}

-- cases on whether two slots are the same
pub same_or : (P : Type 0) (x s : ℕ) → (x ≡ s → P) → (x ≢ s → P) → P
same_or P x s same other =
    ⊎_elim (λ (q : (eqb x s ≡ true) × (x ≡ s)). same q.1)
    (λ (q : (eqb x s ≡ false) × (x ≢ s)). other q.1) (eqb_tells x s)

-- a slot in a list, and one that is not
pub in_cons : (x y : ℕ) (xs : List ℕ) → has_slot x xs ≡ true → has_slot x (y ∷ xs) ≡ true
in_cons x y xs e = grind arith

pub in_tail : (x y : ℕ) (xs : List ℕ) → y ≢ x → has_slot x (y ∷ xs) ≡ true → has_slot x xs ≡ true
in_tail x y xs ne e = let n : eqb y x ≡ false = ne_eqb y x ne in grind arith

pub not_in_tail : (x y : ℕ) (xs : List ℕ) → has_slot x (y ∷ xs) ≡ false → has_slot x xs ≡ false
not_in_tail x y xs e = grind arith

not_in_front : (x y : ℕ) (xs ys : List ℕ) → has_slot x (y ∷ xs) ≡ false → has_slot x ys ≡ false →
    has_slot x (y ∷ ys) ≡ false
not_in_front x y xs ys e f = grind arith

pub in_here : (x : ℕ) (xs : List ℕ) → has_slot x (x ∷ xs) ≡ true
in_here x xs = let e : eqb x x ≡ true = eq-eqb x x refl in grind arith

pub in_other : (x y : ℕ) (xs : List ℕ) → y ≢ x → has_slot x (y ∷ xs) ≡ has_slot x xs
in_other x y xs ne = let n : eqb y x ≡ false = ne_eqb y x ne in grind arith

-- a slot in the list is another one than one that is not
pub differs : (x y : ℕ) (xs : List ℕ) → has_slot x xs ≡ true → has_slot y xs ≡ false → x ≢ y
differs x y xs a b e = false≢true (sym b ∙ ap (λ z. has_slot z xs) (sym e) ∙ a)

index_front : (x y : ℕ) (xs : List ℕ) → y ≡ x → index_of_slot x (y ∷ xs) ≡ 0
index_front x y xs e = let t : eqb y x ≡ true = eq-eqb y x e in grind arith

index_behind : (x y : ℕ) (xs : List ℕ) → y ≢ x →
    index_of_slot x (y ∷ xs) ≡ suc (index_of_slot x xs)
index_behind x y xs ne = let t : eqb y x ≡ false = ne_eqb y x ne in grind arith

pub some_is : (x y : ℕ) → Some x ≡ Some y → x ≡ y
some_is x y e = cc

-- the slot at an index is in the list
pub slot_in : (xs : List ℕ) (i s : ℕ) → slice_get xs i ≡ Some s → has_slot s xs ≡ true
slot_in [] i s e = absurd (cc)
slot_in (x ∷ xs) zero s e = subst (λ (y : ℕ). has_slot y (x ∷ xs) ≡ true) (some_is x s e) (in_here x
    xs)
slot_in (x ∷ xs) (suc i) s e = in_cons s x xs (slot_in xs i s e)

-- its index is that index, if none is twice
pub index_once : (xs : List ℕ) (i s : ℕ) → AreOnce xs → slice_get xs i ≡ Some s →
    index_of_slot s xs ≡ i
index_once [] i s once e = absurd (cc)
index_once (x ∷ xs) zero s once e = index_front s x xs (some_is x s e)
index_once (x ∷ xs) (suc i) s once e =
    index_behind s x xs (λ same. differs s x xs (slot_in xs i s e) once.0 (sym same))
    ∙ ap suc (index_once xs i s once.1 e)

-- and a slot in the list is found there
pub get_index : (s : ℕ) (xs : List ℕ) → has_slot s xs ≡ true →
    slice_get xs (index_of_slot s xs) ≡ Some s
get_index s [] e = absurd (false≢true e)
get_index s (x ∷ xs) e = same_or _ x s
    (λ q. rw (index_front s x xs q) (ap Some q))
    (λ ne. rw (index_behind s x xs ne)
    (get_index s xs (in_tail s x xs ne e)))

-- a list without the slot at an index
pub not_in_remove : (x i : ℕ) (xs : List ℕ) → has_slot x xs ≡ false →
    has_slot x (remove xs i) ≡ false
not_in_remove x zero [] e = refl
not_in_remove x (suc i) [] e = refl
not_in_remove x zero (y ∷ xs) e = not_in_tail x y xs e
not_in_remove x (suc i) (y ∷ xs) e = not_in_front x y xs (remove xs i) e
    (not_in_remove x i xs (not_in_tail x y xs e))

pub once_remove : (i : ℕ) (xs : List ℕ) → AreOnce xs → AreOnce (remove xs i)
once_remove zero [] once = tt
once_remove (suc i) [] once = tt
once_remove zero (x ∷ xs) once = once.1
once_remove (suc i) (x ∷ xs) once = (not_in_remove x i xs once.0, once_remove i xs once.1)

pub removed_self : (s : ℕ) (xs : List ℕ) → AreOnce xs →
    has_slot s (remove xs (index_of_slot s xs)) ≡ false
removed_self s [] once = refl
removed_self s (x ∷ xs) once = same_or _ x s
    (λ q. rw (index_front s x xs q)
    (subst (λ (y : ℕ). has_slot y xs ≡ false) q once.0))
    (λ ne. rw (index_behind s x xs ne)
    (in_other s x (remove xs (index_of_slot s xs)) ne
    ∙ removed_self s xs once.1))

pub removed_other : (s t : ℕ) (xs : List ℕ) → s ≢ t →
    has_slot t (remove xs (index_of_slot s xs)) ≡ has_slot t xs
removed_other s t [] ne = refl
removed_other s t (x ∷ xs) differ = same_or _ x s
    (λ q. rw (index_front s x xs q)
    (sym (in_other t x xs (λ r. differ (sym q ∙ r)))))
    (λ ne. rw (index_behind s x xs ne)
    (ap (λ (b : Bool). eqb x t || b) (removed_other s t xs differ)))

pub length_remove_index : (s : ℕ) (xs : List ℕ) → has_slot s xs ≡ true →
    suc (length (remove xs (index_of_slot s xs))) ≡ length xs
length_remove_index s [] e = absurd (false≢true e)
length_remove_index s (x ∷ xs) e = same_or _ x s
    (λ q. rw (index_front s x xs q) refl)
    (λ ne. rw (index_behind s x xs ne)
    (ap suc (length_remove_index s xs (in_tail s x xs ne e))))

-- what slots hold, where one list is without the slot at an index
pub map_remove : (f : ℕ → Slot) (xs : List ℕ) (i : ℕ) → map f (remove xs i) ≡ remove (map f xs) i
map_remove f [] zero = refl
map_remove f [] (suc i) = refl
map_remove f (x ∷ xs) zero = refl
map_remove f (x ∷ xs) (suc i) = ap (λ ys. f x ∷ ys) (map_remove f xs i)

-- where one slot holds something else
pub map_kept : (f g : ℕ → Slot) (s : ℕ) (xs : List ℕ) → ((t : ℕ) → t ≢ s → g t ≡ f t) →
    has_slot s xs ≡ false → map g xs ≡ map f xs
map_kept f g s [] same e = refl
map_kept f g s (x ∷ xs) same e =
    ap (λ y. y ∷ map g xs) (same x (λ q. false≢true (sym e ∙ subst
    (λ (y : ℕ). has_slot y (x ∷ xs) ≡ true) q (in_here x xs))))
    ∙ ap (λ ys. f x ∷ ys) (map_kept f g s xs same (not_in_tail s x xs e))

pub map_changed : (f g : ℕ → Slot) (s : ℕ) (xs : List ℕ) → ((t : ℕ) → t ≢ s → g t ≡ f t) →
    AreOnce xs → has_slot s xs ≡ true → map g xs ≡ set (map f xs) (index_of_slot s xs) (g s)
map_changed f g s [] same once e = absurd (false≢true e)
map_changed f g s (x ∷ xs) same once e = same_or _ x s
    (λ q. rw (index_front s x xs q)
    (ap (λ y. g y ∷ map g xs) q
    ∙ ap (λ ys. g s ∷ ys) (map_kept f g s xs same
    (subst (λ (y : ℕ). has_slot y xs ≡ false) q once.0))))
    (λ ne. rw (index_behind s x xs ne)
    (ap (λ y. y ∷ map g xs) (same x ne)
    ∙ ap (λ ys. f x ∷ ys) (map_changed f g s xs same once.1
    (in_tail s x xs ne e))))

-- where a block stands
index_is : (f : ℕ → Slot) (block s : ℕ) (xs : List ℕ) → has_slot s xs ≡ true →
    (f s).block ≡ block → ((t : ℕ) → has_slot t xs ≡ true → (f t).block ≡ block → t ≡ s) →
    position_or_len (λ (x : Slot). eqb x.block block) (map f xs) ≡ index_of_slot s xs
index_is f block s [] e here only = absurd (false≢true e)
index_is f block s (x ∷ xs) e here only =
    let first : x ≡ s → position_or_len (λ (x : Slot). eqb x.block block) (map f (x ∷ xs))
    ≡ index_of_slot s (x ∷ xs) =
    (λ q. let found : eqb (f x).block block ≡ true =
    eq-eqb (f x).block block (ap (λ y. (f y).block) q ∙ here) in
    rw (index_front s x xs q) (rw found refl)) in
    let later : x ≢ s → position_or_len (λ (x : Slot). eqb x.block block) (map f (x ∷ xs))
    ≡ index_of_slot s (x ∷ xs) =
    (λ ne. let other : eqb (f x).block block ≡ false =
    ne_eqb (f x).block block (λ r. ne (only x (in_here x xs) r)) in
    let rest : position_or_len (λ (x : Slot). eqb x.block block) (map f xs) ≡ index_of_slot s xs =
    index_is f block s xs (in_tail s x xs ne e) here (λ u h r. only u (in_cons u x xs h) r) in
    rw (index_behind s x xs ne) (rw other (omega (arith, rest)))) in
    same_or _ x s first later

pub index_within : (s : ℕ) (xs : List ℕ) → has_slot s xs ≡ true → index_of_slot s xs < length xs
index_within s [] e = absurd (false≢true e)
index_within s (x ∷ xs) e = same_or _ x s
    (λ q. rw (index_front s x xs q) (omega arith))
    (λ ne. rw (index_behind s x xs ne)
    (omega (arith, index_within s xs (in_tail s x xs ne e))))

pub position_here : (f : ℕ → Slot) (block s : ℕ) (xs : List ℕ) → has_slot s xs ≡ true →
    (f s).block ≡ block → ((t : ℕ) → has_slot t xs ≡ true → (f t).block ≡ block → t ≡ s) →
    position_of block (map f xs) ≡ Some (index_of_slot s xs)
position_here f block s xs e here only =
    let p = index_is f block s xs e here only in
    let lt : index_of_slot s xs < length (map f xs) =
    omega (arith, index_within s xs e, length-map xs f) in
    rw p (grind (arith, lt))

none_is : (f : ℕ → Slot) (block : ℕ) (xs : List ℕ) →
    ((t : ℕ) → has_slot t xs ≡ true → (f t).block ≢ block) →
    position_or_len (λ (x : Slot). eqb x.block block) (map f xs) ≡ length (map f xs)
none_is f block [] none = refl
none_is f block (x ∷ xs) none =
    let other : eqb (f x).block block ≡ false =
    ne_eqb (f x).block block (none x (in_here x xs)) in
    let rest = none_is f block xs (λ t h. none t (in_cons t x xs h)) in
    rw other (omega (arith, rest))

pub position_none : (f : ℕ → Slot) (block : ℕ) (xs : List ℕ) →
    ((t : ℕ) → has_slot t xs ≡ true → (f t).block ≢ block) →
    position_of block (map f xs) ≡ None
position_none f block xs none = rw (none_is f block xs none) (grind arith)
