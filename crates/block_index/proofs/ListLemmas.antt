-- Which slots are in a list, and in a list after a change.
use Rattle.std.proofs.Common.{◌≡◌, ℕ, zero, suc, ◌<◌, ◌≤◌, ◌⊎◌, inl, inr, true, false}
use Rattle.std.proofs.Common.{eqb, ◌||◌, List, [], ◌∷◌, length, get_or, refl, sym, ◌∙◌, ap, subst}
use Rattle.std.proofs.Common.{arith, eq-eqb}
use Rattle.std.specs.Prelude.{map}
use Rattle.std.specs.List.{remove, IsDistinct, AllByRecursion, list_any}
use Rattle.std.proofs.lemmas.Bool.{ne_eqb, eqb-true, false≢true, cases_eq, or_cases}
use Rattle.std.proofs.lemmas.Bool.{or_right, or_parts, or_from, or_left, false_from_ne_true}
use Rattle.std.proofs.lemmas.Map.Steps.{length-le_from_distinct_below}
use Rattle.block_index.specs.SlotLists.{has_slot, is_listed, index_of_slot, AreOnce}

pub has-head : (s : ℕ) (xs : List ℕ) → has_slot s (s ∷ xs) ≡ true
has-head s xs = or_left (eqb s s) (has_slot s xs) (eq-eqb s s refl)

pub has-here : (s x : ℕ) (xs : List ℕ) → x ≡ s → has_slot s (x ∷ xs) ≡ true
has-here s x xs e = or_left (eqb x s) (has_slot s xs) (eq-eqb x s e)

pub has-behind : (s x : ℕ) (xs : List ℕ) → has_slot s xs ≡ true → has_slot s (x ∷ xs) ≡ true
has-behind s x xs h = or_right (eqb x s) (has_slot s xs) h

pub has-cases : (s x : ℕ) (xs : List ℕ) → has_slot s (x ∷ xs) ≡ true →
    (x ≡ s) ⊎ (has_slot s xs ≡ true)
has-cases s x xs h =
    elim (or_cases (eqb x s) (has_slot s xs) h) [
      | inl e ↦ inl (eqb-true x s e)
      | inr e ↦ inr e
    ]

pub has-other : (s x : ℕ) (xs : List ℕ) → has_slot s (x ∷ xs) ≡ true → (x ≡ s → ⊥) →
    has_slot s xs ≡ true
has-other s x xs h ne = elim (has-cases s x xs h) [ inl e ↦ absurd (ne e) | inr e ↦ e ]

pub not-head : (s x : ℕ) (xs : List ℕ) → has_slot s (x ∷ xs) ≡ false → x ≡ s → ⊥
not-head s x xs h e = false≢true (sym h ∙ has-here s x xs e)

pub not-tail : (s x : ℕ) (xs : List ℕ) → has_slot s (x ∷ xs) ≡ false → has_slot s xs ≡ false
not-tail s x xs h = (or_parts (eqb x s) (has_slot s xs) h).1

pub not-both : (s x : ℕ) (xs : List ℕ) → (x ≡ s → ⊥) → has_slot s xs ≡ false →
    has_slot s (x ∷ xs) ≡ false
not-both s x xs ne h = or_from (eqb x s) (has_slot s xs) (ne_eqb x s ne) h

pub not-and-has : (s : ℕ) (xs : List ℕ) → has_slot s xs ≡ false → has_slot s xs ≡ true → ⊥
not-and-has s xs absent inside = false≢true (sym absent ∙ inside)

-- where a slot is
pub index-here : (s x : ℕ) (xs : List ℕ) → x ≡ s → index_of_slot s (x ∷ xs) ≡ 0
index-here s x xs e = let t : eqb x s ≡ true = eq-eqb x s e in grind arith

pub index-behind : (s x : ℕ) (xs : List ℕ) → (x ≡ s → ⊥) →
    index_of_slot s (x ∷ xs) ≡ suc (index_of_slot s xs)
index-behind s x xs ne = let t : eqb x s ≡ false = ne_eqb x s ne in grind arith

-- a list without one of its slots
pub has-remove : (s i : ℕ) (xs : List ℕ) → has_slot s (remove xs i) ≡ true → has_slot s xs ≡ true
has-remove s zero [] h = h
has-remove s (suc i) [] h = h
has-remove s zero (x ∷ xs) h = has-behind s x xs h
has-remove s (suc i) (x ∷ xs) h =
    elim (has-cases s x (remove xs i) h) [
      | inl e ↦ has-here s x xs e
      | inr e ↦ has-behind s x xs (has-remove s i xs e)
    ]

pub not-remove : (s i : ℕ) (xs : List ℕ) → has_slot s xs ≡ false → has_slot s (remove xs i) ≡ false
not-remove s i xs absent =
    false_from_ne_true (has_slot s (remove xs i)) (λ inside. not-and-has s xs absent (has-remove s i
    xs inside))

pub once-remove : (i : ℕ) (xs : List ℕ) → AreOnce xs → AreOnce (remove xs i)
once-remove zero [] once = tt
once-remove (suc i) [] once = tt
once-remove zero (x ∷ xs) once = once.1
once-remove (suc i) (x ∷ xs) once = (not-remove x i xs once.0, once-remove i xs once.1)

pub gone : (s : ℕ) (xs : List ℕ) → AreOnce xs → has_slot s (remove xs (index_of_slot s xs)) ≡ false
gone s [] once = refl
gone s (x ∷ xs) once =
    let P : ℕ → Type 0 = λ i. has_slot s (remove (x ∷ xs) i) ≡ false in
    let Q : ℕ → Type 0 = λ y. has_slot y xs ≡ false in
    elim (cases_eq x s) [
      | inl e ↦ subst P (sym (index-here s x xs e)) (subst Q e once.0)
      | inr ne ↦ subst P (sym (index-behind s x xs ne))
          (not-both s x (remove xs (index_of_slot s xs)) ne (gone s xs once.1))
    ]

-- and the others are as before
pub same-has : (s t : ℕ) (xs : List ℕ) → (t ≡ s → ⊥) →
    has_slot t (remove xs (index_of_slot s xs)) ≡ has_slot t xs
same-has s t [] ne = refl
same-has s t (x ∷ xs) ne =
    let P : ℕ → Type 0 = λ i. has_slot t (remove (x ∷ xs) i) ≡ has_slot t (x ∷ xs) in
    elim (cases_eq x s) [
      | inl e ↦ subst P (sym (index-here s x xs e))
          (sym (ap (λ b. b || has_slot t xs) (ne_eqb x t (λ f. ne (sym f ∙ e)))))
      | inr other ↦ subst P (sym (index-behind s x xs other))
          (ap (λ b. eqb x t || b) (same-has s t xs ne))
    ]

-- lists of lists
pub not-listed : (s : ℕ) (lists : List (List ℕ)) (k : ℕ) → is_listed lists s ≡ false →
    has_slot s (get_or lists k []) ≡ false
not-listed s [] k absent = refl
not-listed s (xs ∷ lists) zero absent = (or_parts (has_slot s xs) (is_listed lists s) absent).0
not-listed s (xs ∷ lists) (suc k) absent =
    not-listed s lists k (or_parts (has_slot s xs) (is_listed lists s) absent).1

pub listed : (s : ℕ) (lists : List (List ℕ)) (k : ℕ) → has_slot s (get_or lists k []) ≡ true →
    is_listed lists s ≡ true
listed s [] k inside = absurd (false≢true inside)
listed s (xs ∷ lists) zero inside = or_left (has_slot s xs) (is_listed lists s) inside
listed s (xs ∷ lists) (suc k) inside =
    or_right (has_slot s xs) (is_listed lists s) (listed s lists k inside)

pub listed-in : (s : ℕ) (lists : List (List ℕ)) → is_listed lists s ≡ true →
    (k : ℕ) × (k < length lists) × (has_slot s (get_or lists k []) ≡ true)
listed-in s [] inside = absurd (false≢true inside)
listed-in s (xs ∷ lists) inside =
    elim (or_cases (has_slot s xs) (is_listed lists s) inside) [
      | inl e ↦ (0, omega arith, e)
      | inr e ↦ let r = listed-in s lists e in (suc r.0, omega (arith, r.1), r.2)
    ]

pub lists-of_each : (f : ℕ → List ℕ) (xs : List ℕ) (lists : List (List ℕ)) →
    length xs ≡ length lists
    → ((k : ℕ) → k < length lists → f (get_or xs k 0) ≡ get_or lists k []) → map f xs ≡ lists
lists-of_each f [] [] long each = refl
lists-of_each f [] (l ∷ lists) long each = absurd (omega (arith, long))
lists-of_each f (x ∷ xs) [] long each = absurd (omega (arith, long))
lists-of_each f (x ∷ xs) (l ∷ lists) long each =
    ap (λ h. h ∷ map f xs) (each 0 (omega arith))
    ∙ ap (λ t. l ∷ t) (lists-of_each f xs lists (omega (arith, long))
    (λ k lt. each (suc k) (omega arith)))

-- a list of slots without two that are equal is no longer than there are slots
all-other : (x : ℕ) (xs : List ℕ) → has_slot x xs ≡ false → AllByRecursion (λ y. eqb x y ≡ false) xs
all-other x [] absent = tt
all-other x (y ∷ xs) absent = (
  ne_eqb x y (λ e. not-head x y xs absent (sym e)),
  all-other x xs (not-tail x y xs absent),
)

distinct : (xs : List ℕ) → AreOnce xs → IsDistinct eqb xs
unfolding IsDistinct
distinct [] once = tt
distinct (x ∷ xs) once = (all-other x xs once.0, distinct xs once.1)

has-any : (q : ℕ) (xs : List ℕ) → list_any (eqb q) xs ≡ true → has_slot q xs ≡ true
has-any q [] h = absurd (false≢true h)
has-any q (x ∷ xs) h =
    elim (or_cases (eqb q x) (list_any (eqb q) xs) h) [
      | inl e ↦ has-here q x xs (sym (eqb-true q x e))
      | inr e ↦ has-behind q x xs (has-any q xs e)
    ]

pub length-le_slots : (xs : List ℕ) (slots : ℕ) → AreOnce xs →
    ((s : ℕ) → has_slot s xs ≡ true → s < slots) → length xs ≤ slots
length-le_slots xs slots once below =
    length-le_from_distinct_below xs slots (distinct xs once) (λ q h. below q (has-any q xs h))
