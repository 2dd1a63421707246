-- Lists: what is true of each element, what is a member, what a filter keeps, the greatest number,
-- sums, and two neighbours that are set.
use Rattle.std.proofs.Common.{◌≡◌, ℕ, suc, zero, ◌+◌, ◌*◌, ◌<◌, ◌≤◌, max, Bool, true, false}
use Rattle.std.proofs.Common.{List, [], ◌∷◌, ◌++◌, map, take, length, fold, get_or, refl, sym, ap}
use Rattle.std.proofs.Common.{◌∙◌, inl, inr, arith, subst, mul-add, drop}
use Rattle.std.specs.Prelude.{◌⊎◌, filter, flat_map, Contains, sum_by}
use Rattle.std.specs.List.{range_with_len, AllByRecursion as Each}
use Rattle.std.proofs.lemmas.Bool.{cases_Bool, cond-true, cond-false, cases_lt}
use Rattle.std.proofs.Math.ListN.{set}
use Rattle.std.proofs.lemmas.List.Sums.{sum_by-cons}

abbrev pub Member : {A : Type 0} → A → List A → Type 0
Member a [] = ⊥
Member a (x ∷ xs) = (x ≡ a) ⊎ Member a xs

pub Each-member : {A : Type 0} (P : A → Type 0) (a : A) (xs : List A) → Each P xs →
    Member a xs → P a
Each-member P a [] all m = absurd m
Each-member P a (x ∷ xs) all (inl e) = subst P e all.0
Each-member P a (x ∷ xs) all (inr m) = Each-member P a xs all.1 m

pub Each-self : {A : Type 0} (P : A → Type 0) (xs : List A) →
    ((a : A) → Member a xs → P a) → Each P xs
Each-self P [] h = tt
Each-self P (x ∷ xs) h = (h x (inl refl), Each-self P xs (λ a m. h a (inr m)))

pub Each-weaker : {A : Type 0} (P Q : A → Type 0) → ((a : A) → P a → Q a) → (xs : List A) →
    Each P xs → Each Q xs
Each-weaker P Q w [] all = tt
Each-weaker P Q w (x ∷ xs) all = (w x all.0, Each-weaker P Q w xs all.1)

pub Each-both : {A : Type 0} (P Q R : A → Type 0) → ((a : A) → P a → Q a → R a) → (xs : List A) →
    Each P xs → Each Q xs → Each R xs
Each-both P Q R f [] p q = tt
Each-both P Q R f (x ∷ xs) p q = (f x p.0 q.0, Each-both P Q R f xs p.1 q.1)

pub Each-append : {A : Type 0} (P : A → Type 0) (xs ys : List A) → Each P xs → Each P ys →
    Each P (xs ++ ys)
Each-append P [] ys p q = q
Each-append P (x ∷ xs) ys p q = (p.0, Each-append P xs ys p.1 q)

pub Each-split : {A : Type 0} (P : A → Type 0) (xs ys : List A) → Each P (xs ++ ys) →
    Each P xs × Each P ys
Each-split P [] ys h = (tt, h)
Each-split P (x ∷ xs) ys h = let w = Each-split P xs ys h.1 in ((h.0, w.0), w.1)

pub Each-flat_map : {A B : Type 0} (P : B → Type 0) (f : A → List B) → (xs : List A) →
    Each (λ x. Each P (f x)) xs → Each P (flat_map f xs)
Each-flat_map P f [] h = tt
Each-flat_map P f (x ∷ xs) h = Each-append P (f x) (flat_map f xs) h.0 (Each-flat_map P f xs h.1)

pub Each-map : {A B : Type 0} (P : B → Type 0) (f : A → B) (xs : List A) → Each (λ x. P (f x)) xs →
    Each P (map f xs)
Each-map P f [] h = tt
Each-map P f (x ∷ xs) h = (h.0, Each-map P f xs h.1)

pub Each-take : {A : Type 0} (P : A → Type 0) (n : ℕ) (xs : List A) → Each P xs → Each P (take n xs)
Each-take P zero xs h = tt
Each-take P (suc n) [] h = tt
Each-take P (suc n) (x ∷ xs) h = (h.0, Each-take P n xs h.1)

pub Each-filter : {A : Type 0} (P : A → Type 0) (p : A → Bool) (xs : List A) → Each P xs →
    Each P (filter p xs)
Each-filter P p [] h = tt
Each-filter P p (x ∷ xs) h =
    elim (cases_Bool (p x)) [
      | inl passes ↦ subst (Each P) (sym (cond-true _ _ _ passes)) (h.0, Each-filter P p xs h.1)
      | inr fails ↦ subst (Each P) (sym (cond-false _ _ _ fails)) (Each-filter P p xs h.1)
    ]

pub Each-get_or : {A : Type 0} (P : A → Type 0) (xs : List A) (k : ℕ) (d : A) → k < length xs →
    Each P xs → P (get_or xs k d)
Each-get_or P [] k d h all = absurd (omega arith)
Each-get_or P (x ∷ xs) zero d h all = all.0
Each-get_or P (x ∷ xs) (suc k) d h all = Each-get_or P xs k d (omega arith) all.1

pub Member-append_left : {A : Type 0} (a : A) (xs ys : List A) → Member a xs → Member a (xs ++ ys)
Member-append_left a [] ys m = absurd m
Member-append_left a (x ∷ xs) ys (inl e) = inl e
Member-append_left a (x ∷ xs) ys (inr m) = inr (Member-append_left a xs ys m)

pub Member-append_right : {A : Type 0} (a : A) (xs ys : List A) → Member a ys → Member a (xs ++ ys)
Member-append_right a [] ys m = m
Member-append_right a (x ∷ xs) ys m = inr (Member-append_right a xs ys m)

pub Member-flat_map : {A B : Type 0} (f : A → List B) (a : A) (b : B) (xs : List A) → Member a xs →
    Member b (f a) → Member b (flat_map f xs)
Member-flat_map f a b [] m k = absurd m
Member-flat_map f a b (x ∷ xs) (inl e) k = Member-append_left b (f x) (flat_map f xs)
    (subst (λ y. Member b (f y)) (sym e) k)
Member-flat_map f a b (x ∷ xs) (inr m) k = Member-append_right b (f x) (flat_map f xs)
    (Member-flat_map f a b xs m k)

pub Member-map : {A B : Type 0} (f : A → B) (a : A) (xs : List A) → Member a xs →
    Member (f a) (map f xs)
Member-map f a [] m = absurd m
Member-map f a (x ∷ xs) (inl e) = inl (ap f e)
Member-map f a (x ∷ xs) (inr m) = inr (Member-map f a xs m)

pub Member-mapped : {A : Type 0} (f : A → ℕ) (n : ℕ) (xs : List A) → Member n (map f xs) →
    (a : A) × Member a xs × (f a ≡ n)
Member-mapped f n [] m = absurd m
Member-mapped f n (x ∷ xs) (inl e) = (x, inl refl, e)
Member-mapped f n (x ∷ xs) (inr m) = let w = Member-mapped f n xs m in (w.0, inr w.1, w.2)

pub Member-range : (k a n : ℕ) → a ≤ k → k < a + n → Member k (range_with_len a n)
Member-range k a zero from below = absurd (omega arith)
Member-range k a (suc n) from below =
    elim (cases_lt a k) [
      | inl later ↦ inr (Member-range k (a + 1) n (omega arith) (omega arith))
      | inr here ↦ inl (omega arith)
    ]

pub contains-of : {A : Type 0} (c : A) (xs : List A) → Member c xs → Contains xs c
contains-of c [] m = absurd m
contains-of c (x ∷ xs) (inl e) = (0, omega arith, e)
contains-of c (x ∷ xs) (inr m) = let w = contains-of c xs m in (suc w.0, omega arith, w.2)

pub member-of : {A : Type 0} (c : A) (xs : List A) → Contains xs c → Member c xs
member-of c [] (k, low, e) = absurd (omega arith)
member-of c (x ∷ xs) (zero, low, e) = inl e
member-of c (x ∷ xs) (suc k, low, e) = inr (member-of c xs (k, omega arith, e))

pub passes-all : {A : Type 0} (p : A → Bool) (xs : List A) → Each (λ c. p c ≡ true) (filter p xs)
passes-all p [] = tt
passes-all p (x ∷ xs) =
    elim (cases_Bool (p x)) [
      | inl passes ↦ subst (Each (λ c. p c ≡ true)) (sym (cond-true _ _ _ passes)) (
        passes,
        passes-all p xs,
      )
      | inr fails ↦ subst (Each (λ c. p c ≡ true)) (sym (cond-false _ _ _ fails)) (passes-all p xs)
    ]

pub kept-of : {A : Type 0} (p : A → Bool) (c : A) (xs : List A) → p c ≡ true → Member c xs →
    Member c (filter p xs)
kept-of p c [] h m = absurd m
kept-of p c (x ∷ xs) h (inl e) = subst (Member c) (sym (cond-true _ _ _ (ap p e ∙ h))) (inl e)
kept-of p c (x ∷ xs) h (inr m) =
    elim (cases_Bool (p x)) [
      | inl passes ↦ subst (Member c) (sym (cond-true _ _ _ passes)) (inr (kept-of p c xs h m))
      | inr fails ↦ subst (Member c) (sym (cond-false _ _ _ fails)) (kept-of p c xs h m)
    ]

-- what a filter keeps was there, and passes
pub Member-filter : {A : Type 0} (p : A → Bool) (a : A) (xs : List A) → Member a (filter p xs) →
    Member a xs × (p a ≡ true)
Member-filter p a [] m = absurd m
Member-filter p a (x ∷ xs) m =
    elim (cases_Bool (p x)) [
      | inl passes ↦ kept passes (Member-filter p a xs)
          (subst (Member a) (cond-true _ _ _ passes) m)
      | inr fails ↦ let w = Member-filter p a xs (subst (Member a) (cond-false _ _ _ fails) m) in
          (inr w.0, w.1)
    ]
  where
    kept : p x ≡ true → (Member a (filter p xs) → Member a xs × (p a ≡ true)) →
        Member a (x ∷ filter p xs)
        → Member a (x ∷ xs) × (p a ≡ true)
    kept passes later (inl e) = (inl e, ap p (sym e) ∙ passes)
    kept passes later (inr k) = (inr (later k).0, (later k).1)

pub filter-all : {A : Type 0} (p : A → Bool) (xs : List A) → Each (λ x. p x ≡ true) xs →
    filter p xs ≡ xs
filter-all p [] h = refl
filter-all p (x ∷ xs) h = cond-true _ _ _ h.0 ∙ ap (λ l. x ∷ l) (filter-all p xs h.1)

pub filter-none : {A B : Type 0} (p : A → Bool) (f : B → A) → ((x : B) → p (f x) ≡ false) →
    (xs : List B) → filter p (map f xs) ≡ []
filter-none p f h [] = refl
filter-none p f h (x ∷ xs) = cond-false _ _ _ (h x) ∙ filter-none p f h xs

pub max-is : (n : ℕ) (xs : List ℕ) (a : ℕ) → a ≤ n → Each (λ x. x ≤ n) xs → (a ≡ n) ⊎ Member n xs →
    fold max a xs ≡ n
max-is n [] a low all (inl e) = e
max-is n [] a low all (inr m) = absurd m
max-is n (x ∷ xs) a low all (inl e) = max-is n xs (max a x) (omega (arith, all.0)) all.1
    (inl (omega (arith, all.0)))
max-is n (x ∷ xs) a low all (inr (inl e)) = max-is n xs (max a x) (omega (arith, all.0)) all.1
    (inl (omega (arith, all.0)))
max-is n (x ∷ xs) a low all (inr (inr m)) =
    max-is n xs (max a x) (omega (arith, all.0)) all.1 (inr m)

pub max-above : (n a : ℕ) (xs : List ℕ) → (n ≤ a) ⊎ Member n xs → n ≤ fold max a xs
max-above n a [] (inl low) = low
max-above n a [] (inr m) = absurd m
max-above n a (x ∷ xs) (inl low) = max-above n (max a x) xs (inl (omega arith))
max-above n a (x ∷ xs) (inr (inl e)) = max-above n (max a x) xs (inl (omega arith))
max-above n a (x ∷ xs) (inr (inr m)) = max-above n (max a x) xs (inr m)

pub max-reached : (a : ℕ) (xs : List ℕ) → (fold max a xs ≡ a) ⊎ Member (fold max a xs) xs
max-reached a [] = inl refl
max-reached a (x ∷ xs) =
    elim (max-reached (max a x) xs) [
      | inl same ↦ first same
      | inr later ↦ inr (inr later)
    ]
  where
    first : fold max (max a x) xs ≡ max a x → (fold max a (x ∷ xs) ≡ a) ⊎
        Member (fold max a (x ∷ xs)) (x ∷ xs)
    first same =
        elim (cases_lt a x) [
          | inl less ↦ inr (inl (omega (arith, same)))
          | inr more ↦ inl (omega (arith, same))
        ]

-- a factor of each term is one of the sum
pub sum-times : {A : Type 0} (n : ℕ) (f : A → ℕ) (xs : List A) →
    sum_by (λ x. n * f x) xs ≡ n * sum_by f xs
sum-times n f [] = omega arith
sum-times n f (x ∷ xs) =
    sum_by-cons (λ y. n * f y) x xs ∙ ap (λ s. n * f x + s) (sum-times n f xs)
    ∙ sym (mul-add n (f x) (sum_by f xs)) ∙ ap (λ s. n * s) (sym (sum_by-cons f x xs))

-- two neighbours that are set, each in its part of a list
set_parts : {A : Type 0} (at : ℕ) (xs : List A) (x y : A) → suc at < length xs →
    set (take (suc at) xs) at x ++ set (drop (suc at) xs) 0 y ≡ set (set xs at x) (suc at) y
set_parts at [] x y lt = absurd (omega (arith, lt))
set_parts zero (z ∷ []) x y lt = absurd (omega (arith, lt))
set_parts zero (z ∷ w ∷ xs) x y lt = refl
set_parts (suc at) (z ∷ xs) x y lt = ap (λ l. z ∷ l) (set_parts at xs x y (omega (arith, lt)))

pub set_neighbours : {A : Type 0} (at : ℕ) (xs front back : List A) (x y : A) →
    at + 1 < length xs → front ≡ take (at + 1) xs → back ≡ drop (at + 1) xs →
    set front at x ++ set back 0 y ≡ set (set xs at x) (at + 1) y
set_neighbours at xs front back x y lt front_is back_is =
    ap (λ l. set l at x ++ set back 0 y) front_is ∙
    ap (λ l. set (take (at + 1) xs) at x ++ set l 0 y) back_is ∙
    subst (λ n. set (take n xs) at x ++ set (drop n xs) 0 y ≡ set (set xs at x) n y) {x = suc at}
    {y = at + 1} (omega arith) (set_parts at xs x y (omega (arith, lt)))
