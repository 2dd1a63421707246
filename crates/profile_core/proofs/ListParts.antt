-- A list in two parts: its first blocks, and those behind them.
use Rattle.std.proofs.Common.{◌≡◌, ◌≢◌, ℕ, zero, suc, ◌+◌, ◌-◌, ◌<◌, ◌≤◌, Bool, true, false, cond}
use Rattle.std.proofs.Common.{eqb, ◌||◌, List, [], ◌∷◌, ◌++◌, length, take, get_or, refl, sym}
use Rattle.std.proofs.Common.{◌∙◌, ap, subst, arith, length-append, length-take, length-drop}
use Rattle.std.specs.List.{remove}
use Rattle.std.proofs.lemmas.Bool.{eqb-true}
use Rattle.std.proofs.lemmas.List.{take_all, take_at, length-take-le, take_more, append_assoc}
use Rattle.std.proofs.lemmas.List.Edits.{remove-append_left, remove-append_right}
use Rattle.deep_list.specs.Deep.{IsOnce}
use Rattle.profile_core.specs.profile.RecencyList.{index_of, is_in, is_front, move_to_front}
use Rattle.profile_core.specs.internal.set_lists.Moves.{is_second, standing_of}
use Rattle.profile_core.specs.declared.set_lists.recency.Standing.TheVariants.{Behind, New}
use Rattle.profile_core.proofs.Shifting.{length-remove}

-- a block in a list of two parts
pub is_in-append : (x : ℕ) (xs ys : List ℕ) → is_in x (xs ++ ys) ≡ (is_in x xs || is_in x ys)
is_in-append x [] ys = refl
is_in-append x (y ∷ xs) ys = grind (arith, is_in-append x xs ys)

index-cons : (x y : ℕ) (xs : List ℕ) → index_of x (y ∷ xs) ≡ cond (eqb y x) 0 (1 + index_of x xs)
index-cons x y xs = grind arith

pub index-append_left : (x : ℕ) (xs ys : List ℕ) → is_in x xs ≡ true →
    index_of x (xs ++ ys) ≡ index_of x xs
index-append_left x [] ys inside = absurd (cc)
index-append_left x (y ∷ xs) ys inside = grind (
  arith,
  index-cons x y xs,
  index-cons x y (xs ++ ys),
  index-append_left x xs ys,
)

pub index-append_right : (x : ℕ) (xs ys : List ℕ) → is_in x xs ≡ false →
    index_of x (xs ++ ys) ≡ length xs + index_of x ys
index-append_right x [] ys absent = omega arith
index-append_right x (y ∷ xs) ys absent =
    grind (arith, index-cons x y (xs ++ ys), index-append_right x xs ys)

pub index-lt : (x : ℕ) (xs : List ℕ) → is_in x xs ≡ true → index_of x xs < length xs
index-lt x [] inside = absurd (cc)
index-lt x (y ∷ xs) inside = grind (arith, index-cons x y xs, index-lt x xs)

-- different blocks
absent-tail : (x y : ℕ) (xs : List ℕ) → is_in x (y ∷ xs) ≡ false → (eqb y x ≡ false) ×
    (is_in x xs ≡ false)
absent-tail x y xs e = grind arith

pub absent-take : (x n : ℕ) (xs : List ℕ) → is_in x xs ≡ false → is_in x (take n xs) ≡ false
absent-take x zero xs e = refl
absent-take x (suc n) [] e = refl
absent-take x (suc n) (y ∷ xs) e = let p = absent-tail x y xs e in
    grind (arith, absent-take x n xs p.1)

absent-remove : (x i : ℕ) (xs : List ℕ) → is_in x xs ≡ false → is_in x (remove xs i) ≡ false
absent-remove x zero [] e = refl
absent-remove x (suc i) [] e = refl
absent-remove x zero (y ∷ xs) e = (absent-tail x y xs e).1
absent-remove x (suc i) (y ∷ xs) e = let p = absent-tail x y xs e in
    grind (arith, absent-remove x i xs p.1)

once-take : (n : ℕ) (xs : List ℕ) → IsOnce xs → IsOnce (take n xs)
once-take zero xs once = tt
once-take (suc n) [] once = tt
once-take (suc n) (x ∷ xs) once = (absent-take x n xs once.0, once-take n xs once.1)

once-remove : (i : ℕ) (xs : List ℕ) → IsOnce xs → IsOnce (remove xs i)
once-remove zero [] once = tt
once-remove (suc i) [] once = tt
once-remove zero (x ∷ xs) once = once.1
once-remove (suc i) (x ∷ xs) once = (absent-remove x i xs once.0, once-remove i xs once.1)

removed : (x y : ℕ) (xs : List ℕ) → eqb y x ≡ false →
    remove (y ∷ xs) (index_of x (y ∷ xs)) ≡ y ∷ remove xs (index_of x xs)
removed x y xs ne = grind (arith, index-cons)

removed_front : (x y : ℕ) (xs : List ℕ) → eqb y x ≡ true →
    remove (y ∷ xs) (index_of x (y ∷ xs)) ≡ xs
removed_front x y xs e = grind (arith, index-cons)

gone_at : (b : Bool) (x y : ℕ) (xs : List ℕ) → eqb y x ≡ b → is_in y xs ≡ false →
    is_in x (remove xs (index_of x xs)) ≡ false
    → is_in x (remove (y ∷ xs) (index_of x (y ∷ xs))) ≡ false
gone_at true x y xs e other rest =
    let P : ℕ → Type 0 = λ z. is_in z xs ≡ false in
    ap (is_in x) (removed_front x y xs e) ∙ subst P (eqb-true y x e) other
gone_at false x y xs e other rest =
    ap (is_in x) (removed x y xs e) ∙ ap (λ b. b || is_in x (remove xs (index_of x xs))) e ∙ rest

-- a block that is removed from different blocks is no longer among them
pub gone : (x : ℕ) (xs : List ℕ) → IsOnce xs → is_in x (remove xs (index_of x xs)) ≡ false
gone x [] once = refl
gone x (y ∷ xs) once = gone_at (eqb y x) x y xs refl once.0 (gone x xs once.1)

pub once_moved : (x n : ℕ) (xs : List ℕ) → IsOnce xs → IsOnce (take n (move_to_front x xs))
once_moved x n xs once = once-take n (move_to_front x xs) (
  gone x xs once,
  once-remove (index_of x xs) xs once,
)

-- a block of the first part of different blocks is not in the second
pub once_apart : (xs ys : List ℕ) (i : ℕ) → IsOnce (xs ++ ys) → i < length xs →
    is_in (get_or xs i 0) ys ≡ false
once_apart [] ys i once lt = absurd (omega arith)
once_apart (x ∷ xs) ys zero once lt = grind (arith, is_in-append x xs ys, once.0)
once_apart (x ∷ xs) ys (suc i) once lt = once_apart xs ys i once.1 (omega arith)

pub remove_past : (xs : List ℕ) (i : ℕ) → length xs ≤ i → remove xs i ≡ xs
remove_past [] zero le = refl
remove_past [] (suc i) le = refl
remove_past (x ∷ xs) zero le = absurd (omega arith)
remove_past (x ∷ xs) (suc i) le = ap (λ ys. x ∷ ys) (remove_past xs i (omega arith))

pub index_absent : (x : ℕ) (xs : List ℕ) → is_in x xs ≡ false → length xs ≤ index_of x xs
index_absent x [] e = omega arith
index_absent x (y ∷ xs) e =
    let p = absent-tail x y xs e in
    omega (
      arith,
      index_absent x xs p.1,
      ap (λ b. cond b 0 (1 + index_of x xs)) p.0,
      index-cons x y xs,
    )

suc-add : (w b : ℕ) → suc w + b ≡ suc (w + b)
suc-add w b = omega arith

take_past : (xs ys : List ℕ) (w b : ℕ) → length xs ≡ w → take (w + b) (xs ++ ys) ≡ xs ++ take b ys
take_past [] ys w b long = ap (λ n. take n ys) (omega (arith, long))
take_past (x ∷ xs) ys zero b long = absurd (omega (arith, long))
take_past (x ∷ xs) ys (suc w) b long =
    ap (λ n. take n (x ∷ (xs ++ ys))) (suc-add w b) ∙
    ap (λ zs. x ∷ zs) (take_past xs ys w b (omega (arith, long)))

pub length-remove_le : (xs : List ℕ) (i : ℕ) → length (remove xs i) ≤ length xs
length-remove_le xs i = grind (arith, length-append, length-take, length-drop)

pub length-take_le : (n : ℕ) (xs : List ℕ) → length (take n xs) ≤ n
length-take_le n xs = omega (arith, length-take n xs)

-- the list of one set, in two parts: xs of at most w blocks, and ys of at most b
module _ (w b x : ℕ) (xs ys : List ℕ) where
  -- x is in the first part
  module _ (inside : is_in x xs ≡ true) (short : length xs ≤ w) (rest_short : length ys ≤ b) where
    pub near_standing : standing_of x xs ≡ standing_of x (xs ++ ys)
    near_standing = grind (arith, index-append_left, is_in-append)

    pub near_moved : take (w + b) (move_to_front x (xs ++ ys)) ≡ take w (move_to_front x xs) ++ ys
    near_moved = grind (
      arith,
      index-append_left,
      remove-append_left,
      take_all,
      length-append,
      length-remove,
      index-lt,
    )

  -- x is in the second part or in none, and the first is full
  module _ (absent : is_in x xs ≡ false) (full : length xs ≡ w) (two : 2 ≤ w) where
    abbrev last : ℕ
    last = get_or xs (w - 1) 0

    split_last : xs ≡ take (w - 1) xs ++ last ∷ []
    split_last =
        let lt : w - 1 < length xs = omega (arith, full, two) in
        sym (take_all (w - 1 + 1) xs (omega (arith, full))) ∙ take_more xs (w - 1) 0 lt

    pub far_moved : take (w + b) (move_to_front x (xs ++ ys)) ≡ take w (move_to_front x xs) ++
        take b (last ∷ remove ys (index_of x ys))
    far_moved =
        let front : List ℕ = x ∷ take (w - 1) xs in
        let left : List ℕ = remove ys (index_of x ys) in
        let long : length front ≡ w = omega (
          arith,
          length-take-le (w - 1) xs (omega (arith, full)),
          two,
        ) in
        let out : remove (xs ++ ys) (index_of x (xs ++ ys)) ≡ xs ++ left =
        ap (remove (xs ++ ys)) (index-append_right x xs ys absent)
        ∙ remove-append_right xs ys (length xs) (length xs + index_of x ys) refl (omega arith)
        ∙ ap (λ j. xs ++ remove ys j) (omega arith) in
        let apart : x ∷ (xs ++ left) ≡ front ++ (last ∷ left) =
        ap (λ zs. x ∷ (zs ++ left)) split_last ∙
        ap (λ zs. x ∷ zs) (append_assoc (take (w - 1) xs) (last ∷ []) left) in
        let near_out : remove xs (index_of x xs) ≡ xs =
        remove_past xs (index_of x xs) (index_absent x xs absent) in
        let near : take w (move_to_front x xs) ≡ front =
        ap (λ zs. take w (x ∷ zs)) (near_out ∙ split_last) ∙ take_at front (last ∷ []) w long in
        ap (λ zs. take (w + b) (x ∷ zs)) out ∙ ap (take (w + b)) apart ∙
        take_past front (last ∷ left) w b long
        ∙ ap (λ zs. zs ++ take b (last ∷ left)) (sym near)

    pub far_found : is_in x ys ≡ true →
        Behind (length xs + index_of x ys) ≡ standing_of x (xs ++ ys)
    far_found inside = grind (arith, index-append_right, is_in-append)

    pub far_new : is_in x ys ≡ false → New (length xs + length ys) ≡ standing_of x (xs ++ ys)
    far_new none = grind (arith, length-append, is_in-append)

pub none_of : (xs : List ℕ) → (xs ≢ [] → ⊥) → xs ≡ []
none_of [] h = refl
none_of (x ∷ xs) h = absurd (h (λ e. absurd (omega (arith, ap length e))))

pub front-append : (x : ℕ) (xs ys : List ℕ) → (length xs < 2 → ys ≡ []) →
    is_front x xs ≡ is_front x (xs ++ ys)
front-append x [] ys h = sym (ap (is_front x) (h (omega arith)))
front-append x (y ∷ xs) ys h = refl

pub first-append : (xs ys : List ℕ) → (length xs < 2 → ys ≡ []) →
    get_or xs 0 0 ≡ get_or (xs ++ ys) 0 0
first-append [] ys h = sym (ap (λ zs. get_or zs 0 0) (h (omega arith)))
first-append (y ∷ xs) ys h = refl

pub some-append : (xs ys : List ℕ) → (length xs < 2 → ys ≡ []) →
    0 < length (xs ++ ys) → 0 < length xs
some-append [] ys h some = absurd (omega (arith, some, ap length (h (omega arith))))
some-append (y ∷ xs) ys h some = omega arith

pub second-append : (x : ℕ) (xs ys : List ℕ) → (length xs < 2 → ys ≡ []) →
    is_second x xs ≡ is_second x (xs ++ ys)
second-append x [] ys h = sym (ap (is_second x) (h (omega arith)))
second-append x (y ∷ []) ys h = sym (ap (is_front x) (h (omega arith)))
second-append x (y ∷ z ∷ xs) ys h = refl

pub second_in : (x : ℕ) (xs : List ℕ) → is_second x xs ≡ true → is_in x xs ≡ true
second_in x [] second = absurd (cc)
second_in x (y ∷ []) second = absurd (cc)
second_in x (y ∷ z ∷ xs) second = grind arith
