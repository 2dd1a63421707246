-- A list in two parts: its first n numbers at most, and those behind them. A number comes in front,
-- and that at an index leaves the list.
use Rattle.std.proofs.Common.{◌≡◌, ℕ, zero, suc, ◌+◌, ◌-◌, ◌<◌, ◌≤◌, List, [], ◌∷◌, ◌++◌, length}
use Rattle.std.proofs.Common.{take}
use Rattle.std.proofs.Common.{get_or, set, refl, sym, ◌∙◌, ap, arith, append-nil, length-append}
use Rattle.std.specs.List.{remove}
use Rattle.std.proofs.Math.Seq.{take-append-add}
use Rattle.std.proofs.lemmas.List.{take_all, take_at, length-take-le, take_more, append_assoc}
use Rattle.std.proofs.lemmas.List.Edits.{remove-append_left, remove-append_right}
use Rattle.profile_core.proofs.ListParts.{remove_past}
use Rattle.profile_core.proofs.Shifting.{length-remove}

pub set_twice : {A : Type 0} (xs : List A) (k : ℕ) (x y : A) → set (set xs k x) k y ≡ set xs k y
set_twice [] k x y = refl
set_twice (z ∷ xs) zero x y = refl
set_twice (z ∷ xs) (suc k) x y = ap (λ zs. z ∷ zs) (set_twice xs k x y)

pub front_set : (n x y : ℕ) (xs : List ℕ) → set (take n (x ∷ xs)) 0 y ≡ take n (y ∷ xs)
front_set zero x y xs = refl
front_set (suc n) x y xs = refl

pub first_set : (x : ℕ) (xs ys : List ℕ) → 0 < length xs → set (xs ++ ys) 0 x ≡ set xs 0 x ++ ys
first_set x [] ys some = absurd (omega arith)
first_set x (z ∷ xs) ys some = refl

pub first_read : (xs ys : List ℕ) → 0 < length xs → get_or xs 0 0 ≡ get_or (xs ++ ys) 0 0
first_read [] ys some = absurd (omega arith)
first_read (z ∷ xs) ys some = refl

pub read_left : (xs ys : List ℕ) (i : ℕ) → i < length xs → get_or (xs ++ ys) i 0 ≡ get_or xs i 0
read_left [] ys i lt = absurd (omega arith)
read_left (x ∷ xs) ys zero lt = refl
read_left (x ∷ xs) ys (suc i) lt = read_left xs ys i (omega arith)

read_past : (xs ys : List ℕ) (j : ℕ) → get_or (xs ++ ys) (length xs + j) 0 ≡ get_or ys j 0
read_past [] ys j = ap (λ i. get_or ys i 0) (omega arith)
read_past (x ∷ xs) ys j =
    let next : length (x ∷ xs) + j ≡ suc (length xs + j) = omega arith in
    ap (λ i. get_or (x ∷ (xs ++ ys)) i 0) next ∙ read_past xs ys j

pub read_right : (xs ys : List ℕ) (i j : ℕ) → i ≡ length xs + j →
    get_or (xs ++ ys) i 0 ≡ get_or ys j 0
read_right xs ys i j is = ap (λ k. get_or (xs ++ ys) k 0) is ∙ read_past xs ys j

module _ (n b c : ℕ) (xs ys : List ℕ) where
  -- out of the first part
  pub near_out : (i : ℕ) → i < length xs → length xs ≤ n → length ys ≤ b →
      take (n + b) (c ∷ remove (xs ++ ys) i) ≡ take n (c ∷ remove xs i) ++ ys
  near_out i lt short rest_short =
      let left : suc (length (remove xs i)) ≡ length xs = length-remove xs i lt in
      let whole : take n (c ∷ remove xs i) ≡ c ∷ remove xs i =
      take_all n (c ∷ remove xs i) (omega (arith, left)) in
      ap (λ zs. take (n + b) (c ∷ zs)) (remove-append_left xs ys i lt)
      ∙ take_all (n + b) (c ∷ (remove xs i ++ ys)) (omega (
        arith,
        left,
        short,
        rest_short,
        length-append (remove xs i) ys,
      ))
      ∙ ap (λ zs. zs ++ ys) (sym whole)

  -- out of neither, where there is room in the first part
  pub room_out : (i j : ℕ) → length xs ≤ i → length xs ≤ j → length xs < n → ys ≡ [] →
      take (n + b) (c ∷ remove (xs ++ ys) i) ≡ take n (c ∷ remove xs j) ++ ys
  room_out i j past near_past room none =
      let whole : xs ++ ys ≡ xs = ap (λ zs. xs ++ zs) none ∙ append-nil xs in
      ap (λ zs. take (n + b) (c ∷ remove zs i)) whole
      ∙ ap (λ zs. take (n + b) (c ∷ zs)) (remove_past xs i past)
      ∙ take_all (n + b) (c ∷ xs) (omega (arith, room))
      ∙ sym (take_all n (c ∷ xs) (omega (arith, room)))
      ∙ ap (λ zs. take n (c ∷ zs)) (sym (remove_past xs j near_past))
      ∙ sym (append-nil (take n (c ∷ remove xs j)))
      ∙ ap (λ zs. take n (c ∷ remove xs j) ++ zs) (sym none)

  -- out of the second part or of neither, where the first is full
  pub far_out : (i j k last : ℕ) → length xs ≡ n → 1 ≤ n → i ≡ n + j → n ≤ k →
      last ≡ get_or xs (n - 1) 0 →
      take (n + b) (c ∷ remove (xs ++ ys) i)
      ≡ take n (c ∷ remove xs k) ++ take b (last ∷ remove ys j)
  far_out i j k last full some at past is =
      let left : List ℕ = remove ys j in
      let front : List ℕ = c ∷ take (n - 1) xs in
      let long : length front ≡ n = omega (
        arith,
        length-take-le (n - 1) xs (omega (arith, full)),
        some,
      ) in
      let lt : n - 1 < length xs = omega (arith, full, some) in
      let split : xs ≡ take (n - 1) xs ++ last ∷ [] =
      sym (take_all (n - 1 + 1) xs (omega (arith, full))) ∙ take_more xs (n - 1) 0 lt
      ∙ ap (λ z. take (n - 1) xs ++ z ∷ []) (sym is) in
      let out : remove (xs ++ ys) i ≡ xs ++ left =
      remove-append_right xs ys n i full (omega (arith, at))
      ∙ ap (λ z. xs ++ remove ys z) (omega (arith, at)) in
      let apart : c ∷ (xs ++ left) ≡ front ++ (last ∷ left) =
      ap (λ zs. c ∷ (zs ++ left)) split
      ∙ ap (λ zs. c ∷ zs) (append_assoc (take (n - 1) xs) (last ∷ []) left) in
      let near : take n (c ∷ remove xs k) ≡ front =
      ap (λ zs. take n (c ∷ zs)) (remove_past xs k (omega (arith, full, past)) ∙ split)
      ∙ take_at front (last ∷ []) n long in
      ap (λ zs. take (n + b) (c ∷ zs)) out ∙ ap (take (n + b)) apart
      ∙ ap (λ m. take (m + b) (front ++ (last ∷ left))) (sym long)
      ∙ take-append-add front (last ∷ left) b
      ∙ ap (λ zs. zs ++ take b (last ∷ left)) (sym near)
