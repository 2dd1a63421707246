-- A list that is passed once while each block moves one index on: what the pass finds, and the list
-- behind it.
use Rattle.std.proofs.Common.{◌≡◌, ℕ, zero, suc, ◌+◌, ◌-◌, ◌<◌, ◌≤◌, true, false, not, cond, eqb}
use Rattle.std.proofs.Common.{List, [], ◌∷◌, ◌++◌, length, take, drop, get_or, set, refl, sym, ◌∙◌}
use Rattle.std.proofs.Common.{ap, arith, add-one, one-add, append-nil, eq-eqb, below_more}
use Rattle.std.proofs.Common.{length-take, length-append, length-drop}
use Rattle.std.specs.List.{remove}
use Rattle.std.proofs.lemmas.Bool.{lt-ltb, le-ltb, ne_eqb, eqb-true, false≢true}
use Rattle.std.proofs.lemmas.List.{take_all, drop_all}
use Rattle.std.proofs.lemmas.List.Sums.{position_or_len_is, prefix_len-le-length}
use Rattle.cache_core.proofs.Lists.{list_any_is}
use Rattle.profile_core.specs.declared.rows.row.Shifted.TheVariants.{Found, Out}
use Rattle.profile_core.specs.profile.RecencyList.{index_of, is_in, is_front}
use Rattle.profile_core.specs.internal.set_lists.Moves.{shifted_of}

-- the list as it stands when i blocks of xs were passed, y in front: the block at i, and one step
pub passed_at : (y : ℕ) (xs : List ℕ) (i : ℕ) → i < length xs →
    get_or (take i (y ∷ xs) ++ drop i xs) i 0 ≡ get_or xs i 0
passed_at y [] i lt = absurd (omega arith)
passed_at y (x ∷ xs) zero lt = refl
passed_at y (x ∷ xs) (suc i) lt = passed_at x xs i (omega arith)

passed_suc : (y : ℕ) (xs : List ℕ) (i : ℕ) → i < length xs
    → set (take i (y ∷ xs) ++ drop i xs) i (get_or (y ∷ xs) i 0) ≡ take (suc i) (y ∷ xs) ++
    drop (suc i) xs
passed_suc y [] i lt = absurd (omega arith)
passed_suc y (x ∷ xs) zero lt = refl
passed_suc y (x ∷ xs) (suc i) lt = ap (λ zs. y ∷ zs) (passed_suc x xs i (omega arith))

pub passed_more : (y : ℕ) (xs : List ℕ) (i : ℕ) → i < length xs
    → set (take i (y ∷ xs) ++ drop i xs) i (get_or (y ∷ xs) i 0) ≡ take (i + 1) (y ∷ xs) ++
    drop (i + 1) xs
passed_more y xs i lt = passed_suc y xs i lt ∙ ap (λ j. take j (y ∷ xs) ++ drop j xs)
    (sym (add-one i))

-- the index of x, found or not
pub index_found : (x i : ℕ) (xs : List ℕ) → i < length xs →
    ((k : ℕ) → k < i → eqb (get_or xs k 0) x ≡ false) → get_or xs i 0 ≡ x → index_of x xs ≡ i
index_found x i xs lt others at = position_or_len_is (λ y. eqb y x) xs i 0 (omega arith) others
    (λ _. eq-eqb (get_or xs i 0) x at)

pub index_end : (x : ℕ) (xs : List ℕ) → ((k : ℕ) → k < length xs → eqb (get_or xs k 0) x ≡ false) →
    index_of x xs ≡ length xs
index_end x xs others = position_or_len_is (λ y. eqb y x) xs (length xs) 0 (omega arith) others
    (λ h. absurd (omega arith))

pub index-le : (x : ℕ) (xs : List ℕ) → index_of x xs ≤ length xs
index-le x xs = prefix_len-le-length (λ y. not (eqb y x)) xs

pub is_found : (x i : ℕ) (xs : List ℕ) → index_of x xs ≡ i → i < length xs → is_in x xs ≡ true
is_found x i xs at lt = list_any_is (λ y. eqb y x) xs ∙ lt-ltb (index_of x xs) (length xs)
    (omega arith)

pub is_absent : (x : ℕ) (xs : List ℕ) → index_of x xs ≡ length xs → is_in x xs ≡ false
is_absent x xs at = list_any_is (λ y. eqb y x) xs ∙ le-ltb (index_of x xs) (length xs) (omega arith)

pub shifted_found : (x i : ℕ) (xs : List ℕ) → index_of x xs ≡ i → i < length xs →
    Found i ≡ shifted_of x xs
shifted_found x i xs at lt = grind (arith, is_found)

pub shifted_out : (x last : ℕ) (xs : List ℕ) → index_of x xs ≡ length xs →
    last ≡ get_or xs (length xs - 1) 0 → Out last ≡ shifted_of x xs
shifted_out x last xs at is = grind (arith, is_absent)

-- the whole list after the pass
pub length-remove : (xs : List ℕ) (i : ℕ) → i < length xs → suc (length (remove xs i)) ≡ length xs
length-remove xs i lt = omega (
  arith,
  length-append (take i xs) (drop (suc i) xs),
  length-take i xs,
  length-drop (suc i) xs,
)

-- the beginning of a list that lacks a number
pub removed_take : (h p : ℕ) (xs : List ℕ) → p ≤ h →
    take h (remove xs p) ≡ remove (take (suc h) xs) p
removed_take zero zero [] le = refl
removed_take (suc h) zero [] le = refl
removed_take zero (suc p) [] le = absurd (omega arith)
removed_take (suc h) (suc p) [] le = refl
removed_take h zero (x ∷ xs) le = refl
removed_take zero (suc p) (x ∷ xs) le = absurd (omega arith)
removed_take (suc h) (suc p) (x ∷ xs) le = ap (λ ys. x ∷ ys) (removed_take h p xs (omega arith))

pub kept_take : (q : ℕ) (xs : List ℕ) → take q (remove xs q) ≡ take q xs
kept_take zero xs = refl
kept_take (suc q) [] = refl
kept_take (suc q) (x ∷ xs) = ap (λ ys. x ∷ ys) (kept_take q xs)

pub moved_found : (x y i : ℕ) (xs : List ℕ) → index_of x xs ≡ i → i < length xs
    → take (i + 1) (y ∷ xs) ++ drop (i + 1) xs ≡ take (length xs) (y ∷ remove xs (index_of x xs))
moved_found x y i xs at lt = grind (arith, add-one, take_all, length-remove)

pub remove_end : (xs : List ℕ) (n : ℕ) → length xs ≤ n → remove xs n ≡ xs
remove_end xs n le = ap (λ ys. ys ++ drop (suc n) xs) (take_all n xs le) ∙
    ap (λ ys. xs ++ ys) (drop_all (suc n) xs (omega arith)) ∙ append-nil xs

pub moved_out : (x y i : ℕ) (xs : List ℕ) → index_of x xs ≡ length xs → i ≡ length xs
    → take i (y ∷ xs) ++ drop i xs ≡ take (length xs) (y ∷ remove xs (index_of x xs))
moved_out x y i xs at e = grind (arith, drop_all, append-nil, remove_end)

-- a front that is another block
pub other_front : (x y : ℕ) (ys : List ℕ) → is_front x (y ∷ ys) ≡ false → y ≡ x → ⊥
other_front x y ys h e = absurd (false≢true (sym h ∙ eq-eqb y x e))

pub index_behind : (x y : ℕ) (ys : List ℕ) → (y ≡ x → ⊥) → index_of x (y ∷ ys) ≡ suc (index_of x ys)
index_behind x y ys ne = ap (λ b. cond (not b) (1 + index_of x ys) 0) (ne_eqb y x ne) ∙
    one-add (index_of x ys)

-- after i blocks of xs were passed: none of them is x, and each moved by one index, with y in front
pub record IsPassed (x y i carried : ℕ) (xs now : List ℕ) : Type 0 where
  pub within : i ≤ length xs
  pub others : (k : ℕ) → k < i → eqb (get_or xs k 0) x ≡ false
  pub carried_is : carried ≡ get_or (y ∷ xs) i 0
  pub now_is : now ≡ take i (y ∷ xs) ++ drop i xs

module _ {x y i carried : ℕ} {xs now : List ℕ} (p : IsPassed x y i carried xs now) where
  pub passed_long : length now ≡ length xs
  passed_long = ap length p.now_is ∙ omega (
    arith,
    length-append (take i (y ∷ xs)) (drop i xs),
    length-take i (y ∷ xs),
    length-drop i xs,
    p.within,
  )

  module _ (lt : i < length xs) where
    at_is : get_or now i 0 ≡ get_or xs i 0
    at_is = ap (λ l. get_or l i 0) p.now_is ∙ passed_at y xs i lt

    stepped : {put : ℕ} → put ≡ carried → set now i put ≡ take (i + 1) (y ∷ xs) ++ drop (i + 1) xs
    stepped put = grind (arith, passed_more)

    -- the next is another block
    pub passed_next : {other put : ℕ} → put ≡ carried → other ≡ get_or now i 0 →
        eqb (get_or now i 0) x ≡ false
        → IsPassed x y (i + 1) other xs (set now i put)
    passed_next put is ne = record {
      within = omega (arith, lt);
      others = below_more _ _ p.others (ap (λ z. eqb z x) (sym at_is) ∙ ne);
      carried_is = is ∙ at_is ∙ ap (λ j. get_or (y ∷ xs) j 0) (sym (add-one i));
      now_is = stepped put;
    }

    -- the next is x
    module _ (is : eqb (get_or now i 0) x ≡ true) (other : is_front x (y ∷ xs) ≡ false) where
      found_here : index_of x xs ≡ i
      found_here = index_found x i xs lt p.others (sym at_is ∙ eqb-true (get_or now i 0) x is)

      distance_is : index_of x (y ∷ xs) ≡ suc i
      distance_is = index_behind x y xs (other_front x y xs other) ∙ ap suc found_here

      pub found_shifted : {distance : ℕ} → distance ≡ i + 1 → Found distance ≡ shifted_of x (y ∷ xs)
      found_shifted {distance} next =
          shifted_found x distance (y ∷ xs) (omega (arith, distance_is, next))
          (omega (arith, lt, next))

      pub found_moved : {put : ℕ} → put ≡ carried → set now i put ≡ take (length xs)
          (remove (y ∷ xs) (index_of x (y ∷ xs)))
      found_moved put = grind (arith, stepped, moved_found, found_here, index_behind, other_front)

  -- all were passed
  module _ (end : length xs ≤ i) (other : is_front x (y ∷ xs) ≡ false) where
    nowhere : index_of x xs ≡ length xs
    nowhere = index_end x xs (λ k lt. p.others k (omega (arith, end, lt)))

    none_is : index_of x (y ∷ xs) ≡ suc (index_of x xs)
    none_is = index_behind x y xs (other_front x y xs other)

    pub nowhere_shifted : Out carried ≡ shifted_of x (y ∷ xs)
    nowhere_shifted = shifted_out x carried (y ∷ xs) (none_is ∙ ap suc nowhere)
        (p.carried_is ∙ ap (λ j. get_or (y ∷ xs) j 0) (omega (arith, end, p.within)))

    pub nowhere_moved : now ≡ take (length xs) (remove (y ∷ xs) (index_of x (y ∷ xs)))
    nowhere_moved = grind (arith, moved_out, none_is, nowhere, p.now_is, p.within)
