-- Numbers in slots: an order of the slots, and one of them brought to the front of it.
use Rattle.std.proofs.Common.{rules}
use Rattle.std.proofs.Common.{◌≡◌, ℕ, zero, suc, ◌<◌, ◌≤◌, inl, inr, cond}
use Rattle.std.proofs.Common.{false, eqb, leb, ◌-◌, List, [], ◌∷◌, length, take, get_or, map}
use Rattle.std.proofs.Common.{set, refl, sym, ◌∙◌, ap, subst, arith, w8, replicate}
use Rattle.std.proofs.Common.{get_or-set_same, get_or-set_other, length-take}
use Rattle.std.proofs.lemmas.Bool.Decides.{nat_tests}
use Rattle.std.proofs.lemmas.Bool.{cases_lt, ne_eqb, eq-eqb}
use Rattle.std.proofs.lemmas.List.Folds.{list_any_at}
use Rattle.std.proofs.lemmas.List.{get_or_past, ext_get_or, length-map, length-take-le, get_or-take}
use Rattle.std.proofs.lemmas.List.{get_or-map, length-set, take-take, take-map}
use Rattle.std.proofs.lemmas.List.Edits.{get_or-remove_below, get_or-remove_above}
use Rattle.std.proofs.lemmas.Simd.{swz_l, put_chunk_whole}
use Rattle.std.specs.Simd.Lanes.{sel_l, top, zip2, put_chunk}
use Rattle.std.specs.List.{remove}
use Rattle.profile_core.specs.declared.set_lists.recency.Standing.TheVariants.{Behind, New}
use Rattle.profile_core.specs.declared.slots.TheConstants.{TURNS, FIRST_LANE}
use Rattle.profile_core.specs.profile.RecencyList.{index_of, is_in}
use Rattle.profile_core.specs.internal.set_lists.Moves.{standing_of}
use Rattle.profile_core.specs.Slots.{mark_of, ordered_numbers, IsOrder}
use Rattle.profile_core.proofs.Elements.{all_same}
use Rattle.profile_core.proofs.Shifting.{index_found, index_end, is_found, is_absent}
use Rattle.profile_core.proofs.Shifting.{length-remove}

-- the length of a list, and its block at an index
pub length-ordered_numbers : (order numbers : List ℕ) (len : ℕ) → len ≤ length order →
    length (ordered_numbers order numbers len) ≡ len
length-ordered_numbers order numbers len le =
    length-map (take len order) (λ s. get_or numbers s 0) ∙
    length-take-le len order le

pub ordered_numbers_at : (order numbers : List ℕ) (len k : ℕ) → len ≤ length order → k < len →
    get_or (ordered_numbers order numbers len) k 0 ≡ get_or numbers (get_or order k 0) 0
ordered_numbers_at order numbers len k le lt =
    get_or-map (λ s. get_or numbers s 0) (take len order) k 0 0
    (omega (arith, length-take-le len order le))
    ∙ ap (λ s. get_or numbers s 0) (get_or-take len order k 0 lt)

-- the numbers in the first slots
pub ordered_numbers_take : (order numbers : List ℕ) (n m : ℕ) → n ≤ m →
    ordered_numbers order numbers n ≡ take n (ordered_numbers order numbers m)
ordered_numbers_take order numbers n m le =
    ap (map (λ s. get_or numbers s 0)) (sym (take-take n m order le)) ∙
    sym (take-map (λ s. get_or numbers s 0) n (take m order))

-- where a block is found, and where it is not
pub found_at : (x p : ℕ) (xs : List ℕ) → p < length xs →
    ((k : ℕ) → k < p → get_or xs k 0 ≡ x → ⊥) → get_or xs p 0 ≡ x → index_of x xs ≡ p
found_at x p xs lt others at = grind (arith, index_found, ne_eqb)

pub found_nowhere : (x : ℕ) (xs : List ℕ) → ((k : ℕ) → k < length xs → get_or xs k 0 ≡ x → ⊥) →
    index_of x xs ≡ length xs
found_nowhere x xs others = index_end x xs (λ k h. ne_eqb (get_or xs k 0) x (others k h))

pub standing_found : (x p : ℕ) (xs : List ℕ) → index_of x xs ≡ p → p < length xs →
    Behind p ≡ standing_of x xs
standing_found x p xs at lt = grind (arith, is_found)

pub standing_new : (x n : ℕ) (xs : List ℕ) → length xs ≡ n → index_of x xs ≡ length xs →
    New n ≡ standing_of x xs
standing_new x n xs long at = grind (arith, is_absent)

-- a list without x, as far as n
pub absent_to : (x n : ℕ) (xs : List ℕ) →
    ((k : ℕ) → k < n → k < length xs → get_or xs k 0 ≡ x → ⊥) → is_in x (take n xs) ≡ false
absent_to x n xs others = grind (arith, is_absent, found_nowhere, get_or-take, length-take)

pub absent_at : (x n k : ℕ) (xs : List ℕ) → is_in x (take n xs) ≡ false → k < n → k < length xs →
    get_or xs k 0 ≡ x → ⊥
absent_at x n k xs none lt le at = grind (arith, length-take, list_any_at, eq-eqb, get_or-take)

-- where the entry at k stood before that at p came to the front
abbrev source : ℕ → ℕ → ℕ
source p k = cond (eqb k 0) p (cond (leb k p) (k - 1) k)

source_near : (p k : ℕ) → k < p → source p (suc k) ≡ k
source_near p k lt = grind (arith, nat_tests)

source_far : (p k : ℕ) → p ≤ k → source p (suc k) ≡ suc k
source_far p k le = grind (arith, nat_tests)

source-lt : (p k n : ℕ) → p < n → k < n → source p k < n
source-lt p k n a b = grind (arith, nat_tests)

-- no two entries stood at one place
source_once : (p i k : ℕ) → source p i ≡ source p k → i ≡ k
source_once p i k e = grind (arith, nat_tests)

turned_at : (p k : ℕ) (xs : List ℕ) → p < length xs →
    get_or (get_or xs p 0 ∷ remove xs p) k 0 ≡ get_or xs (source p k) 0
turned_at p zero xs lt = refl
turned_at p (suc k) xs lt = elim (cases_lt k p) [
  | inl near ↦ get_or-remove_below xs p 0 k near lt ∙
      ap (λ j. get_or xs j 0) (sym (source_near p k near))
  | inr far ↦ get_or-remove_above xs p 0 k far lt ∙
      ap (λ j. get_or xs j 0) (omega (arith, source_far p k far))
]

-- sixteen lanes one by one
abbrev sixteen : List ℕ → List ℕ
sixteen xs = get_or xs 0 0 ∷ get_or xs 1 0 ∷ get_or xs 2 0 ∷ get_or xs 3 0 ∷ get_or xs 4 0 ∷
    get_or xs 5 0 ∷ get_or xs 6 0 ∷ get_or xs 7 0 ∷ get_or xs 8 0 ∷ get_or xs 9 0 ∷ get_or xs 10 0 ∷
    get_or xs 11 0 ∷ get_or xs 12 0 ∷ get_or xs 13 0 ∷ get_or xs 14 0 ∷ get_or xs 15 0 ∷ []

-- what holds of each number below another
abbrev Each : ℕ → (ℕ → Type 0) → Type 0
Each zero P = Unit
Each (suc n) P = P 0 × Each n (λ k. P (suc k))

each_below : (n : ℕ) (P : ℕ → Type 0) → Each n P → (k : ℕ) → k < n → P k
each_below zero P all k lt = absurd (omega arith)
each_below (suc n) P all zero lt = all.0
each_below (suc n) P all (suc k) lt = each_below n (λ j. P (suc j)) all.1 k (omega arith)

sixteen_at : (xs : List ℕ) (k : ℕ) → k < 16 → get_or xs k 0 ≡ get_or (sixteen xs) k 0
sixteen_at xs = let P : ℕ → Type 0 = λ k. get_or xs k 0 ≡ get_or (sixteen xs) k 0 in
    each_below 16 P (search rules)

is_sixteen : (xs : List ℕ) → length xs ≡ 16 → xs ≡ sixteen xs
is_sixteen xs long = ext_get_or 0 xs (sixteen xs) long (λ k lt. sixteen_at xs k (omega arith))

-- the lanes once the one at p has come to the front
abbrev pub turned : ℕ → List ℕ → List ℕ
turned p xs = get_or xs p 0 ∷ remove xs p

-- the slot of place p is written, and comes to the front
module _ (p : ℕ) (marks order numbers : List ℕ) (o : IsOrder marks order numbers) (lt : p < 16)
  where
    abbrev slot : ℕ
    slot = get_or order p 0

    in_order : p < length order
    in_order = omega (arith, o.order_len, lt)

    pub turned_long : length (turned p order) ≡ 16
    turned_long = length-remove order p in_order ∙ o.order_len

    -- where the entry at k of the others stood
    behind_lt : (k : ℕ) → suc k < 16 → source p (suc k) < 16
    behind_lt k h = source-lt p (suc k) 16 lt h

    behind_not : (k : ℕ) → source p (suc k) ≡ p → ⊥
    behind_not k e = absurd (omega (arith, source_once p (suc k) 0 e))

    -- `entries` are one for each slot, which is written with v
    module _ (entries : List ℕ) (long : length entries ≡ 16) (v : ℕ) where
      abbrev written : List ℕ
      written = set entries slot v

      in_entries : slot < length entries
      in_entries = omega (arith, long, o.within p)

      front_entry : get_or written slot 0 ≡ v
      front_entry = get_or-set_same entries slot v 0 in_entries

      other_entry : (k : ℕ) → suc k < 16 →
          get_or written (get_or order (source p (suc k)) 0) 0 ≡
          get_or entries (get_or order (source p (suc k)) 0) 0
      other_entry k h = get_or-set_other entries slot (get_or order (source p (suc k)) 0) v 0
          (λ e. behind_not k (o.once (source p (suc k)) p (behind_lt k h) lt e))

      whole_long : length (ordered_numbers order entries 16) ≡ 16
      whole_long = length-ordered_numbers order entries 16 (omega (arith, o.order_len))

      put_at : (k : ℕ) → k < 16 → get_or (ordered_numbers (turned p order) written 16) k 0 ≡
          get_or (v ∷ remove (ordered_numbers order entries 16) p) k 0
      put_at zero h = ordered_numbers_at (turned p order) written 16 zero
          (omega (arith, turned_long)) h ∙ front_entry
      put_at (suc k) h =
          ordered_numbers_at (turned p order) written 16 (suc k) (omega (arith, turned_long)) h
          ∙ ap (λ s. get_or written s 0) (turned_at p (suc k) order in_order)
          ∙ other_entry k h
          ∙ sym (ordered_numbers_at order entries 16 (source p (suc k)) (omega (arith, o.order_len))
          (behind_lt k h))
          ∙ sym (turned_at p (suc k) (ordered_numbers order entries 16)
          (omega (arith, whole_long, lt)))

      pub put_entry : ordered_numbers (turned p order) written 16 ≡
          v ∷ remove (ordered_numbers order entries 16) p
      put_entry =
          let all : length (ordered_numbers (turned p order) written 16) ≡ 16 =
          length-ordered_numbers (turned p order) written 16 (omega (arith, turned_long)) in
          ext_get_or 0 (ordered_numbers (turned p order) written 16)
          (v ∷ remove (ordered_numbers order entries 16) p)
          (all ∙ sym (length-remove (ordered_numbers order entries 16) p
          (omega (arith, whole_long, lt)) ∙
          whole_long))
          (λ k h. put_at k (omega (arith, h, all)))

    -- number y and its mark
    module _ (y mark : ℕ) (is : mark ≡ mark_of y) where
      abbrev numbers_then : List ℕ
      numbers_then = set numbers slot y

      in_marks : p < length marks
      in_marks = omega (arith, o.marks_len, lt)

      marked_at : (k : ℕ) → k < 16 → get_or (mark ∷ remove marks p) k 0 ≡
          mark_of (get_or numbers_then (get_or (turned p order) k 0) 0)
      marked_at zero h = is ∙ ap mark_of (sym (front_entry numbers o.numbers_len y))
      marked_at (suc k) h =
          turned_at p (suc k) marks in_marks
          ∙ o.marked (source p (suc k)) (behind_lt k h)
          ∙ ap mark_of (sym (other_entry numbers o.numbers_len y k h))
          ∙ ap (λ s. mark_of (get_or numbers_then s 0)) (sym (turned_at p (suc k) order in_order))

      pub put_order : IsOrder (mark ∷ remove marks p) (turned p order) numbers_then
      put_order = record {
        marks_len = length-remove marks p in_marks ∙ o.marks_len;
        order_len = turned_long;
        numbers_len = length-set numbers slot y ∙ o.numbers_len;
        within = λ k. subst (λ s. s < 16) (sym (turned_at p k order in_order))
            (o.within (source p k));
        once = λ i k a b e. source_once p i k (o.once (source p i) (source p k)
            (source-lt p i 16 lt a) (source-lt p k 16 lt b)
            (sym (turned_at p i order in_order) ∙ e ∙ turned_at p k order in_order));
        marked = marked_at;
      }

      pub put_numbers : ordered_numbers (turned p order) numbers_then 16 ≡
          y ∷ remove (ordered_numbers order numbers 16) p
      put_numbers = put_entry numbers o.numbers_len y

-- the order of no block
abbrev pub counted_slots : List ℕ
counted_slots = 0 ∷ 1 ∷ 2 ∷ 3 ∷ 4 ∷ 5 ∷ 6 ∷ 7 ∷ 8 ∷ 9 ∷ 10 ∷ 11 ∷ 12 ∷ 13 ∷ 14 ∷ 15 ∷ []

counted_at : (k : ℕ) → k < 16 → get_or counted_slots k 0 ≡ k
counted_at = let P : ℕ → Type 0 = λ k. get_or counted_slots k 0 ≡ k in
    each_below 16 P (search rules)

counted_within : (k : ℕ) → get_or counted_slots k 0 < 16
counted_within k = grind (arith, counted_at, get_or_past)

mark_zero : 0 ≡ mark_of 0
unfolding mark_of
mark_zero = refl

blank_marked : (k : ℕ) → k < 16 →
    get_or (replicate 16 0) k 0 ≡ mark_of (get_or (replicate 16 0) (get_or counted_slots k 0) 0)
blank_marked k lt =
    all_same {A = ℕ} 16 k 0 ∙ mark_zero ∙ ap mark_of (sym (all_same {A = ℕ} 16 (get_or
    counted_slots k 0) 0))

-- slots that are all 0
pub blank_order : IsOrder (replicate 16 0) counted_slots (replicate 16 0)
blank_order = record {
  marks_len = refl;
  order_len = refl;
  numbers_len = refl;
  within = counted_within;
  once = λ i k a b e. sym (counted_at i a) ∙ e ∙ counted_at k b;
  marked = blank_marked;
}

-- the same with another lane in front
with_sixteen : (x : ℕ) (xs : List ℕ) (p : ℕ) → p < 16 → sel_l (map (top 7)
    (zip2 (λ a b. cond (eqb a b) 255 0) FIRST_LANE (replicate 16 255))) (replicate 16 x)
    (swz_l w8 16 (sixteen xs) 0 (get_or TURNS p [])) ≡ x ∷ remove (sixteen xs) p
with_sixteen x xs =
    let P : ℕ → Type 0 = λ p. sel_l (map (top 7)
    (zip2 (λ a b. cond (eqb a b) 255 0) FIRST_LANE (replicate 16 255))) (replicate 16 x)
    (swz_l w8 16 (sixteen xs) 0 (get_or TURNS p [])) ≡ x ∷ remove (sixteen xs) p in
    each_below 16 P (search rules)

turned_with_is : (x : ℕ) (xs : List ℕ) (p : ℕ) → p < 16 → length xs ≡ 16 → sel_l (map (top 7)
    (zip2 (λ a b. cond (eqb a b) 255 0) FIRST_LANE (replicate 16 255))) (replicate 16 x)
    (swz_l w8 16 xs 0 (get_or TURNS p [])) ≡ x ∷ remove xs p
turned_with_is x xs p lt long =
    let P : List ℕ → Type 0 = λ ys. sel_l (map (top 7)
    (zip2 (λ a b. cond (eqb a b) 255 0) FIRST_LANE (replicate 16 255))) (replicate 16 x)
    (swz_l w8 16 ys 0 (get_or TURNS p [])) ≡ x ∷ remove ys p in
    subst P (sym (is_sixteen xs long)) (with_sixteen x xs p lt)

pub put_with_is : (x : ℕ) (xs : List ℕ) (p : ℕ) → p < 16 → length xs ≡ 16 → put_chunk 0 xs
    (sel_l (map (top 7) (zip2 (λ a b. cond (eqb a b) 255 0) FIRST_LANE (replicate 16 255)))
    (replicate 16 x) (swz_l w8 16 xs 0 (get_or TURNS p []))) ≡ x ∷ remove xs p
put_with_is x xs p lt long =
    let is = turned_with_is x xs p lt long in
    put_chunk_whole xs _ (sym (ap length is ∙ length-remove xs p (omega (arith, long)))) ∙ is
