-- A walk over the places of a list in slots that have a block's mark: the marks from a place on are
-- the bits of a number.
use Rattle.std.proofs.Common.{◌≡◌, ℕ, zero, suc, ◌+◌, ◌-◌, ◌/◌, ◌^◌, ◌<◌, ◌≤◌, ◌∙◌, inl, inr}
use Rattle.std.proofs.Common.{Bool, true, false, List, [], ◌∷◌, take, drop, map, sym, ap}
use Rattle.std.proofs.Common.{arith, eqb, length, subst, get_or}
use Rattle.std.specs.Int.Count.{count_trailing_zeros}
use Rattle.std.specs.List.{position_or_len}
use Rattle.std.specs.Simd.Lanes.{mask_l}
use Rattle.std.proofs.lemmas.Bool.{false≢true, cases_lt, eq-eqb}
use Rattle.std.proofs.lemmas.List.{drop-map, get_or-drop, length-drop}
use Rattle.std.proofs.lemmas.List.Sums.{fails_before_first}
use Rattle.std.proofs.lemmas.Nat.{shr-shr, shr_le}
use Rattle.std.proofs.lemmas.Simd.{leading_from_mask_l, trailing_mask_l}
use Rattle.profile_core.specs.declared.set_lists.recency.Standing.TheVariants.{Behind, New}
use Rattle.profile_core.specs.profile.RecencyList.{is_in}
use Rattle.profile_core.specs.internal.set_lists.Moves.{standing_of}
use Rattle.profile_core.specs.Slots.{mark_of, ordered_numbers, IsOrder}
use Rattle.profile_core.proofs.slots.SlotLemmas.{length-ordered_numbers, ordered_numbers_at}
use Rattle.profile_core.proofs.slots.SlotLemmas.{found_at, found_nowhere, standing_found}
use Rattle.profile_core.proofs.slots.SlotLemmas.{standing_new}
use Rattle.profile_core.proofs.slots.SlotLemmas.{absent_to, absent_at}

mask_half : (m : Bool) (ms : List Bool) → mask_l (m ∷ ms) / 2 ^ 1 ≡ mask_l ms
mask_half true ms = omega arith
mask_half false ms = omega arith

-- the bits from one on are those of the lanes from there on
pub mask_drop : (k : ℕ) (ms : List Bool) → mask_l ms / 2 ^ k ≡ mask_l (drop k ms)
mask_drop zero ms = omega arith
mask_drop (suc k) [] = omega (arith, shr_le 0 (suc k))
mask_drop (suc k) (m ∷ ms) =
    let one : suc k ≡ 1 + k = omega arith in
    ap (λ j. mask_l (m ∷ ms) / 2 ^ j) one ∙ sym (shr-shr (mask_l (m ∷ ms)) 1 k) ∙
    ap (λ n. n / 2 ^ k) (mask_half m ms) ∙ mask_drop k ms

pub marks_from : (mark k : ℕ) (marks : List ℕ) → mask_l (map (λ m. eqb m mark) marks) / 2 ^ k ≡
    mask_l (map (λ m. eqb m mark) (drop k marks))
marks_from mark k marks = grind (arith, mask_drop, drop-map)

-- a walk that has come to a place: no block before it is x
pub record CameTo (marks slots blocks : List ℕ) (len x place left : ℕ) : Type 0 where
  pub order : IsOrder marks slots blocks
  pub most : len ≤ 16
  pub left_is : left ≡ mask_l (map (λ m. eqb m (mark_of x)) (drop place marks))
  pub absent : is_in x (take place (ordered_numbers slots blocks len)) ≡ false

module _ {marks slots blocks : List ℕ} {len x place left : ℕ}
    (c : CameTo marks slots blocks len x place left) where
  abbrev list : List ℕ
  list = ordered_numbers slots blocks len

  -- the next place with a mark, and how many marks are left out
  abbrev next : ℕ
  next = place + count_trailing_zeros 64 left

  fits : len ≤ length slots
  fits = omega (arith, c.order.order_len, c.most)

  long : length list ≡ len
  long = length-ordered_numbers slots blocks len fits

  -- none of the next blocks is x whose marks differ
  absent_past : (n : ℕ) → n ≤ position_or_len (λ m. eqb m (mark_of x)) (drop place marks) →
      is_in x (take (place + n) list) ≡ false
  absent_past n le = absent_to x (place + n) list (λ k h lt e. elim (cases_lt k place) [
    | inl near ↦ absent_at x place k list c.absent near lt e
    | inr far ↦
        (let within : k < len = omega (arith, long) in
        let here : place + (k - place) ≡ k = omega arith in
        let same : get_or (drop place marks) (k - place) 0 ≡ mark_of x =
        get_or-drop place marks (k - place) 0 ∙ ap (λ j. get_or marks j 0) here
        ∙ c.order.marked k (omega (arith, within, c.most))
        ∙ ap mark_of (sym (ordered_numbers_at slots blocks len k fits within) ∙ e) in
        absurd (false≢true (sym (fails_before_first (λ m. eqb m (mark_of x)) (drop place marks)
        (k - place) 0 (omega arith))
        ∙ eq-eqb (get_or (drop place marks) (k - place) 0) (mark_of x) same)))
  ])

  -- a walk that has come to the end
  new_to : (n : ℕ) → len ≤ n → is_in x (take n list) ≡ false → New len ≡ standing_of x list
  new_to n le none = standing_new x len list long (found_nowhere x list (λ k h e.
      absent_at x n k list none (omega (arith, long)) h e))

  pub new_unmarked : left ≡ 0 → New len ≡ standing_of x list
  new_unmarked none =
      let all : position_or_len (λ m. eqb m (mark_of x)) (drop place marks) ≡
      length (drop place marks) =
      leading_from_mask_l (λ m. eqb m (mark_of x)) (drop place marks) (sym c.left_is ∙ none) in
      new_to (place + length (drop place marks))
      (omega (arith, length-drop place marks, c.order.marks_len, c.most))
      (absent_past (length (drop place marks)) (omega (arith, all)))

  -- the marks that are left behind n more
  pub left_behind : (n : ℕ) →
      left / 2 ^ n / 2 ≡ mask_l (map (λ m. eqb m (mark_of x)) (drop (place + n + 1) marks))
  left_behind n =
      let all : ℕ = mask_l (map (λ m. eqb m (mark_of x)) marks) in
      ap (λ b. b / 2 ^ n / 2 ^ 1) (c.left_is ∙ sym (marks_from (mark_of x) place marks))
      ∙ ap (λ b. b / 2 ^ 1) (shr-shr all place n) ∙ shr-shr all (place + n) 1
      ∙ marks_from (mark_of x) (place + n + 1) marks

  module _ (some : 0 < left) where
    -- how many places come before the next with the mark
    others_are : count_trailing_zeros 64 left ≡
        position_or_len (λ m. eqb m (mark_of x)) (drop place marks)
    others_are =
        ap (count_trailing_zeros 64) c.left_is ∙
        trailing_mask_l (λ m. eqb m (mark_of x)) 64 (drop place marks)
        (omega (arith, length-drop place marks, c.order.marks_len))
        (subst (λ n. 0 < n) c.left_is some)

    -- the blocks before it
    absent_before : is_in x (take next list) ≡ false
    absent_before = absent_past (count_trailing_zeros 64 left) (omega (arith, others_are))

    pub new_past : len ≤ next → New len ≡ standing_of x list
    new_past le = new_to next le absent_before

    -- the next block with the mark is x, or the walk goes on behind it
    pub found_marked : next < len → get_or blocks (get_or slots next 0) 0 ≡ x →
        Behind next ≡ standing_of x list
    found_marked lt at =
        let within : next < length list = omega (arith, long) in
        standing_found x next list (found_at x next list within
        (λ k h e. absent_at x next k list absent_before h (omega arith) e)
        (ordered_numbers_at slots blocks len next fits lt ∙ at)) within

    pub absent_behind : next < len → (get_or blocks (get_or slots next 0) 0 ≡ x → ⊥) →
        is_in x (take (next + 1) list) ≡ false
    absent_behind lt other = absent_to x (next + 1) list (λ k h le e. elim (cases_lt k next) [
      | inl near ↦ absent_at x next k list absent_before near le e
      | inr far ↦ (let here : k ≡ next = omega arith in
          other (sym (ordered_numbers_at slots blocks len next fits lt) ∙
          ap (λ j. get_or list j 0) (sym here) ∙ e))
    ])
