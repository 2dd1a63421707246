-- A list whose first two blocks stand elsewhere, and the others in a rest, as a block is brought to
-- its front.
use Rattle.std.proofs.Common.{◌≡◌, ℕ, suc, ◌+◌, ◌-◌, ◌<◌, ◌≤◌, ◌^◌, false, eqb, List, [], ◌∷◌}
use Rattle.std.proofs.Common.{length, take, get_or, set, sym, ◌∙◌, ap, subst, arith, length-set}
use Rattle.std.proofs.Common.{get_or-set_same, get_or-set_other}
use Rattle.std.specs.List.{remove}
use Rattle.std.specs.Prelude.{replicate}
use Rattle.std.proofs.lemmas.Bool.{ne_eqb}
use Rattle.std.proofs.lemmas.List.{take_all, get_or-replicate, length-replicate, set-get_or}
use Rattle.profile_core.specs.profile.RecencyList.{index_of, is_in, is_front, move_to_front}
use Rattle.profile_core.specs.internal.set_lists.Moves.{is_second, standing_of, rest_standing_of}
use Rattle.profile_core.specs.internal.rows.Rows.{RowsValue, rows_by_set, row_for, with_row}
use Rattle.profile_core.specs.internal.rows.Rows.{blank_rows, list_in_row}
use Rattle.profile_core.specs.internal.set_lists.Lists.{IsBroughtInRow}
use Rattle.profile_core.specs.internal.rows.SplitRows.{split_row, split_rows, AreSplitRows}
use Rattle.profile_core.proofs.Elements.{all_set, all_same}
use Rattle.profile_core.proofs.RowsBySet.{HasRow, known_row, rows_blank, within, row_is}
use Rattle.profile_core.proofs.RowsBySet.{row_put}
use Rattle.profile_core.proofs.Shifting.{index_behind, other_front}

-- where a block stands behind the first two, neither of which it is
behind_two : (x y z : ℕ) (ys : List ℕ) → (y ≡ x → ⊥) → (z ≡ x → ⊥) →
    index_of x (y ∷ z ∷ ys) ≡ suc (suc (index_of x ys))
behind_two x y z ys first second = index_behind x y (z ∷ ys) first ∙
    ap suc (index_behind x z ys second)

in_two : (x y z : ℕ) (ys : List ℕ) → (y ≡ x → ⊥) → (z ≡ x → ⊥) →
    is_in x (y ∷ z ∷ ys) ≡ is_in x ys
in_two x y z ys first second = let a = ne_eqb y x first in let b = ne_eqb z x second in
    grind (arith, a, b)

-- A list of `len` blocks, of which y and z are the first two, and the others the first of `rest`.
module _ (x y z len : ℕ) (rest : List ℕ) (two : 2 ≤ len) where
  abbrev pub others : List ℕ
  others = take (len - 2) rest

  abbrev pub list : List ℕ
  list = take len (y ∷ z ∷ rest)

  list_is : list ≡ y ∷ z ∷ others
  list_is =
      let e : len ≡ suc (suc (len - 2)) = omega arith in
      ap (λ m. take m (y ∷ z ∷ rest)) e

  module _ (behind : is_front x list ≡ false) (further : is_second x list ≡ false) where
    first : y ≡ x → ⊥
    first = other_front x y (z ∷ others) (ap (is_front x) (sym list_is) ∙ behind)

    second : z ≡ x → ⊥
    second = other_front x z others (ap (is_second x) (sym list_is) ∙ further)

    pub second_other : eqb z x ≡ false
    second_other = ne_eqb z x second

    pub two_standing : rest_standing_of 2 x others ≡ standing_of x list
    two_standing = grind (arith, list_is, in_two, behind_two, first, second)

    -- the row once x is in front, and y the first number of it
    pub two_brought : (n len' : ℕ) (rest' : List ℕ) → 1 ≤ n → n ≤ 2 ^ 21 → length rest' ≡ n →
        2 ≤ len' → len' ≤ n + 2 →
        take (len' - 2) rest' ≡ take n (z ∷ remove others (index_of x others)) →
        IsBroughtInRow x list x (y ∷ rest') len'
    two_brought n len' rest' some small long some' fits' moved = record {
      some = omega (arith, some');
      row = record { small = omega (arith, long, small); fits = omega (arith, long, fits') };
      list_is =
          let e : len' ≡ suc (suc (len' - 2)) = omega (arith, some') in
          let size : length (y ∷ rest') + 1 ≡ suc (suc n) = omega (arith, long) in
          let gone : remove (y ∷ z ∷ others) (index_of x (y ∷ z ∷ others)) ≡
          y ∷ z ∷ remove others (index_of x others) =
          ap (remove (y ∷ z ∷ others)) (behind_two x y z others first second) in
          ap (λ m. take m (x ∷ y ∷ rest')) e
          ∙ ap (λ zs. x ∷ y ∷ zs) moved
          ∙ ap (λ m. take m (x ∷ y ∷ z ∷ remove others (index_of x others))) (sym size)
          ∙ ap (λ zs. take (length (y ∷ rest') + 1) (x ∷ zs)) (sym gone)
          ∙ ap (λ zs. take (length (y ∷ rest') + 1) (move_to_front x zs)) (sym list_is);
    }

-- a list of one block gets its second
pub one_brought : (x y n len : ℕ) (row rest : List ℕ) → len ≡ 1 →
    is_front x (take len (y ∷ row)) ≡ false → 1 ≤ n → n ≤ 2 ^ 21 → length rest ≡ n →
    IsBroughtInRow x (take len (y ∷ row)) x (y ∷ rest) 2
one_brought x y n len row rest one behind some small long =
    let list : take len (y ∷ row) ≡ y ∷ [] = ap (λ m. take m (y ∷ row)) one in
    let other : y ≡ x → ⊥ = other_front x y [] (sym (ap (is_front x) list) ∙ behind) in
    subst (λ xs. IsBroughtInRow x xs x (y ∷ rest) 2) (sym list) (record {
      some = omega arith;
      row = record { small = omega (arith, long, small); fits = omega (arith, long, some) };
      list_is =
          let size : length (y ∷ rest) + 1 ≡ suc (suc n) = omega (arith, long) in
          let gone : remove (y ∷ []) (index_of x (y ∷ [])) ≡ y ∷ [] =
          ap (remove (y ∷ [])) (index_behind x y [] other) in
          let short : take (suc (suc n)) (x ∷ y ∷ []) ≡ x ∷ y ∷ [] =
          take_all (suc (suc n)) (x ∷ y ∷ []) (omega (arith, some)) in
          sym (ap (λ zs. take (length (y ∷ rest) + 1) (x ∷ zs)) gone
          ∙ ap (λ m. take m (x ∷ y ∷ [])) size ∙ short);
    })

abbrev pub as_rows : List ℕ → RowsValue → RowsValue
as_rows firsts rests = record { stride = rests.stride + 1; rows = split_rows firsts rests.rows }

-- rows of zeros
module _ (m : ℕ) {firsts : List ℕ} {rests : RowsValue} (none : firsts ≡ replicate m 0)
    (blank : rests ≡ blank_rows m rests.stride) where
  count : length rests.rows ≡ m
  count = ap (λ v. length v.rows) blank ∙ length-replicate m (replicate rests.stride 0)

  rest_at : (k : ℕ) → k < m → get_or rests.rows k [] ≡ replicate rests.stride 0
  rest_at k lt = grind (arith, get_or-replicate)

  pub new_rows : as_rows firsts rests ≡ blank_rows m (rests.stride + 1)
  new_rows =
      let next : suc rests.stride ≡ rests.stride + 1 = omega arith in
      ap (λ rs. record { stride = rests.stride + 1; rows = rs })
      (ap (λ j. rows_by_set j (split_row firsts rests.rows)) count
      ∙ rows_blank m (rests.stride + 1) (split_row firsts rests.rows)
      (λ k lt. ap (λ x. x ∷ get_or rests.rows k []) (ap (λ fs. get_or fs k 0) none ∙ all_same m k 0)
      ∙ ap (λ (xs : List ℕ). 0 ∷ xs) (rest_at k lt)
      ∙ ap (λ j. replicate j 0) next))

-- what is known where the row of set k is asked for
pub record HasSplit (k : ℕ) (firsts : List ℕ) (rests rows : RowsValue) : Type 0 where
  pub sound : AreSplitRows firsts rests
  pub row : HasRow (rests.stride + 1) (length rests.rows) k (split_row firsts rests.rows) rows

pub known : {k : ℕ} {firsts : List ℕ} {rests rows : RowsValue} → AreSplitRows firsts rests →
    as_rows firsts rests ≡ rows → k < length rows.rows → HasSplit k firsts rests rows
known sound seen is_set = record { sound = sound; row = known_row seen is_set }

module _ {k : ℕ} {firsts : List ℕ} {rests rows : RowsValue} (r : HasSplit k firsts rests rows) where
  pub is_rest : k < length rests.rows
  is_rest = within r.row

  pub is_first : k < length firsts
  is_first = omega (arith, is_rest, r.sound.all)

  pub rest_long : length (row_for rests k) ≡ rests.stride
  rest_long = r.sound.long k is_rest

  -- the row written: another number in front of it, and another rest
  module _ {rests' : RowsValue} (new : List ℕ) (long : length new ≡ rests.stride)
      (put : rests' ≡ with_row rests k new) where
    pub written_sound : (y : ℕ) → AreSplitRows (set firsts k y) rests'
    written_sound y = subst (λ rs. AreSplitRows (set firsts k y) rs) (sym put) (record {
      all = length-set firsts k y ∙ r.sound.all ∙ sym (length-set rests.rows k new);
      long = λ j lt. all_set (λ i row. i < length rests.rows → length row ≡ rests.stride)
          rests.rows k new [] is_rest (λ _. long) (λ i _. r.sound.long i) j
          (omega (arith, lt, length-set rests.rows k new));
      some = r.sound.some;
      small = r.sound.small;
    })

    pub written_rows : {y first : ℕ} → first ≡ y →
        as_rows (set firsts k first) rests' ≡ with_row rows k (y ∷ new)
    written_rows {y} {first} is =
        ap (λ f. as_rows (set firsts k f) rests') is
        ∙ ap (as_rows (set firsts k y)) put
        ∙ ap (λ j. record {
          stride = rests.stride + 1;
          rows = rows_by_set j (split_row (set firsts k y) (set rests.rows k new));
        }) (length-set rests.rows k new)
        ∙ row_put r.row (split_row (set firsts k y) (set rests.rows k new)) (y ∷ new)
        (ap (λ x. x ∷ get_or (set rests.rows k new) k []) (get_or-set_same firsts k y 0 is_first)
        ∙ ap (λ xs. y ∷ xs) (get_or-set_same rests.rows k new [] is_rest))
        (λ j lt other. ap (λ x. x ∷ get_or (set rests.rows k new) j [])
        (get_or-set_other firsts k j y 0 other)
        ∙ ap (λ xs. get_or firsts j 0 ∷ xs) (get_or-set_other rests.rows k j new [] other))

  -- its first number alone
  rest_same : rests ≡ with_row rests k (row_for rests k)
  rest_same = ap (λ rs. record rests { rows = rs }) (sym (set-get_or rests.rows k []))

  pub first_written : {y first : ℕ} → first ≡ y →
      as_rows (set firsts k first) rests ≡ with_row rows k (y ∷ row_for rests k)
  first_written is = written_rows (row_for rests k) rest_long rest_same is

-- a list in a row, as the row and its front are given
pub brought_as : {x len front : ℕ} {list row row' : List ℕ} → front ≡ x → row' ≡ row →
    IsBroughtInRow x list x row len → IsBroughtInRow x list front row' len
brought_as {x} {len} {front} {list} {row} {row'} front_is row_is b =
    subst (λ f. IsBroughtInRow x list f row' len) (sym front_is)
    (subst (λ r. IsBroughtInRow x list x r len) (sym row_is) b)

-- set k's list has two blocks at least, y and z in front; x is neither
module _ {k : ℕ} {firsts : List ℕ} {rests rows : RowsValue} (r : HasSplit k firsts rests rows)
    (x y z len : ℕ) (second : z ≡ get_or firsts k 0) (two : 2 ≤ len)
    (behind : is_front x (list_in_row rows k y len) ≡ false)
    (further : is_second x (list_in_row rows k y len) ≡ false) where
  shape : list_in_row rows k y len ≡ list x y z len (row_for rests k) two
  shape = ap (λ (xs : List ℕ). take len (y ∷ xs))
      (row_is r.row ∙ ap (λ f. f ∷ row_for rests k) (sym second))

  is_behind : is_front x (list x y z len (row_for rests k) two) ≡ false
  is_behind = sym (ap (is_front x) shape) ∙ behind

  is_further : is_second x (list x y z len (row_for rests k) two) ≡ false
  is_further = sym (ap (is_second x) shape) ∙ further

  pub second_apart : eqb z x ≡ false
  second_apart = second_other x y z len (row_for rests k) two is_behind is_further

  pub rest_standing : rest_standing_of 2 x (take (len - 2) (row_for rests k)) ≡
      standing_of x (list_in_row rows k y len)
  rest_standing = grind (arith, two_standing, shape)

  pub rest_brought : (len' : ℕ) (rest' : List ℕ) → length rest' ≡ rests.stride → 2 ≤ len' →
      len' ≤ rests.stride + 2 →
      take (len' - 2) rest' ≡ take rests.stride (z ∷ remove (take (len - 2) (row_for rests k))
      (index_of x (take (len - 2) (row_for rests k)))) →
      IsBroughtInRow x (list_in_row rows k y len) x (y ∷ rest') len'
  rest_brought len' rest' long some fits moved =
      subst (λ xs. IsBroughtInRow x xs x (y ∷ rest') len') (sym shape)
      (two_brought x y z len (row_for rests k) two is_behind is_further rests.stride len' rest'
      r.sound.some r.sound.small long some fits moved)
