-- A list y ∷ ys that gets a block x in front, which is not its front already: where x stood, how
-- many comparisons find
-- that, and the row that holds the list then.
use Rattle.std.proofs.Common.{◌≡◌, ℕ, zero, suc, ◌+◌, ◌-◌, ◌<◌, ◌≤◌, Bool, true}
use Rattle.std.proofs.Common.{false, cond, eqb, ltb, List, [], ◌∷◌, ◌++◌, length, take, drop}
use Rattle.std.proofs.Common.{get_or, set, refl, sym, ◌∙◌, ap, arith, add-one, ◌^◌, length-take}
use Rattle.std.proofs.Common.{length-append, length-drop, length-set}
use Rattle.std.specs.List.{remove}
use Rattle.std.proofs.lemmas.Bool.Decides.{nat_tests}
use Rattle.std.proofs.lemmas.Bool.{ltb-true}
use Rattle.std.proofs.lemmas.List.{take_all, take_at, length-take-le}
use Rattle.cache_core.proofs.Lists.{list_any_is}
use Rattle.profile_core.specs.declared.rows.row.Shifted.TheVariants.{Found, Out}
use Rattle.profile_core.specs.profile.RecencyList.{index_of, is_front, move_to_front}
use Rattle.profile_core.specs.internal.set_lists.Moves.{is_second, shifted_of}
use Rattle.profile_core.specs.internal.set_lists.Lists.{IsBroughtInRow}
use Rattle.profile_core.proofs.Shifting.{other_front, index_behind, index-le, length-remove}
use Rattle.profile_core.proofs.Shifting.{remove_end}

-- the result of a pass: the distance of x, or, if x is not there, the last block
found_at : (b : Bool) (distance p last : ℕ) → Found distance ≡ cond b (Found p) (Out last) →
    (b ≡ true) × (distance ≡ p)
found_at true distance p last e = (refl, cc)
found_at false distance p last e = absurd (cc)

out_at : (b : Bool) (out p last : ℕ) → Out out ≡ cond b (Found p) (Out last) →
    (b ≡ false) × (out ≡ last)
out_at true out p last e = absurd (cc)
out_at false out p last e = (refl, cc)

pub absent_at : (b : Bool) (p n : ℕ) → b ≡ ltb p n → b ≡ false → p ≤ n → p ≡ n
absent_at b p n e out le = grind (arith, nat_tests)

module _ (x : ℕ) (xs : List ℕ) where
  pub shifted_index : (distance : ℕ) → Found distance ≡ shifted_of x xs →
      (distance ≡ index_of x xs) × (distance < length xs)
  shifted_index distance is = grind (arith, found_at, get_or, ltb-true, list_any_is)

  pub shifted_last : (last : ℕ) → Out last ≡ shifted_of x xs → (index_of x xs ≡ length xs) ×
      (last ≡ get_or xs (length xs - 1) 0)
  shifted_last last is = grind (arith, out_at, get_or, absent_at, list_any_is, index-le)

-- the block that fell out, put behind the others
put_last : (y h : ℕ) (rest : List ℕ) → h < length rest
    → take (suc h) (set (take h (y ∷ take h rest) ++ drop h rest) h
    (get_or (y ∷ take h rest) h 0)) ≡ y ∷ take h rest
put_last y h [] lt = absurd (omega arith)
put_last y zero (x ∷ xs) lt = refl
put_last y (suc h) (x ∷ xs) lt = ap (λ zs. y ∷ zs) (put_last x h xs (omega arith))

-- the places behind a front y, after its first h blocks were passed to bring x to the front
pub record IsShifted (x y h : ℕ) (rest after : List ℕ) : Type 0 where
  pub within : h ≤ length rest
  pub after_is : after ≡ take (length (take h rest))
      (remove (y ∷ take h rest) (index_of x (y ∷ take h rest)))

module _ {x y h : ℕ} {rest after : List ℕ} (s : IsShifted x y h rest after) where
  abbrev list : List ℕ
  list = y ∷ take h rest

  -- the others, once x is in front
  abbrev others : List ℕ
  others = remove list (index_of x list)

  pub size : length (take h rest) ≡ h
  size = length-take-le h rest s.within

  passed : after ≡ take h others
  passed = s.after_is ∙ ap (λ j. take j others) size

  pub after_long : length after ≡ h
  after_long = grind (arith, length-take, length-append, length-drop)

  -- as much of the row as before holds the list again
  row_kept : take h others ≡ take (length rest) others →
      take (suc h) (x ∷ (after ++ drop h rest)) ≡ take (length rest + 1) (x ∷ others)
  row_kept whole =
      ap (λ xs. x ∷ xs) (take_at after (drop h rest) h after_long ∙ passed ∙ whole) ∙
      sym (ap (λ j. take j (x ∷ others)) (add-one (length rest)))

  pub row_found : index_of x list ≤ h → take (suc h) (x ∷ (after ++ drop h rest)) ≡ take
      (length rest + 1) (move_to_front x list)
  row_found le = grind (arith, row_kept, length-remove, size, take_all)

  pub row_grown : (last : ℕ) → h < length rest → index_of x list ≡ length list →
      last ≡ get_or list (length list - 1) 0
      → take (suc (suc h)) (x ∷ set (after ++ drop h rest) h last) ≡ take (length rest + 1)
      (move_to_front x list)
  row_grown last lt absent out =
      let none : others ≡ list = ap (remove list) absent ∙ remove_end list (length list)
      (omega arith) in
      let at : length list - 1 ≡ h = omega (arith, size) in
      ap (λ xs. x ∷ take (suc h) (set (xs ++ drop h rest) h last)) (passed ∙ ap (take h) none)
      ∙ ap (λ v. x ∷ take (suc h) (set (take h list ++ drop h rest) h v))
      (out ∙ ap (λ j. get_or list j 0) at)
      ∙ ap (λ xs. x ∷ xs) (put_last y h rest lt ∙
      sym (take_all (length rest) list (omega (arith, size, lt))))
      ∙ sym (ap (λ j. take j (x ∷ list)) (add-one (length rest)))
      ∙ ap (λ xs. take (length rest + 1) (x ∷ xs)) (sym none)

  kept_long : length (after ++ drop h rest) ≡ length rest
  kept_long = omega (
    arith,
    length-append after (drop h rest),
    after_long,
    length-drop h rest,
    s.within,
  )

  -- the row of a list of h + 1 blocks, where x was found, and where it is new and the last block
  -- stays, one index on
  pub brought_found : (front distance : ℕ) → front ≡ x → length rest ≤ 2 ^ 22 →
      Found distance ≡ shifted_of x list
      → IsBroughtInRow x list front (after ++ drop h rest) (suc h)
  brought_found front distance is small found =
      let at = shifted_index x list distance found in
      record {
        some = omega arith;
        row = record {
          small = omega (arith, kept_long, small);
          fits =
              omega (arith, kept_long, s.within);
        };
        list_is =
            ap (λ f. take (suc h) (f ∷ (after ++ drop h rest))) is ∙
            row_found (omega (arith, at.0, at.1, size))
            ∙ ap (λ n. take (n + 1) (move_to_front x list)) (sym kept_long);
      }

  pub brought_grown : (front last len : ℕ) → front ≡ x → length rest ≤ 2 ^ 22 → h < length rest →
      len ≡ suc (suc h) → Out last ≡ shifted_of x list
      → IsBroughtInRow x list front (set (after ++ drop h rest) h last) len
  brought_grown front last len is small lt two_more out =
      let at = shifted_last x list last out in
      let long : length (set (after ++ drop h rest) h last) ≡ length rest =
      length-set (after ++ drop h rest) h last ∙ kept_long in
      record {
        some = omega (arith, two_more);
        row = record {
          small = omega (arith, long, small);
          fits =
              omega (arith, long, lt, two_more);
        };
        list_is =
            ap (λ f. take len (f ∷ set (after ++ drop h rest) h last)) is ∙
            ap (λ n. take n (x ∷ set (after ++ drop h rest) h last)) two_more
            ∙ row_grown last lt at.0 at.1 ∙
            ap (λ n. take (n + 1) (move_to_front x list)) (sym long);
      }

-- The first number of a row's list, or 0: it is the front f, which is 0 where the list is empty.
pub first_of_row : (len f : ℕ) (rest : List ℕ) → (len ≡ 0 → f ≡ 0) →
    f ≡ get_or (take len (f ∷ rest)) 0 0
first_of_row zero f rest blank = blank refl
first_of_row (suc len) f rest blank = refl

-- Whether x is the second of a row's list: by the first entry behind the front, where the list has
-- two blocks.
pub second_of_some : (x len f : ℕ) (rest : List ℕ) → 1 < len → 0 < length rest →
    eqb (get_or rest 0 0) x ≡ is_second x (take len (f ∷ rest))
second_of_some x zero f rest two some = absurd (omega (arith, two))
second_of_some x (suc zero) f rest two some = absurd (omega (arith, two))
second_of_some x (suc (suc len)) f [] two some = absurd (omega (arith, some))
second_of_some x (suc (suc len)) f (y ∷ rest) two some = refl

pub second_of_few : (x len f : ℕ) (rest : List ℕ) → len ≤ 1 →
    false ≡ is_second x (take len (f ∷ rest))
second_of_few x zero f rest few = refl
second_of_few x (suc zero) f rest few = refl
second_of_few x (suc (suc len)) f rest few = absurd (omega (arith, few))

-- The second block of a list in front: its distance, and the list then.
pub second_long : (x : ℕ) (xs : List ℕ) → is_second x xs ≡ true → 1 < length xs
second_long x [] second = absurd (cc)
second_long x (y ∷ []) second = absurd (cc)
second_long x (y ∷ z ∷ zs) second = omega arith

exchanged : (x y z : ℕ) (zs : List ℕ) → (y ≡ x → ⊥) → eqb z x ≡ true →
    move_to_front x (y ∷ z ∷ zs) ≡ x ∷ y ∷ zs
exchanged x y z zs ne second = grind (arith, index_behind)

exchanged_long : (x : ℕ) (xs : List ℕ) → is_front x xs ≡ false → is_second x xs ≡ true →
    length (move_to_front x xs) ≡ length xs
exchanged_long x [] other second = absurd (cc)
exchanged_long x (y ∷ []) other second = absurd (cc)
exchanged_long x (y ∷ z ∷ zs) other second =
    ap length (exchanged x y z zs (other_front x y (z ∷ zs) other) second)

exchanged_in : (x len f : ℕ) (rest : List ℕ) → 1 < len → 0 < length rest
    → is_front x (take len (f ∷ rest)) ≡ false → is_second x (take len (f ∷ rest)) ≡ true
    → take len (x ∷ set rest 0 f) ≡ move_to_front x (take len (f ∷ rest))
exchanged_in x zero f rest two some other second = absurd (omega (arith, two))
exchanged_in x (suc zero) f rest two some other second = absurd (omega (arith, two))
exchanged_in x (suc (suc len)) f [] two some other second = absurd (omega (arith, some))
exchanged_in x (suc (suc len)) f (y ∷ ys) two some other second =
    sym (exchanged x f y (take len ys) (other_front x f (y ∷ take len ys) other) second)

-- a row of some list that exchanges its first two blocks
pub row_exchanged : (x len f n : ℕ) (rest list : List ℕ) → list ≡ take len (f ∷ rest) →
    length list ≡ len → len ≤ n + 1 → length rest ≡ n
    → is_front x list ≡ false → is_second x list ≡ true → take len (x ∷ set rest 0 f) ≡ take (n + 1)
    (move_to_front x list)
row_exchanged x len f n rest list is size short long other second =
    grind (arith, second_long, exchanged_in, take_all, exchanged_long)
