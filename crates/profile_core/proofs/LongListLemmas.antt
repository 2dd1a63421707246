-- The lists of all sets, each in two parts: the first blocks, and those behind them.
use Rattle.std.proofs.Common.{◌≡◌, ◌≢◌, ℕ, zero, suc, ◌+◌, ◌*◌, ◌<◌, ◌≤◌, ◌^◌, ◌⊎◌, true}
use Rattle.std.proofs.Common.{false, List, [], ◌∷◌, ◌++◌, length, take, get_or, set, refl, sym, ◌∙◌}
use Rattle.std.proofs.Common.{ap, subst, arith, append-nil, length-append, length-set}
use Rattle.std.proofs.Common.{get_or-set_same, get_or-set_other}
use Rattle.std.specs.Prelude.{◌↔◌, replicate, map}
use Rattle.std.proofs.Math.Nat.{suc-mul, mul-le-mul_right}
use Rattle.std.specs.List.{sum_by}
use Rattle.std.proofs.lemmas.List.{take_all, length-replicate, length-map, set-get_or}
use Rattle.std.proofs.lemmas.List.Sums.{sum_by-cons}
use Rattle.deep_list.specs.Deep.{Deep, IsOnce}
use Rattle.profile_core.specs.profile.RecencyList.{is_in, is_front, move_to_front}
use Rattle.profile_core.specs.internal.set_lists.Moves.{is_second}
use Rattle.profile_core.specs.internal.set_lists.Lists.{Lists, lists_after_bring}
use Rattle.profile_core.proofs.Elements.{all_set, all_same}
use Rattle.profile_core.proofs.Shifting.{length-remove}
use Rattle.profile_core.specs.internal.set_lists.LongLists.{whole_lists, nothing, rest_of}
use Rattle.profile_core.specs.internal.set_lists.LongLists.{empty_deep, AreSplit}
use Rattle.profile_core.proofs.ListParts.{near_moved, once_moved, index-lt}
use Rattle.profile_core.proofs.ListParts.{length-remove_le, length-take_le, none_of}
use Rattle.profile_core.proofs.ListParts.{front-append, first-append, some-append}
use Rattle.profile_core.proofs.ListParts.{second-append}

-- the list of set k
pub joined_at : {V : Type 0} (near : List (List ℕ)) (far : List (Deep V)) (k : ℕ) →
    k < length near → get_or (whole_lists near far) k [] ≡ get_or near k [] ++ rest_of far k
joined_at [] far k lt = absurd (omega arith)
joined_at (xs ∷ near) [] k lt = sym (append-nil (get_or (xs ∷ near) k []))
joined_at (xs ∷ near) (d ∷ far) zero lt = refl
joined_at (xs ∷ near) (d ∷ far) (suc k) lt = joined_at near far k (omega arith)

pub length-joined : {V : Type 0} (near : List (List ℕ)) (far : List (Deep V)) →
    length (whole_lists near far) ≡ length near
length-joined [] far = refl
length-joined (xs ∷ near) [] = refl
length-joined (xs ∷ near) (d ∷ far) = ap suc (length-joined near far)

-- the list of set k written anew
pub joined-set : {V : Type 0} (near : List (List ℕ)) (far : List (Deep V)) (k : ℕ) (xs : List ℕ)
    (d : Deep V) → k < length near → k < length far
    → whole_lists (set near k xs) (set far k d) ≡ set (whole_lists near far) k (xs ++ d.blocks)
joined-set [] far k xs d lt within = absurd (omega arith)
joined-set (ys ∷ near) [] k xs d lt within = absurd (omega (arith, within))
joined-set (ys ∷ near) (e ∷ far) zero xs d lt within = refl
joined-set (ys ∷ near) (e ∷ far) (suc k) xs d lt within =
    ap (λ ls. (ys ++ e.blocks) ∷ ls) (joined-set near far k xs d (omega arith)
    (omega (arith, within)))

-- what is known of set k's list where it is asked for
pub record HasWhole {V : Type 0} (near : Lists) (beyond : ℕ) (far : List (Deep V)) (k : ℕ)
    (v : Lists) : Type 0 where
  pub sound : AreSplit near beyond far
  pub seen : record { depth = near.depth + beyond; lists = whole_lists near.lists far } ≡ v
  pub is_set : k < length v.lists

pub known : {V : Type 0} {near : Lists} {beyond : ℕ} {far : List (Deep V)} {k : ℕ} {v : Lists} →
    AreSplit near beyond far →
    record { depth = near.depth + beyond; lists = whole_lists near.lists far } ≡ v →
    k < length v.lists → HasWhole near beyond far k v
known sound seen is_set = record { sound = sound; seen = seen; is_set = is_set }

-- the lists once block x came to the front of set k's
pub record IsRenewed {V : Type 0} (near : Lists) (beyond : ℕ) (far : List (Deep V)) (k x : ℕ)
    (v : Lists) : Type 0 where
  pub sound : AreSplit near beyond far
  pub seen : record { depth = near.depth + beyond; lists = whole_lists near.lists far } ≡
      lists_after_bring v k x

module _ {V : Type 0} {near : Lists} {beyond : ℕ} {far : List (Deep V)} {k : ℕ} {v : Lists}
    (r : HasWhole near beyond far k v) where
  abbrev pub row : List ℕ
  row = get_or near.lists k []

  abbrev pub rest : List ℕ
  rest = rest_of far k

  abbrev pub list : List ℕ
  list = get_or v.lists k []

  pub within : k < length near.lists
  within = omega (
    arith,
    r.is_set,
    ap (λ w. length w.lists) r.seen,
    length-joined near.lists far,
  )

  pub within_far : k < length far
  within_far = omega (arith, within, r.sound.far_len)

  pub list_is : list ≡ row ++ rest
  list_is = ap (λ w. get_or w.lists k []) (sym r.seen) ∙ joined_at near.lists far k within

  -- no block stands behind a row that is not full
  pub rest_behind : length row < near.depth → rest ≡ []
  rest_behind short = none_of rest (λ some. absurd (omega (arith, r.sound.full k some, short)))

  rest_two : length row < 2 → rest ≡ []
  rest_two short = rest_behind (omega (arith, short, r.sound.two))

  pub front_is : (x : ℕ) → is_front x row ≡ is_front x list
  front_is x = front-append x row rest rest_two ∙ ap (is_front x) (sym list_is)

  pub first_is : get_or row 0 0 ≡ get_or list 0 0
  first_is = first-append row rest rest_two ∙ ap (λ xs. get_or xs 0 0) (sym list_is)

  pub some_is : (0 < length row) ↔ (0 < length list)
  some_is =
      let whole = ap length list_is in (
        λ some. omega (arith, whole, length-append row rest, some),
        λ some. some-append row rest rest_two (omega (arith, whole, some)),
      )

  pub second_is : (x : ℕ) → is_second x row ≡ is_second x list
  second_is x = second-append x row rest rest_two ∙ ap (is_second x) (sym list_is)

  -- block x comes to the front of the row, and what stands behind it becomes d
  module _ (x : ℕ) where
    abbrev after : List ℕ
    after = take near.depth (move_to_front x row)

    pub renewed : (d : Deep V) → d.cap ≡ beyond → length d.blocks ≤ beyond →
        (d.blocks ≢ [] → length after ≡ near.depth) →
        take (near.depth + beyond) (move_to_front x (row ++ rest)) ≡ after ++ d.blocks →
        {near' : Lists} → near' ≡ lists_after_bring near k x → {far' : List (Deep V)} →
        far' ≡ set far k d → IsRenewed near' beyond far' k x v
    renewed d cap short full moved {near'} near_is {far'} far_is =
        let lists = set near.lists k after in
        let here : get_or lists k [] ≡ after = get_or-set_same near.lists k after [] within in
        let once : IsOnce (after ++ d.blocks) = subst (λ ys. IsOnce ys) moved
        (once_moved x (near.depth + beyond) (row ++ rest) (r.sound.once k)) in
        subst (λ n. IsRenewed n beyond far' k x v) (sym near_is)
        (subst (λ f. IsRenewed (lists_after_bring near k x) beyond f k x v) (sym far_is) (record {
          sound = record {
            far_len = length-set far k d ∙ r.sound.far_len ∙ sym (length-set near.lists k after);
            two = r.sound.two;
            small = subst (λ (n : ℕ). n * (near.depth + beyond) ≤ 2 ^ 22)
                (sym (length-set near.lists k after)) r.sound.small;
            caps = λ j lt. all_set (λ i e. i < length far → e.cap ≡ beyond) far k d nothing
                within_far (λ _. cap) (λ i _. r.sound.caps i) j
                (omega (arith, lt, length-set far k d));
            short = all_set (λ _ ys. length ys ≤ near.depth) near.lists k after [] within
                (length-take_le near.depth (move_to_front x row)) (λ j _. r.sound.short j);
            rest_short = all_set (λ _ e. length e.blocks ≤ beyond) far k d nothing within_far short
                (λ j _. r.sound.rest_short j);
            full = all_set (λ j e. e.blocks ≢ [] → length (get_or lists j []) ≡ near.depth) far k d
                nothing within_far (λ some. ap length here ∙ full some)
                (λ j other some. ap length (get_or-set_other near.lists k j after [] other) ∙
                r.sound.full j some);
            once = all_set (λ j e. IsOnce (get_or lists j [] ++ e.blocks)) far k d nothing
                within_far (subst (λ ys. IsOnce (ys ++ d.blocks)) (sym here) once)
                (λ j other. subst (λ ys. IsOnce (ys ++ rest_of far j))
                (sym (get_or-set_other near.lists k j after [] other)) (r.sound.once j));
          };
          seen =
              ap (λ ls. record { depth = near.depth + beyond; lists = ls })
              (joined-set near.lists far k after d within within_far
              ∙ ap (set (whole_lists near.lists far) k)
              (sym moved ∙ ap (λ zs. take (near.depth + beyond) (move_to_front x zs))
              (sym (joined_at near.lists far k within))))
              ∙ ap (λ w. lists_after_bring w k x) r.seen;
        }))

    -- x stands in the row, or is a new block of a list that is all in its row: no other leaves it
    abbrev pub StaysIn : Type 0
    StaysIn = (is_in x row ≡ true) ⊎ ((length row < near.depth) × (is_in x row ≡ false))

    new_moved : length row < near.depth →
        take (near.depth + beyond) (move_to_front x row) ≡ after
    new_moved short = grind (arith, length-remove_le, take_all)

    stays_moved : StaysIn →
        take (near.depth + beyond) (move_to_front x (row ++ rest)) ≡ after ++ rest
    stays_moved h = grind (arith, near_moved, rest_behind, append-nil, new_moved)

    after_long : StaysIn → rest ≢ [] → length after ≡ near.depth
    after_long h some = grind (arith, length-remove, index-lt, take_all, rest_behind)

    pub stays : StaysIn → {near' : Lists} → near' ≡ lists_after_bring near k x →
        IsRenewed near' beyond far k x v
    stays h is = renewed (get_or far k nothing) (r.sound.caps k within_far) (r.sound.rest_short k)
        (after_long h) (stays_moved h) is (sym (set-get_or far k nothing))

-- one set's list is not longer than all
pub depth_small : (sets depth : ℕ) → 1 ≤ sets → sets * depth ≤ 2 ^ 22 → depth ≤ 2 ^ 22
depth_small sets depth some small = omega (arith, mul-le-mul_right depth some, small)

pub joined_empty : {V : Type 0} (n : ℕ) (far : List (Deep V)) → ((k : ℕ) → rest_of far k ≡ []) →
    whole_lists (replicate n []) far ≡ replicate n []
joined_empty zero far none = refl
joined_empty (suc n) [] none = refl
joined_empty (suc n) (d ∷ far) none =
    ap (λ ys. ys ∷ whole_lists (replicate n []) far) (none 0) ∙
    ap (λ ls. [] ∷ ls) (joined_empty n far (λ k. none (suc k)))

pub split_none : {V : Type 0} (near : Lists) (beyond n : ℕ) (far : List (Deep V)) →
    near.lists ≡ replicate n [] → ((k : ℕ) → rest_of far k ≡ [])
    → ((k : ℕ) → k < length far → (get_or far k nothing).cap ≡ beyond)
    → length far ≡ length near.lists → 2 ≤ near.depth
    → length near.lists * (near.depth + beyond) ≤ 2 ^ 22 → AreSplit near beyond far
split_none near beyond n far none rest caps far_len two small =
    let row : (k : ℕ) → get_or near.lists k [] ≡ [] =
    λ k. ap (λ ls. get_or ls k []) none ∙ all_same n k [] in
    let L : List ℕ → Type 0 = IsOnce in
    record {
      far_len = far_len;
      two = two;
      small = small;
      caps = caps;
      short = λ k. omega (arith, ap length (row k));
      rest_short = λ k. omega (arith, ap length (rest k));
      full = λ k some. absurd (some (rest k));
      once = λ k. subst L (sym (ap (λ xs. xs ++ rest_of far k) (row k) ∙ rest k)) tt;
    }

-- emptied
emptied_at : {V : Type 0} (far : List (Deep V)) (k : ℕ) →
    get_or (map empty_deep far) k nothing ≡ empty_deep (get_or far k nothing)
emptied_at [] k = refl
emptied_at (d ∷ far) zero = refl
emptied_at (d ∷ far) (suc k) = emptied_at far k

pub emptied_rest : {V : Type 0} (far : List (Deep V)) (k : ℕ) → rest_of (map empty_deep far) k ≡ []
emptied_rest far k = ap (λ d. d.blocks) (emptied_at far k)

pub split_cleared : {V : Type 0} {near : Lists} {beyond : ℕ} {far : List (Deep V)} →
    AreSplit near beyond far → (near' : Lists) (far' : List (Deep V))
    → near' ≡ record { depth = near.depth; lists = replicate (length near.lists) [] } →
    far' ≡ map empty_deep far → AreSplit near' beyond far'
split_cleared {V} {near} {beyond} {far} s near' far' is far_is =
    let lists : near'.lists ≡ replicate (length near.lists) [] = ap (λ v. v.lists) is in
    let depth : near'.depth ≡ near.depth = ap (λ v. v.depth) is in
    let count : length near'.lists ≡ length near.lists = ap length lists ∙
    length-replicate (length near.lists) [] in
    let long : length far' ≡ length far = ap length far_is ∙ length-map far empty_deep in
    let M : ℕ → Type 0 = λ n. n * (near'.depth + beyond) ≤ 2 ^ 22 in
    let N : ℕ → Type 0 = λ n. length near.lists * (n + beyond) ≤ 2 ^ 22 in
    split_none near' beyond (length near.lists) far' lists (λ k. ap (λ ds. rest_of ds k) far_is ∙
    emptied_rest far k)
    (λ k lt. ap (λ ds. (get_or ds k nothing).cap) far_is ∙ ap (λ d. d.cap) (emptied_at far k) ∙
    s.caps k (omega (arith, lt, long)))
    (long ∙ s.far_len ∙ sym count) (omega (arith, s.two, depth))
    (subst M (sym count) (subst N (sym depth) s.small))

pub cleared_lists : {V : Type 0} (near near' : Lists) (far far' : List (Deep V)) →
    near' ≡ record { depth = near.depth; lists = replicate (length near.lists) [] }
    → far' ≡ map empty_deep far → whole_lists near'.lists far' ≡ replicate
    (length (whole_lists near.lists far)) []
cleared_lists near near' far far' is far_is = grind (
  arith,
  joined_empty,
  emptied_rest,
  length-joined,
)

-- how many blocks stand in all lists
pub sum-joined : {V : Type 0} (near : List (List ℕ)) (far : List (Deep V)) →
    length far ≤ length near → sum_by length (whole_lists near far) ≡ sum_by length near + sum_by
    (λ (d : Deep V). length d.blocks) far
sum-joined [] [] le = refl
sum-joined [] (d ∷ far) le = absurd (omega (arith, le))
sum-joined (xs ∷ near) [] le = omega arith
sum-joined {V} (xs ∷ near) (d ∷ far) le =
    omega (
      arith,
      sum_by-cons length (xs ++ d.blocks) (whole_lists near far),
      sum_by-cons length xs near,
      sum_by-cons (λ (e : Deep V). length e.blocks) d far,
      length-append xs d.blocks,
      sum-joined near far (omega (arith, le)),
    )

far_sum : {V : Type 0} (far : List (Deep V)) (b : ℕ) → ((k : ℕ) → length (rest_of far k) ≤ b) →
    sum_by (λ (d : Deep V). length d.blocks) far ≤ length far * b
far_sum [] b h = omega arith
far_sum {V} (d ∷ far) b h =
    omega (
      arith,
      sum_by-cons (λ (e : Deep V). length e.blocks) d far,
      far_sum far b (λ k. h (suc k)),
      h 0,
      suc-mul (length far) b,
    )

module _ {V : Type 0} {near : Lists} {beyond : ℕ} {far : List (Deep V)}
    (s : AreSplit near beyond far) where
  pub far_few : length far ≤ length near.lists
  far_few = omega (arith, s.far_len)

  pub far_held : sum_by (λ (d : Deep V). length d.blocks) far ≤ length near.lists * beyond
  far_held = omega (arith, far_sum far beyond s.rest_short, mul-le-mul_right beyond far_few)

-- no blocks yet
abbrev pub empty_list : (V : Type 0) → ℕ → Deep V
empty_list V cap = record { cap = cap; blocks = []; values = [] }

pub empty_rest : (V : Type 0) (n cap k : ℕ) → rest_of (replicate n (empty_list V cap)) k ≡ []
empty_rest V zero cap k = refl
empty_rest V (suc n) cap zero = refl
empty_rest V (suc n) cap (suc k) = empty_rest V n cap k

pub new_lists : {V : Type 0} (near : Lists) (sets beyond : ℕ) (far : List (Deep V)) →
    near ≡ record { depth = 64; lists = replicate sets [] }
    → far ≡ replicate sets (record { cap = beyond; blocks = []; values = [] }) →
    whole_lists near.lists far ≡ replicate sets []
new_lists {V} near sets beyond far is far_is =
    ap (λ v. whole_lists v.lists far) is
    ∙ ap (whole_lists (replicate sets [])) far_is
    ∙ joined_empty sets (replicate sets (empty_list V beyond)) (empty_rest V sets beyond)
