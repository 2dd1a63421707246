-- Rests that stand in one array: where they stand, one of them written anew, and one taken.
use Rattle.std.proofs.Common.{◌≡◌, ℕ, ◌+◌, ◌*◌, ◌/◌, ◌<◌, ◌≤◌, ◌^◌, List, ◌++◌, length}
use Rattle.std.proofs.Common.{take, drop, get_or, set, sym, ◌∙◌, ap, subst, arith}
use Rattle.std.proofs.Common.{length-append, length-set, Vec, ◌-◌}
use Rattle.std.specs.Prelude.{replicate}
use Rattle.std.proofs.Math.Nat.{mul-le-mul_right, mul-div_cancel}
use Rattle.std.proofs.lemmas.Bool.{cases_eq}
use Rattle.std.proofs.lemmas.List.{take-append-le, take-replicate, drop_at, take-take}
use Rattle.std.proofs.lemmas.List.{length-replicate, length-take-le}
use Rattle.std.specs.Vec.{with_items}
use borrow.Rule.Slice.PartMut.{put_mid}
use Rattle.profile_core.specs.internal.rows.Rows.{RowsValue, rows_by_set, row_for, with_row}
use Rattle.profile_core.specs.internal.rests.Places.{taken_count}
use Rattle.profile_core.specs.internal.rests.SparseRests.{sparse_rest, IsSparse}
use Rattle.profile_core.proofs.Elements.{all_same}
use Rattle.profile_core.proofs.Places.{places_then, one_more, place_left, place_here}
use Rattle.profile_core.proofs.Places.{place_other, places_taken}
use Rattle.profile_core.proofs.RowParts.{in_front, part_long, part_here, part_other, part_same}
use Rattle.profile_core.proofs.RowParts.{part_lent, part_back}
use Rattle.profile_core.proofs.RowsBySet.{HasRow, rows_kept, row_is, rows_blank, row_put}

at_first : (n : ℕ) (xs : List ℕ) → take n (drop (0 * n) xs) ≡ take n xs
at_first n xs =
    let none : 0 * n ≡ 0 = omega arith in
    ap (λ j. take n (drop j xs)) none

module _ {n room : ℕ} {places numbers : List ℕ} (a : IsSparse n places numbers room) where
  pub rest_ends : (k : ℕ) → get_or places k 0 * n + n ≤ length numbers
  rest_ends k = omega (
    arith,
    a.numbers_len,
    in_front (get_or places k 0) (taken_count places + 1) n (omega (arith, a.own.within k)),
  )

  pub first_ends : n ≤ length numbers
  first_ends = omega (arith, rest_ends 0)

  pub rest_long : (k : ℕ) → length (sparse_rest n places numbers k) ≡ n
  rest_long k = part_long (get_or places k 0 * n) n numbers (rest_ends k)

  -- the rest of set k, which is its own, written
  module _ (k : ℕ) (own : 0 < get_or places k 0) (new : List ℕ) (long : length new ≡ n) where
    abbrev pub written : List ℕ
    written = put_mid (get_or places k 0 * n) n numbers new

    written_other : (j : ℕ) → (j ≡ k → ⊥) →
        sparse_rest n places written j ≡ sparse_rest n places numbers j
    written_other j other = part_other (get_or places k 0) (get_or places j 0) n numbers new
        (omega (arith, rest_ends k)) long (λ same. other (sym (a.own.apart k j own (sym same))))

    pub written_rests : {rows : RowsValue} →
        HasRow n (length places) k (sparse_rest n places numbers) rows →
        record { stride = n; rows = rows_by_set (length places) (sparse_rest n places written) } ≡
        with_row rows k new
    written_rests r = row_put r (sparse_rest n places written) new
        (part_here (get_or places k 0 * n) n numbers (rest_ends k) new long)
        (λ j lt other. written_other j other)

-- what is known once set k has a rest of its own, at place p
pub record HasOwn (n k p : ℕ) (places numbers : List ℕ) (room : ℕ) (rows : RowsValue) : Type 0 where
  pub sound : IsSparse n places numbers room
  pub own : 0 < get_or places k 0
  pub which : p ≡ get_or places k 0
  pub row : HasRow n (length places) k (sparse_rest n places numbers) rows

pub own_of : {n k p room : ℕ} {before lent places : List ℕ} (numbers : List ℕ)
    {numbers' : List ℕ} {rows : RowsValue} →
    record { stride = n; rows = rows_by_set (length before) (sparse_rest n before numbers) } ≡
    rows →
    k < length rows.rows → lent ≡ before → length places ≡ length lent →
    ((j : ℕ) → sparse_rest n places numbers' j ≡ sparse_rest n lent numbers j) →
    IsSparse n places numbers' room → 0 < p → p ≡ get_or places k 0 →
    HasOwn n k p places numbers' room rows
own_of {n} numbers seen is_set is count same sound some which = record {
  sound = sound;
  own = omega (arith, some, which);
  which = which;
  row = rows_kept seen is_set (count ∙ ap length is)
      (λ j. same j ∙ ap (λ ps. sparse_rest n ps numbers j) is);
}

module _ {n k p room : ℕ} {places numbers : List ℕ} {rows : RowsValue}
    (o : HasOwn n k p places numbers room rows) where
  pub own_ends : p * n + n ≤ length numbers
  own_ends = omega (arith, rest_ends o.sound k, ap (λ q. q * n) o.which)

  -- the rest as it is lent
  pub own_lent : {now : List ℕ} → now ≡ numbers →
      take (p * n + n - p * n) (drop (p * n) now) ≡ row_for rows k
  own_lent is = part_lent (p * n) n is ∙ ap (λ q. take n (drop (q * n) numbers)) o.which ∙
      sym (row_is o.row)

  pub own_long : length (row_for rows k) ≡ n
  own_long = ap length (row_is o.row) ∙ rest_long o.sound k

-- and as it is put back
pub own_back : {Z : Type 0} {n k p room : ℕ} {places places' : List ℕ} {rows : RowsValue}
    (v : Vec ℕ Z) → HasOwn n k p places v.items room rows → places' ≡ places →
    {now : List ℕ} (new : List ℕ) → now ≡ v.items → length now ≡ v.len →
    length new ≡ length (take (p * n + n - p * n) (drop (p * n) now)) → record {
      stride = n;
      rows = rows_by_set (length places') (sparse_rest n places'
          (with_items v (put_mid (p * n) (p * n + n - p * n) now new)).items);
    } ≡ with_row rows k new
own_back {Z} {n} {k} {p} {room} {places} v o places_is {now} new is len long =
    let seen : List ℕ → List ℕ → RowsValue =
    λ ps ns. record { stride = n; rows = rows_by_set (length ps) (sparse_rest n ps ns) } in
    ap (λ ps. seen ps (with_items v (put_mid (p * n) (p * n + n - p * n) now new)).items) places_is
    ∙ ap (seen places) (part_back v (p * n) n new is len long ∙
    ap (λ q. put_mid (q * n) n v.items new) o.which)
    ∙ written_rests o.sound k o.own new (long ∙ ap length (own_lent o is) ∙ own_long o) o.row

-- set k, which has no rest of its own, takes one
module _ {n room : ℕ} {places numbers : List ℕ} (a : IsSparse n places numbers room) {k : ℕ}
    (lt : k < length places) (none : get_or places k 0 ≡ 0) where
  abbrev first : List ℕ
  first = take n numbers

  abbrev numbers_more : List ℕ
  numbers_more = numbers ++ first

  first_long : length first ≡ n
  first_long = length-take-le n numbers (first_ends a)

  pub room_left : length numbers + n ≤ room
  room_left =
      let fewer : taken_count places + 2 ≤ length places + 1 =
      omega (arith, place_left a.own lt none) in
      omega (arith, a.numbers_len, a.fits, mul-le-mul_right n fewer)

  more_sound : {more : ℕ} → room ≤ more → IsSparse n (places_then a.own lt none) numbers_more more
  more_sound {more} le =
      let long : length (places_then a.own lt none) ≡ length places =
      length-set places k (taken_count places + 1) in
      record {
        some = a.some;
        small = subst (λ m. (m + 1) * n ≤ 2 ^ 26) (sym long) a.small;
        numbers_len =
            length-append numbers first ∙
            omega (
              arith,
              a.numbers_len,
              first_long,
              ap (λ m. (m + 1) * n) (one_more a.own lt
                  none),
            );
        fits = omega (arith, le, subst (λ m. (m + 1) * n ≤ room) (sym long) a.fits);
        own = places_taken a.own lt none;
      }

  more_same : (j : ℕ) →
      sparse_rest n (places_then a.own lt none) numbers_more j ≡ sparse_rest n places numbers j
  more_same j = grind (
    arith,
    cases_eq,
    place_here,
    place_other,
    drop_at,
    take-take,
    at_first,
    part_same,
    take-append-le,
    rest_ends,
  )

-- the same rests, once set k has its own
pub record IsReady (n k : ℕ) (places numbers : List ℕ) (room : ℕ)
    (places' numbers' : List ℕ) : Type 0 where
  pub sound : IsSparse n places' numbers' room
  pub own : 0 < get_or places' k 0
  pub same : (j : ℕ) → sparse_rest n places' numbers' j ≡ sparse_rest n places numbers j
  pub count : length places' ≡ length places

pub ready_taken : {n k room more number : ℕ} {places numbers places' numbers' : List ℕ} →
    IsSparse n places numbers room → k < length places → get_or places k 0 ≡ 0 → room ≤ more →
    number ≡ length numbers / n → places' ≡ set places k number →
    numbers' ≡ numbers ++ take n numbers → IsReady n k places numbers more places' numbers'
ready_taken {n} {k} {room} {more} {number} {places} {numbers} {places'} {numbers'} a lt none le
    which put grown =
    let next : number ≡ taken_count places + 1 =
    which ∙ ap (λ m. m / n) a.numbers_len ∙ mul-div_cancel (taken_count places + 1) a.some in
    let are : places' ≡ places_then a.own lt none = put ∙ ap (set places k) next in
    subst (λ ps. IsReady n k places numbers more ps numbers') (sym are)
    (subst (λ ns. IsReady n k places numbers more (places_then a.own lt none) ns) (sym grown)
    (record {
      sound = more_sound a lt none le;
      own = omega (arith, place_here a.own lt none);
      same = more_same a lt none;
      count = length-set places k (taken_count places + 1);
    }))

-- rests of which none is taken yet
module _ (n m : ℕ) {places numbers : List ℕ} (some : 1 ≤ n) (none : places ≡ replicate m 0)
    (zeros : numbers ≡ replicate n 0) where
  place_none : (k : ℕ) → get_or places k 0 ≡ 0
  place_none k = ap (λ ps. get_or ps k 0) none ∙ all_same m k 0

  place_count : length places ≡ m
  place_count = ap length none ∙ length-replicate m 0

  pub new_rests : rows_by_set (length places) (sparse_rest n places numbers) ≡
      replicate m (replicate n 0)
  new_rests = grind (arith, place_count, rows_blank, place_none, at_first, take-replicate)
