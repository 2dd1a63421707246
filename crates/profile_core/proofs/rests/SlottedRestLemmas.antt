-- The slots of a set written, and a set that takes slots of its own.
use Rattle.std.proofs.Common.{◌≡◌, ℕ, ◌+◌, ◌<◌, ◌≤◌, ◌^◌, inl, inr, take, List, [], ◌∷◌, ◌++◌}
use Rattle.std.proofs.Common.{length, get_or, set, refl, sym, ◌∙◌, ap, subst, arith, length-set}
use Rattle.std.proofs.Common.{length-append, get_or-set_same, get_or-set_other}
use Rattle.std.specs.Prelude.{replicate}
use Rattle.std.proofs.lemmas.Bool.{cases_eq, cases_lt}
use Rattle.std.proofs.lemmas.List.{get_or_append_left, length-replicate, take-replicate}
use Rattle.std.proofs.lemmas.List.{get_or_read}
use Rattle.std.proofs.Math.Seq.{get_or-append_seam}
use Rattle.profile_core.specs.declared.slots.Slots.{Slots}
use Rattle.profile_core.specs.declared.slots.TheConstants.{BLANK}
use Rattle.profile_core.specs.internal.rows.Rows.{RowsValue, rows_by_set, row_for, with_row}
use Rattle.profile_core.specs.internal.rests.Places.{taken_count, ArePlaces}
use Rattle.profile_core.specs.Slots.{ordered_numbers, IsOrder}
use Rattle.profile_core.specs.internal.rests.SlottedRests.{no_slots, slots_at, slotted_rest}
use Rattle.profile_core.specs.internal.rests.SlottedRests.{ArePlaced, IsSlotted}
use Rattle.profile_core.proofs.Elements.{all_set, all_same}
use Rattle.profile_core.proofs.Places.{places_then, one_more, place_left, place_here}
use Rattle.profile_core.proofs.Places.{place_other, places_taken, taken_none, none_taken}
use Rattle.profile_core.proofs.RowsBySet.{HasRow, rows_kept, row_is, rows_blank, row_put}
use Rattle.profile_core.proofs.slots.SlotLemmas.{ordered_numbers_take, blank_order}

-- slots that have an order
abbrev pub AreOrdered : Slots → Type 0
AreOrdered s = IsOrder s.marks s.order s.numbers

pub slots_are : {places : List ℕ} {rests : List Slots} {room : ℕ} → ArePlaced places rests room →
    (k : ℕ) → get_or places k 0 < length rests
slots_are a k = omega (arith, a.rests_len, a.own.within k)

-- the slots of set k, which are its own, written
module _ {places : List ℕ} {rests : List Slots} {room : ℕ} (a : ArePlaced places rests room)
    (k : ℕ) (own : 0 < get_or places k 0) (s : Slots) (o : AreOrdered s) where
  abbrev rests_then : List Slots
  rests_then = set rests (get_or places k 0) s

  pub written_placed : ArePlaced places rests_then room
  written_placed = record {
    few = a.few;
    rests_len = length-set rests (get_or places k 0) s ∙ a.rests_len;
    fits = a.fits;
    own = a.own;
    each = λ r lt. all_set (λ i t. i < length rests → AreOrdered t) rests (get_or places k 0) s
        no_slots (slots_are a k) (λ _. o) (λ i _. a.each i) r
        (omega (arith, lt, length-set rests (get_or places k 0) s));
  }

  pub written_here : slots_at places rests_then k ≡ s
  written_here = get_or-set_same rests (get_or places k 0) s no_slots (slots_are a k)

  pub written_other : (j : ℕ) → (j ≡ k → ⊥) → slots_at places rests_then j ≡ slots_at places rests j
  written_other j other = get_or-set_other rests (get_or places k 0) (get_or places j 0) s no_slots
      (λ same. other (sym (a.own.apart k j own (sym same))))

  pub written_rests : {n : ℕ} {rows : RowsValue} →
      HasRow n (length places) k (slotted_rest n places rests) rows →
      record { stride = n; rows = rows_by_set (length places) (slotted_rest n places rests_then) } ≡
      with_row rows k (ordered_numbers s.order s.numbers n)
  written_rests {n} {rows} r =
      row_put r (slotted_rest n places rests_then) (ordered_numbers s.order s.numbers n)
      (ap (λ (t : Slots). ordered_numbers t.order t.numbers n) written_here)
      (λ j lt other. ap (λ (t : Slots). ordered_numbers t.order t.numbers n)
      (written_other j other))

-- what is known once set k has slots of its own, at place p
pub record HasOwn (n k p : ℕ) (places : List ℕ) (rests : List Slots) (room : ℕ)
    (rows : RowsValue) : Type 0 where
  pub placed : ArePlaced places rests room
  pub own : 0 < get_or places k 0
  pub which : p ≡ get_or places k 0
  pub row : HasRow n (length places) k (slotted_rest n places rests) rows

pub own_of : {n k p room : ℕ} {before lent places : List ℕ} (rests : List Slots)
    {rests' : List Slots} {rows : RowsValue} →
    record { stride = n; rows = rows_by_set (length before) (slotted_rest n before rests) } ≡ rows →
    k < length rows.rows → lent ≡ before → length places ≡ length lent →
    ((j : ℕ) → slots_at places rests' j ≡ slots_at lent rests j) →
    ArePlaced places rests' room → 0 < p → p ≡ get_or places k 0 →
    HasOwn n k p places rests' room rows
own_of {n} rests seen is_set is count same placed some which = record {
  placed = placed;
  own = omega (arith, some, which);
  which = which;
  row = rows_kept seen is_set (count ∙ ap length is)
      (λ j. ap (λ (s : Slots). ordered_numbers s.order s.numbers n)
      (same j ∙ ap (λ ps. slots_at ps rests j) is));
}

module _ {n k p room : ℕ} {places : List ℕ} {rests : List Slots} {rows : RowsValue}
    (o : HasOwn n k p places rests room rows) where
  -- its slots as they are lent
  own_lent : {s : Slots} → s ≡ get_or rests p s → s ≡ slots_at places rests k
  own_lent {s} read = get_or_read rests p s (omega (arith, o.which, slots_are o.placed k)) read
      no_slots ∙ ap (λ i. get_or rests i no_slots) o.which

  -- the first numbers in them
  pub own_listed : {s : Slots} → s ≡ get_or rests p s → (m : ℕ) → m ≤ n →
      ordered_numbers s.order s.numbers m ≡ take m (row_for rows k)
  own_listed read m le =
      let s = slots_at places rests k in
      ap (λ (t : Slots). ordered_numbers t.order t.numbers m) (own_lent read)
      ∙ ordered_numbers_take s.order s.numbers m n le ∙ ap (take m) (sym (row_is o.row))

  -- and as they are put back
  pub own_back : {places' : List ℕ} {s : Slots} → places' ≡ places → AreOrdered s →
      record {
        stride = n;
        rows = rows_by_set (length places') (slotted_rest n places' (set rests p
            s));
      }
      ≡ with_row rows k (ordered_numbers s.order s.numbers n)
  own_back {places'} {s} places_is ordered =
      let seen : List ℕ → ℕ → RowsValue = λ ps i. record {
        stride = n;
        rows = rows_by_set (length ps) (slotted_rest n ps (set rests i s));
      } in
      ap (λ ps. seen ps p) places_is ∙ ap (seen places) o.which
      ∙ written_rests o.placed k o.own s ordered o.row

-- set k, which has no slots of its own, takes some
module _ {places : List ℕ} {rests : List Slots} {room : ℕ} (a : ArePlaced places rests room)
    {k : ℕ} (lt : k < length places) (none : get_or places k 0 ≡ 0) where
  abbrev blank : Slots
  blank = get_or rests 0 no_slots

  abbrev rests_more : List Slots
  rests_more = rests ++ blank ∷ []

  pub room_left : length rests < room
  room_left = omega (arith, place_left a.own lt none, a.fits, a.rests_len)

  more_len : length rests_more ≡ length rests + 1
  more_len = length-append rests (blank ∷ [])

  before : (r : ℕ) → r < length rests → get_or rests_more r no_slots ≡ get_or rests r no_slots
  before r h = get_or_append_left rests (blank ∷ []) no_slots r h

  seam : get_or rests_more (length rests) no_slots ≡ blank
  seam = get_or-append_seam rests blank [] no_slots

  each_more : (r : ℕ) → r < length rests_more → AreOrdered (get_or rests_more r no_slots)
  each_more r h =
      let P : Slots → Type 0 = AreOrdered in
      elim (cases_lt r (length rests)) [
        | inl near ↦ subst P (sym (before r near)) (a.each r near)
        | inr far ↦ (let e : r ≡ length rests = omega (arith, h, more_len, far) in
            subst P (sym (ap (λ i. get_or rests_more i no_slots) e ∙ seam))
            (a.each 0 (omega (arith, a.rests_len))))
      ]

  more_placed : {more : ℕ} → room ≤ more → ArePlaced (places_then a.own lt none) rests_more more
  more_placed {more} le =
      let long = length-set places k (taken_count places + 1) in
      record {
        few = omega (arith, long, a.few);
        rests_len = omega (arith, more_len, a.rests_len, one_more a.own lt none);
        fits = omega (arith, le, a.fits, long);
        own = places_taken a.own lt none;
        each = each_more;
      }

  more_same : (j : ℕ) → slots_at (places_then a.own lt none) rests_more j ≡ slots_at places rests j
  more_same j = elim (cases_eq j k) [
    | inl same ↦ ap (λ i. slots_at (places_then a.own lt none) rests_more i) same
        ∙ ap (λ i. get_or rests_more i no_slots) (place_here a.own lt none ∙ sym a.rests_len)
        ∙ seam
        ∙ ap (λ i. get_or rests i no_slots) (sym none)
        ∙ ap (λ i. slots_at places rests i) (sym same)
    | inr other ↦ ap (λ i. get_or rests_more i no_slots) (place_other a.own lt none j other)
        ∙ before (get_or places j 0) (slots_are a j)
  ]

-- the same slots, once set k has its own
pub record IsReady (k : ℕ) (places : List ℕ) (rests : List Slots) (room : ℕ)
    (places' : List ℕ) (rests' : List Slots) : Type 0 where
  pub placed : ArePlaced places' rests' room
  pub own : 0 < get_or places' k 0
  pub same : (j : ℕ) → slots_at places' rests' j ≡ slots_at places rests j
  pub count : length places' ≡ length places

pub ready_taken : {k room more number : ℕ} {places places' : List ℕ} {rests rests' : List Slots} →
    ArePlaced places rests room → k < length places → get_or places k 0 ≡ 0 → room ≤ more →
    number ≡ length rests → places' ≡ set places k number →
    rests' ≡ rests ++ get_or rests 0 no_slots ∷ [] → IsReady k places rests more places' rests'
ready_taken {k} {room} {more} {number} {places} {places'} {rests} {rests'} a lt none le which put
    grown =
    let are : places' ≡ places_then a.own lt none =
    put ∙ ap (set places k) (which ∙ a.rests_len) in
    let P : List ℕ → Type 0 = λ ps. IsReady k places rests more ps rests' in
    let Q : List Slots → Type 0 = λ rs. IsReady k places rests more (places_then a.own lt none) rs
    in
    subst P (sym are) (subst Q (sym grown) (record {
      placed = more_placed a lt none le;
      own = omega (arith, place_here a.own lt none);
      same = more_same a lt none;
      count = length-set places k (taken_count places + 1);
    }))

-- rests of which none has slots of its own yet
module _ (n m : ℕ) {places : List ℕ} {rests : List Slots} (some : 1 ≤ n) (most : n ≤ 16)
    (none : places ≡ replicate m 0) (one : rests ≡ BLANK ∷ []) where
  place_none : (k : ℕ) → get_or places k 0 ≡ 0
  place_none k = ap (λ ps. get_or ps k 0) none ∙ all_same m k 0

  place_count : length places ≡ m
  place_count = ap length none ∙ length-replicate m 0

  pub new_slotted : {room : ℕ} → m ≤ 2 ^ 22 → m + 1 ≤ room → IsSlotted n places rests room
  new_slotted {room} few fits = record {
    some = some;
    most = most;
    placed = record {
      few = omega (arith, place_count, few);
      rests_len = ap length one ∙ omega (arith, ap taken_count none, taken_none m);
      fits = omega (arith, place_count, fits);
      own = subst ArePlaces (sym none) (none_taken m);
      each = λ r lt.
          (let first : r ≡ 0 = omega (arith, lt, ap length one) in
          subst AreOrdered (sym (ap (λ i. get_or rests i no_slots) first ∙
          ap (λ rs. get_or rs 0 no_slots) one)) blank_order);
    };
  }

  blank_rest : (k : ℕ) → slotted_rest n places rests k ≡ replicate n 0
  blank_rest k =
      let blank : slots_at places rests k ≡ BLANK =
      ap (λ g. get_or rests g no_slots) (place_none k) ∙ ap (λ rs. get_or rs 0 no_slots) one in
      let all : ordered_numbers BLANK.order BLANK.numbers 16 ≡ replicate 16 0 = refl in
      ap (λ (s : Slots). ordered_numbers s.order s.numbers n) blank
      ∙ ordered_numbers_take BLANK.order BLANK.numbers n 16 most
      ∙ ap (take n) all ∙ take-replicate n 16 0 most

  pub new_rests : rows_by_set (length places) (slotted_rest n places rests) ≡
      replicate m (replicate n 0)
  new_rests = ap (λ j. rows_by_set j (slotted_rest n places rests)) place_count ∙
      rows_blank m n (slotted_rest n places rests) (λ k lt. blank_rest k)
