-- A row whose list gets a block in front, and the clean depths beside it.
use Rattle.std.proofs.Common.{◌≡◌, ℕ, zero, suc, ◌+◌, ◌-◌, ◌<◌, ◌≤◌, Bool, true, false, cond, eqb}
use Rattle.std.proofs.Common.{max, List, [], ◌∷◌, ◌++◌, length, take, drop, get_or, set, refl, sym}
use Rattle.std.proofs.Common.{◌∙◌, ap, arith, add-one, eq-eqb}
use Rattle.std.specs.List.{remove}
use Rattle.std.proofs.Common.{ltb}
use Rattle.std.proofs.lemmas.Bool.{ltb-true}
use Rattle.std.proofs.lemmas.Bool.Decides.{nat_tests}
use Rattle.std.proofs.lemmas.List.{take_all, take_at, length-take-le}
use Rattle.cache_core.proofs.Lists.{list_any_is}
use Rattle.trace_core.specs.declared.events.Access.{Access}
use Rattle.trace_core.specs.Events.{is_write}
use Rattle.profile_core.specs.profile.RecencyList.{index_of, is_in}
use Rattle.full_profile.specs.State.{clean_in_front}
use Rattle.full_profile.specs.declared.marked_lists.row.Shifted.TheVariants.{Found, Out}
use Rattle.full_profile.specs.declared.marked_lists.MarkedTouch.TheVariants.{Full}
use Rattle.full_profile.specs.internal.Marked.{marked_touch_of}
use Rattle.full_profile.specs.internal.Rows.{marked_shift_of}
use Rattle.profile_core.proofs.Shifting.{length-remove, remove_end, index-le}

-- the list is as long as before
pub row_kept : (y : ℕ) (xs rest : List ℕ) {n d i : ℕ} {now : List ℕ} → length xs ≡ n → i < n →
    n ≤ d →
    now ≡ take (length xs) (y ∷ remove xs i) → take n (now ++ rest) ≡ take d (y ∷ remove xs i)
row_kept y xs rest {n} {d} {i} {now} size lt le is =
    let long : length (y ∷ remove xs i) ≡ n = omega (arith, length-remove xs i, size, lt) in
    let all : now ≡ y ∷ remove xs i =
    is ∙ take_all (length xs) (y ∷ remove xs i) (omega (arith, long, size)) in
    take_at now rest n (ap length all ∙ long) ∙ all ∙
    sym (take_all d (y ∷ remove xs i) (omega (arith, long, le)))

pub row_full : (y : ℕ) (xs rest : List ℕ) {n i : ℕ} {now : List ℕ} → length xs ≡ n → length xs ≡ i →
    now ≡ take (length xs) (y ∷ remove xs i) → take n (now ++ rest) ≡ take n (y ∷ remove xs i)
row_full y xs rest {n} {i} {now} size at is =
    let whole : remove xs i ≡ xs = remove_end xs i (omega (arith, at)) in
    let long : length now ≡ n = ap length is ∙
    length-take-le (length xs) (y ∷ remove xs i) (omega (arith, ap length whole)) ∙ size in
    take_at now rest n long ∙ is ∙ ap (λ j. take j (y ∷ remove xs i)) size

-- the front of the list is written anew
pub row_first : (y m : ℕ) (xs rest : List ℕ) {n d i : ℕ} {now : List ℕ} → length xs ≡ n → i < n →
    n ≤ d →
    now ≡ take (length xs) (y ∷ remove xs i) →
    take n (set (now ++ rest) 0 m) ≡ take d (m ∷ remove xs i)
row_first y m xs rest {n} {d} {i} {now} size lt le is =
    let long : length (y ∷ remove xs i) ≡ n = omega (arith, length-remove xs i, size, lt) in
    let all : now ≡ y ∷ remove xs i =
    is ∙ take_all (length xs) (y ∷ remove xs i) (omega (arith, long, size)) in
    ap (λ l. take n (set (l ++ rest) 0 m)) all
    ∙ take_at (m ∷ remove xs i) rest n long
    ∙ sym (take_all d (m ∷ remove xs i) (omega (arith, long, le)))

-- the last one, which fell out, is put behind the others
put_last : (y n : ℕ) (row : List ℕ) → n < length row →
    take (suc n) (set (take n (y ∷ take n row) ++ drop n row) n (get_or (y ∷ take n row) n 0))
    ≡ y ∷ take n row
put_last y n [] lt = absurd (omega arith)
put_last y zero (x ∷ xs) lt = refl
put_last y (suc n) (x ∷ xs) lt = ap (λ zs. y ∷ zs) (put_last x n xs (omega arith))

pub row_grown : (y : ℕ) (row : List ℕ) {n i last : ℕ} {now : List ℕ} → n < length row →
    length (take n row) ≡ i → now ≡ take (length (take n row)) (y ∷ remove (take n row) i) →
    last ≡ get_or (y ∷ take n row) i 0 →
    take (n + 1) (set (now ++ drop n row) n last)
    ≡ take (length row) (y ∷ remove (take n row) i)
row_grown y row {n} {i} {last} {now} lt at is last_is =
    let size : length (take n row) ≡ n = length-take-le n row (omega (arith, lt)) in
    let whole : remove (take n row) i ≡ take n row = remove_end (take n row) i (omega (arith, at))
    in
    let before : now ≡ take n (y ∷ take n row) =
    is ∙ ap (λ j. take j (y ∷ remove (take n row) i)) size ∙ ap (λ l. take n (y ∷ l)) whole in
    let out : last ≡ get_or (y ∷ take n row) n 0 =
    last_is ∙ ap (λ j. get_or (y ∷ take n row) j 0) (sym at ∙ size) in
    ap (λ j. take j (set (now ++ drop n row) n last)) (add-one n)
    ∙ ap (λ l. take (suc n) (set (l ++ drop n row) n last)) before
    ∙ ap (λ v. take (suc n) (set (take n (y ∷ take n row) ++ drop n row) n v)) out
    ∙ put_last y n row lt
    ∙ ap (λ l. y ∷ l) (sym whole)
    ∙ sym (take_all (length row) (y ∷ remove (take n row) i)
    (omega (arith, ap length whole, size, lt)))

-- what a pass over a list found
found_parts : (b : Bool) (p c q r s t : ℕ) → Found p c ≡ cond b (Found q r) (Out s t) →
    (b ≡ true) × (p ≡ q) × (c ≡ r)
found_parts true p c q r s t e = (refl, cc, cc)
found_parts false p c q r s t e = absurd (cc)

out_parts : (b : Bool) (x c q r s t : ℕ) → Out x c ≡ cond b (Found q r) (Out s t) →
    (b ≡ false) × (x ≡ s) × (c ≡ t)
out_parts true x c q r s t e = absurd (cc)
out_parts false x c q r s t e = (refl, cc, cc)

pub record IsHere (distance clean block : ℕ) (blocks cleans : List ℕ) : Type 0 where
  pub inside : is_in block blocks ≡ true
  pub distance_is : distance ≡ index_of block blocks
  pub clean_is : clean ≡ get_or cleans (index_of block blocks) 0
  pub within : index_of block blocks < length blocks

pub here : (front first : ℕ) {distance clean block : ℕ} {blocks cleans : List ℕ} →
    Found distance clean ≡ marked_shift_of block front blocks first cleans →
    IsHere distance clean block blocks cleans
here front first {distance} {clean} {block} {blocks} {cleans} found =
    let parts = found_parts (is_in block blocks) distance clean (index_of block blocks)
    (get_or cleans (index_of block blocks) 0) (get_or (front ∷ blocks) (length blocks) 0)
    (get_or (first ∷ cleans) (length blocks) 0) found in
    record {
      inside = parts.0;
      distance_is = parts.1;
      clean_is = parts.2;
      within = ltb-true (index_of block blocks) (length blocks)
          (sym (list_any_is (λ y. eqb y block) blocks) ∙ parts.0);
    }

pub record IsNowhere (last clean block front first : ℕ) (blocks cleans : List ℕ) : Type 0 where
  pub outside : is_in block blocks ≡ false
  pub index_is : length blocks ≡ index_of block blocks
  pub last_is : last ≡ get_or (front ∷ blocks) (index_of block blocks) 0
  pub clean_is : clean ≡ get_or (first ∷ cleans) (index_of block blocks) 0

absent_at : (b : Bool) (p n : ℕ) → b ≡ false → b ≡ ltb p n → p ≤ n → n ≡ p
absent_at b p n out e le = grind (arith, nat_tests)

pub nowhere : {last clean block front first : ℕ} {blocks cleans : List ℕ} →
    Out last clean ≡ marked_shift_of block front blocks first cleans →
    IsNowhere last clean block front first blocks cleans
nowhere {last} {clean} {block} {front} {first} {blocks} {cleans} out =
    let parts = out_parts (is_in block blocks) last clean (index_of block blocks)
    (get_or cleans (index_of block blocks) 0) (get_or (front ∷ blocks) (length blocks) 0)
    (get_or (first ∷ cleans) (length blocks) 0) out in
    let at : length blocks ≡ index_of block blocks =
    absent_at (is_in block blocks) (index_of block blocks) (length blocks) parts.0
    (list_any_is (λ y. eqb y block) blocks) (index-le block blocks) in
    record {
      outside = parts.0;
      index_is = at;
      last_is = parts.1 ∙ ap (λ j. get_or (front ∷ blocks) j 0) at;
      clean_is = parts.2 ∙ ap (λ j. get_or (first ∷ cleans) j 0) at;
    }

-- the clean depth in front
pub clean_written : (d block : ℕ) (access : Access) (blocks cleans : List ℕ) →
    is_write access ≡ true → 0 ≡ clean_in_front d access block blocks cleans
clean_written d block access blocks cleans written = grind arith

pub clean_read : (d : ℕ) (access : Access) {block distance clean : ℕ} {blocks cleans : List ℕ} →
    is_write access ≡ false → IsHere distance clean block blocks cleans →
    max clean distance ≡ clean_in_front d access block blocks cleans
clean_read d access read h = grind (arith, h.inside)

pub clean_new : (d block : ℕ) (access : Access) (blocks cleans : List ℕ) {first : ℕ} →
    is_in block blocks ≡ false → first ≡ cond (is_write access) 0 d →
    first ≡ clean_in_front d access block blocks cleans
clean_new d block access blocks cleans out is = grind arith

-- the row is full
pub touch_full : {d block clean front first last : ℕ} {blocks cleans : List ℕ} → 1 ≤ d →
    length blocks ≡ d → IsNowhere last clean block front first blocks cleans →
    Full clean ≡ marked_touch_of d block blocks cleans
touch_full {d} {block} {first = first} {blocks = blocks} {cleans} some full h =
    let behind : get_or (first ∷ cleans) (index_of block blocks) 0 ≡ get_or cleans (d - 1) 0 =
    ap (λ j. get_or (first ∷ cleans) j 0) {x = index_of block blocks} {y = suc (d - 1)}
    (omega (arith, h.index_is, full, some)) in
    let same : eqb (length blocks) d ≡ true = eq-eqb _ _ full in
    grind (arith, h.outside, same, behind, h.clean_is)
