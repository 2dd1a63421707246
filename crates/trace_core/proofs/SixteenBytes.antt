-- Sixteen bytes at once, lane by lane.
use Rattle.std.proofs.Common.{◌≡◌, ℕ, zero, suc, ◌+◌, ◌-◌, ◌*◌, ◌/◌, ◌%◌, ◌^◌, ◌<◌, ◌≤◌, Bool, true}
use Rattle.std.proofs.Common.{false, cond, eqb, leb, ltb, List, [], ◌∷◌, map, length, get_or}
use Rattle.std.proofs.Common.{replicate, refl, sym, ap, ◌∙◌, arith, ◌⊎◌, inl, inr, bit_and, bit_or}
use Rattle.std.proofs.Common.{w8, w64, Fits, take}
use Rattle.std.proofs.lemmas.Bool.{false≢true, le-leb, lt-leb, le-ltb, ltb-false, leb-true}
use Rattle.std.proofs.lemmas.Bool.{leb-false, eqb-true}
use Rattle.std.proofs.Common.{to_z}
use Rattle.std.specs.Int.Signed.{le_z}
use Rattle.std.proofs.lemmas.Int.Digits.{number_more, number_lt}
use Rattle.std.proofs.lemmas.Nat.{le-div, div_below}
use Rattle.std.proofs.lemmas.List.{take_all}
use Rattle.std.specs.Int.{from_be_bytes, bit_at}
use Rattle.std.specs.Int.{trailing_ones, trailing_zeros}
use Rattle.std.proofs.Common.{pow_pos, subst, length-take-le, pow-suc, drop, take-append-drop}
use Rattle.std.proofs.Common.{ltb-true, length-drop}
use Rattle.std.specs.Str.Parse.{AllDigits, digits_value}
use Rattle.std.proofs.lemmas.Nat.Bits.{bit_at-trailing_ones, bit_at-trailing_zeros}
use Rattle.std.proofs.lemmas.Simd.{mask_l-lt, bit_mask_l}
use Rattle.std.proofs.lemmas.Int.Digits.{number_after_append, number_after_lt, digits_value_is}
use Rattle.std.proofs.lemmas.List.{get_or_past, take-take}
use Rattle.std.proofs.lemmas.Bool.{cases_lt}
use Rattle.trace_core.specs.Fields.{WritesNumber}
use Rattle.memchr.specs.Find.{is_byte}
use Rattle.std.specs.List.{range_with_len}
use Rattle.std.specs.Char.{digit_value, is_digit}
use Rattle.std.specs.Int.Digits.{number_from_digits, number_from_digits_after, AllBelowBase}
use Rattle.std.specs.Simd.Lanes.{zip2, sel_l, mask_l, top, number_l, digits_l, pick_l, Each1}
use Rattle.std.proofs.lemmas.Simd.{tops_compared, zip2_splat, zip2-map, map-map, bitmask_splat}
use Rattle.std.proofs.lemmas.Simd.{zip2_of_maps, get_or_narrower, Each1-get_or}
use Rattle.std.proofs.lemmas.List.{length-map, get_or-map, map-id}
use Rattle.std.proofs.lemmas.List.FromFn.{get_or-map-range_with_len}

abbrev pub near : ℕ → ℕ → ℕ → ℕ
near first more c = cond (leb ((c + (256 - first)) % 256) more) 255 0

-- a choice of two splats
select_splat : (p : ℕ → Bool) (xs : List ℕ) (n a b : ℕ) → length xs ≡ n →
    sel_l (map p xs) (replicate n a) (replicate n b) ≡ map (λ x. cond (p x) a b) xs
select_splat p [] n a b long = refl
select_splat p (x ∷ xs) zero a b long = absurd (omega arith)
select_splat p (x ∷ xs) (suc n) a b long =
    ap (λ rest. cond (p x) a b ∷ rest) (select_splat p xs n a b (omega arith))

abbrev pub letter : ℕ → ℕ
letter c = near 97 5 (bit_or c 32)

pub letters_are : (xs : List ℕ) → length xs ≡ 16 →
    map (near 97 5) (zip2 bit_or xs (replicate 16 32)) ≡ map letter xs
letters_are xs long = ap (map (near 97 5)) (zip2_splat bit_or xs 16 32 long) ∙
    map-map (near 97 5) (λ c. bit_or c 32) xs

-- two functions that agree on each byte
same_on_bytes : {A : Type 0} (d : A) (f g : ℕ → A) → map f (range_with_len 0 256) ≡ map g
    (range_with_len 0 256) → (c : ℕ) → c < 256 → f c ≡ g c
same_on_bytes d f g same c below =
    sym (get_or-map-range_with_len f 0 256 c c d below (omega arith)) ∙
    ap (λ t. get_or t c d) same ∙ get_or-map-range_with_len g 0 256 c c d below (omega arith)

map_same : {A : Type 0} (f g : ℕ → A) → ((c : ℕ) → c < 256 → f c ≡ g c) → (xs : List ℕ) →
    Each1 (Fits w8) xs → map f xs ≡ map g xs
map_same f g same [] fits = refl
map_same f g same (x ∷ xs) fits = λ i. same x fits.0.fits i ∷ map_same f g same xs fits.1 i

-- the order of signed lanes, from the least of them on
order_of_signed : (c first more : ℕ) → c < 256 → first ≤ 127 → more ≤ 127
    → le_z (to_z w8 ((c + (128 - first)) % 256)) (to_z w8 ((more + 128) % 256)) ≡
    leb ((c + (256 - first)) % 256) more
order_of_signed c first more below low few = by_case (ltb x 128) refl
  where
    x : ℕ
    x = (c + (128 - first)) % 256

    y : ℕ
    y = (more + 128) % 256

    last : ltb y 128 ≡ false
    last = le-ltb y 128 (omega (arith, few))

    by_order : (t : Bool) → leb (256 - suc y) (256 - suc x) ≡ t → 128 ≤ x →
        t ≡ leb ((c + (256 - first)) % 256) more
    by_order true is large =
        let order = leb-true _ _ is in
        sym (le-leb ((c + (256 - first)) % 256) more (omega (arith, order, large, low, few, below)))
    by_order false is large =
        let order = leb-false _ _ is in
        sym (lt-leb ((c + (256 - first)) % 256) more (omega (arith, order, large, low, few, below)))

    by_case : (t : Bool) → ltb x 128 ≡ t →
        le_z (to_z w8 x) (to_z w8 y) ≡ leb ((c + (256 - first)) % 256) more
    by_case true is =
        let small = ltb-true x 128 is in
        rw (is, last) (sym (lt-leb ((c + (256 - first)) % 256) more
        (omega (arith, small, low, few, below))))
    by_case false is =
        let large = ltb-false x 128 is in
        rw (is, last) (by_order (leb (256 - suc y) (256 - suc x)) refl large)

pub within_is : (xs : List ℕ) (first more : ℕ) → length xs ≡ 16 → Each1 (Fits w8) xs →
    first ≤ 127 → more ≤ 127
    → sel_l (map (top 7) (zip2 (λ a b. cond (le_z (to_z w8 a) (to_z w8 b)) 255 0)
    (zip2 (λ a b. (a + b) % 256) (map (λ (a : ℕ). a) xs) (replicate 16 (128 - first)))
    (replicate 16 ((more + 128) % 256)))) (replicate 16 255) (replicate 16 0)
    ≡ map (near first more) xs
within_is xs first more long fits low few =
    let order = λ (a b : ℕ). le_z (to_z w8 a) (to_z w8 b) in
    let moved = λ (x : ℕ). (x + (128 - first)) % 256 in
    let signed = map (λ (a : ℕ). a) xs in
    let sums = zip2 (λ a b. (a + b) % 256) signed (replicate 16 (128 - first)) in
    let last = (more + 128) % 256 in
    let lanes : sums ≡ map moved xs =
    zip2_splat (λ a b. (a + b) % 256) signed 16 (128 - first) (length-map xs (λ a. a) ∙ long) ∙
    map-map moved (λ (a : ℕ). a) xs in
    let chosen = λ (x : ℕ). order (moved x) last in
    let ms : map (top 7) (zip2 (λ a b. cond (order a b) 255 0) sums (replicate 16 last)) ≡
    map chosen xs = tops_compared w8 order sums (replicate 16 last)
    ∙ ap (λ l. zip2 order l (replicate 16 last)) lanes
    ∙ zip2_splat order (map moved xs) 16 last (length-map xs moved ∙ long)
    ∙ map-map (λ x. order x last) moved xs in
    ap (λ m. sel_l m (replicate 16 255) (replicate 16 0)) ms ∙
    select_splat chosen xs 16 255 0 long ∙
    map_same (λ x. cond (chosen x) 255 0) (near first more)
    (λ c below. ap (λ b. cond b 255 0) (order_of_signed c first more below low few)) xs fits

-- a byte, or 127
abbrev pub capped : ℕ → ℕ
capped c = cond (ltb c 127) c 127

select_or : (p : ℕ → Bool) (xs : List ℕ) (n b : ℕ) → length xs ≡ n →
    sel_l (map p xs) xs (replicate n b) ≡ map (λ x. cond (p x) x b) xs
select_or p [] n b long = refl
select_or p (x ∷ xs) zero b long = absurd (omega arith)
select_or p (x ∷ xs) (suc n) b long =
    ap (λ rest. cond (p x) x b ∷ rest) (select_or p xs n b (omega arith))

pub capped_are : (xs : List ℕ) → length xs ≡ 16
    → sel_l (map (top 7) (zip2 (λ a b. cond (ltb a b) 255 0) xs (replicate 16 127))) xs
    (replicate 16 127) ≡ map capped xs
capped_are xs long =
    ap (λ m. sel_l m xs (replicate 16 127)) (tops_compared w8 ltb xs (replicate 16 127) ∙
    zip2_splat ltb xs 16 127 long) ∙ select_or (λ x. ltb x 127) xs 16 127 long

capped_low : (c : ℕ) → capped c ≤ 127
capped_low c = by_case (ltb c 127) refl
  where
    by_case : (t : Bool) → ltb c 127 ≡ t → capped c ≤ 127
    by_case true is = rw is (omega (arith, ltb-true c 127 is))
    by_case false is = rw is (omega arith)

pub all_low : (xs : List ℕ) → Each1 (λ c. c ≤ 127) (map capped xs)
all_low [] = tt
all_low (x ∷ xs) = (capped_low x, all_low xs)

pub low_fits : (xs : List ℕ) → Each1 (λ c. c ≤ 127) xs → Each1 (Fits w8) xs
low_fits [] low = tt
low_fits (x ∷ xs) low = (record { fits = omega (arith, low.0) }, low_fits xs low.1)

-- lower-case letters and more stay ASCII
lower_low : (c : ℕ) → c < 256 → cond (leb c 127) (leb (bit_or c 32) 127) true ≡ true
lower_low = same_on_bytes true (λ c. cond (leb c 127) (leb (bit_or c 32) 127) true) (λ _. true) refl

lower_each : (xs : List ℕ) → Each1 (λ c. c ≤ 127) xs →
    Each1 (λ c. c ≤ 127) (map (λ c. bit_or c 32) xs)
lower_each [] low = tt
lower_each (x ∷ xs) low =
    let at_most : leb x 127 ≡ true = le-leb x 127 low.0 in
    let e = lower_low x (omega (arith, low.0)) in
    (leb-true _ _ (rw at_most at e), lower_each xs low.1)

pub lowered : (xs : List ℕ) → length xs ≡ 16 → Each1 (λ c. c ≤ 127) xs →
    Each1 (λ c. c ≤ 127) (zip2 bit_or xs (replicate 16 32))
lowered xs long low = subst (Each1 (λ c. c ≤ 127)) (sym (zip2_splat bit_or xs 16 32 long))
    (lower_each xs low)

abbrev either : ℕ → ℕ
either c = bit_or (near 48 9 c) (letter c)

either_is : (c : ℕ) → c < 256 → eqb (either c) 255 ≡ is_digit c 16
either_is = same_on_bytes false (λ c. eqb (either c) 255) (λ c. is_digit c 16) refl

pub mask_is : (xs : List ℕ) → length xs ≡ 16 → Each1 (Fits w8) xs
    → mask_l (map (top 7) (zip2 (λ a b. cond (eqb a b) 255 0) (zip2 bit_or (map (near 48 9) xs)
    (map letter xs)) (replicate 16 255))) % 2 ^ 64
    ≡ mask_l (map (λ c. is_digit c 16) xs)
mask_is xs long fits =
    ap (λ l. mask_l (map (top 7) (zip2 (λ a b. cond (eqb a b) 255 0) l (replicate 16 255))) % 2 ^
    64) (zip2-map bit_or (near 48 9) letter xs)
    ∙ bitmask_splat w8 eqb (map either xs) 16 255 (length-map xs either ∙ long) (omega arith)
    ∙ ap mask_l (map-map (λ x. eqb x 255) either xs ∙ map_same (λ c. eqb (either c) 255)
    (λ c. is_digit c 16) either_is xs fits)

capped_digit : (c : ℕ) → c < 256 → is_digit (capped c) 16 ≡ is_digit c 16
capped_digit = same_on_bytes false (λ c. is_digit (capped c) 16) (λ c. is_digit c 16) refl

capped_letter : (c : ℕ) → c < 256 → letter (capped c) ≡ letter c
capped_letter = same_on_bytes 0 (λ c. letter (capped c)) letter refl

-- which of some bytes are digits, by those that stand for them
pub mask_of_capped : (xs ascii : List ℕ) → length ascii ≡ 16 → Each1 (λ c. c ≤ 127) ascii →
    ascii ≡ map capped xs → Each1 (Fits w8) xs
    → mask_l (map (top 7) (zip2 (λ a b. cond (eqb a b) 255 0) (zip2 bit_or (map (near 48 9) ascii)
    (map letter ascii)) (replicate 16 255))) % 2 ^ 64 ≡ mask_l (map (λ c. is_digit c 16) xs)
mask_of_capped xs ascii long low is fits =
    mask_is ascii long (low_fits ascii low) ∙
    ap (λ l. mask_l (map (λ c. is_digit c 16) l)) is ∙
    ap mask_l (map-map (λ c. is_digit c 16) capped xs ∙
    map_same (λ c. is_digit (capped c) 16) (λ c. is_digit c 16) capped_digit xs fits)

pub letters_of_capped : (xs ascii : List ℕ) → ascii ≡ map capped xs → Each1 (Fits w8) xs →
    map letter ascii ≡ map letter xs
letters_of_capped xs ascii is fits =
    ap (map letter) is ∙ map-map letter capped xs ∙
    map_same (λ c. letter (capped c)) letter capped_letter xs fits

-- the value of a byte, if it is a digit
abbrev pub nibble : ℕ → ℕ
nibble c = bit_and ((c + bit_and (letter c) 9) % 256) 15

pub nibbles_are : (xs : List ℕ) → length xs ≡ 16
    → zip2 bit_and (zip2 (λ a b. (a + b) % 256) xs
    (zip2 bit_and (map letter xs) (replicate 16 9))) (replicate 16 15) ≡ map nibble xs
nibbles_are xs long =
    let moved = λ (c : ℕ). (c + bit_and (letter c) 9) % 256 in
    let nines = zip2_splat bit_and (map letter xs) 16 9 (length-map xs letter ∙ long) ∙
    map-map (λ x. bit_and x 9) letter xs in
    let sums = zip2_of_maps (λ a b. (a + b) % 256) (λ (c : ℕ). c) (λ c. bit_and (letter c) 9) xs
    (sym (map-id xs)) nines in
    ap (λ l. zip2 bit_and l (replicate 16 15)) sums
    ∙ zip2_splat bit_and (map moved xs) 16 15 (length-map xs moved ∙ long)
    ∙ map-map (λ x. bit_and x 15) moved xs

nibble_small : (c : ℕ) → c < 256 → ltb (nibble c) 16 ≡ true
nibble_small = same_on_bytes false (λ c. ltb (nibble c) 16) (λ _. true) refl

nibble_is : (c : ℕ) → c < 256 → cond (is_digit c 16) (nibble c) 0 ≡ cond (is_digit c 16)
    (digit_value c) 0
nibble_is = same_on_bytes 0 (λ c. cond (is_digit c 16) (nibble c) 0)
    (λ c. cond (is_digit c 16) (digit_value c) 0) refl

pub nibbles_small : (xs : List ℕ) → Each1 (Fits w8) xs → AllBelowBase 16 (map nibble xs)
nibbles_small [] fits = tt
nibbles_small (x ∷ xs) fits = (ltb-true _ _ (nibble_small x fits.0.fits), nibbles_small xs fits.1)

pub nibble_value : (xs : List ℕ) (k : ℕ) → Each1 (Fits w8) xs → is_digit (get_or xs k 0) 16 ≡ true →
    get_or (map nibble xs) k 0 ≡ digit_value (get_or xs k 0)
nibble_value [] k fits is = absurd (false≢true is)
nibble_value (x ∷ xs) zero fits is = let e = nibble_is x fits.0.fits in (rw is at e)
nibble_value (x ∷ xs) (suc k) fits is = nibble_value xs k fits.1 is

-- two digits in a lane of 16 bits, the first of them in the lower byte
abbrev joined : List ℕ → List ℕ
joined [] = []
joined (a ∷ []) = []
joined (a ∷ b ∷ ds) = (a + 256 * b) ∷ joined ds

-- two digits in a byte
abbrev packed : List ℕ → List ℕ
packed [] = []
packed (a ∷ []) = []
packed (a ∷ b ∷ ds) = (a * 16 + b) ∷ packed ds

-- what is made of a lane, and the higher byte of that
abbrev pub product : ℕ → ℕ
product w = w * 4097 % 65536

abbrev pub pack : ℕ → ℕ
pack w = product w / 256

joined_are : (k : ℕ) (ds : List ℕ) → length ds ≡ 2 * k → AllBelowBase 16 ds →
    digits_l 65536 k (number_l 256 ds) ≡ joined ds
joined_are zero [] long small = refl
joined_are zero (a ∷ ds) long small = absurd (omega arith)
joined_are (suc k) [] long small = absurd (omega arith)
joined_are (suc k) (a ∷ []) long small = absurd (omega arith)
joined_are (suc k) (a ∷ b ∷ ds) long small =
    let more = number_l 256 ds in
    let low : (a + 256 * (b + 256 * more)) % 65536 ≡ a + 256 * b =
    omega (arith, small.0, small.1.0) in
    let high : (a + 256 * (b + 256 * more)) / 65536 ≡ more = omega (arith, small.0, small.1.0) in
    (λ i. low i ∷ digits_l 65536 k (high i)) ∙ ap (λ l. (a + 256 * b) ∷ l)
    (joined_are k ds (omega arith) small.1.1)

packed_are : (ds : List ℕ) → AllBelowBase 16 ds → map pack (joined ds) ≡ packed ds
packed_are [] small = refl
packed_are (a ∷ []) small = refl
packed_are (a ∷ b ∷ ds) small =
    let w = a + 256 * b in
    let one : pack w ≡ a * 16 + b = omega (arith, small.0, small.1.0) in
    λ i. one i ∷ packed_are ds small.1.1 i

length-packed : (k : ℕ) (ds : List ℕ) → length ds ≡ 2 * k → length (packed ds) ≡ k
length-packed zero [] long = refl
length-packed zero (a ∷ ds) long = absurd (omega arith)
length-packed (suc k) [] long = absurd (omega arith)
length-packed (suc k) (a ∷ []) long = absurd (omega arith)
length-packed (suc k) (a ∷ b ∷ ds) long = ap suc (length-packed k ds (omega arith))

packed_number : (k n : ℕ) (ds : List ℕ) → length ds ≡ 2 * k →
    number_from_digits_after 256 n (packed ds) ≡ number_from_digits_after 16 n ds
packed_number zero n [] long = refl
packed_number zero n (a ∷ ds) long = absurd (omega arith)
packed_number (suc k) n [] long = absurd (omega arith)
packed_number (suc k) n (a ∷ []) long = absurd (omega arith)
packed_number (suc k) n (a ∷ b ∷ ds) long =
    let same : n * 256 + (a * 16 + b) ≡ (n * 16 + a) * 16 + b = omega arith in
    ap (λ x. number_from_digits_after 256 x (packed ds)) same ∙
    packed_number k ((n * 16 + a) * 16 + b) ds (omega arith)

-- eight bytes, the first of them worth most
eight_bytes : (bs : List ℕ) → length bs ≡ 8 → from_be_bytes w64 bs ≡ number_from_digits 256 bs
eight_bytes bs long =
    let step = number_more 256 bs in
    let all : number_from_digits 256 (take 8 bs) ≡ number_from_digits 256 bs =
    ap (number_from_digits 256) (take_all 8 bs (omega arith)) in
    omega (
      arith,
      step 0 (omega arith),
      step 1 (omega arith),
      step 2 (omega arith),
      step 3 (omega arith),
      step 4 (omega arith),
      step 5 (omega arith),
      step 6 (omega arith),
      step 7 (omega arith),
      all,
    )

products_fit : (ws : List ℕ) → Each1 (λ m. m < 65536) (map product ws)
products_fit [] = tt
products_fit (w ∷ ws) = (omega arith, products_fit ws)

-- the higher byte of a lane
higher : (ws : List ℕ) (j : ℕ) → length ws ≡ 8 → j < 8 →
    get_or (digits_l 256 16 (number_l 65536 (map product ws))) (2 * j + 1) 0 ≡
    get_or (map pack ws) j 0
higher ws j long below =
    let ms = map product ws in
    let lanes : length ms ≡ 8 = length-map ws product ∙ long in
    let lane : get_or ms j 0 < 65536 =
    Each1-get_or (λ m. m < 65536) ms j 0 (omega (arith, lanes, below)) (products_fit ws) in
    get_or_narrower 65536 2 256 16 ms j 1 refl (products_fit ws) (omega arith)
    (omega (arith, below))
    ∙ omega (arith, lane)
    ∙ sym (get_or-map (λ m. m / 256) ms j 0 0 (omega (arith, lanes, below)))
    ∙ ap (λ l. get_or l j 0) (map-map (λ m. m / 256) product ws)

pub number_is : (ds : List ℕ) → length ds ≡ 16 → AllBelowBase 16 ds
    → number_l 256 (pick_l 0 (digits_l 256 16 (number_l 65536
    (map product (digits_l 65536 8 (number_l 256 ds)))))
    (15 ∷ 13 ∷ 11 ∷ 9 ∷ 7 ∷ 5 ∷ 3 ∷ 1 ∷ [])) % 2 ^ 64 ≡ number_from_digits 16 ds
number_is ds long small =
    let ws = digits_l 65536 8 (number_l 256 ds) in
    let bs = map pack ws in
    let same = λ (j : ℕ) (below : j < 8). higher ws j refl below in
    let turned : number_l 256 (get_or bs 7 0 ∷ get_or bs 6 0 ∷ get_or bs 5 0 ∷ get_or bs 4 0 ∷
    get_or bs 3 0 ∷ get_or bs 2 0 ∷ get_or bs 1 0 ∷ get_or bs 0 0 ∷ []) ≡ from_be_bytes w64 bs =
    omega arith in
    let number =
    (λ i. number_l 256 (same 7 (omega arith) i ∷ same 6 (omega arith) i ∷
    same 5 (omega arith) i ∷ same 4 (omega arith) i ∷ same 3 (omega arith) i ∷
    same 2 (omega arith) i ∷ same 1 (omega arith) i ∷ same 0 (omega arith) i ∷ []))
    ∙ turned
    ∙ ap (λ l. from_be_bytes w64 (map pack l)) (joined_are 8 ds long small)
    ∙ ap (from_be_bytes w64) (packed_are ds small)
    ∙ eight_bytes (packed ds) (length-packed 8 ds long)
    ∙ packed_number 8 0 ds long in
    let fits : number_from_digits 16 ds < 2 ^ 64 =
    subst (λ n. number_from_digits 16 ds < 16 ^ n) long (number_lt 16 ds small) in
    ap (λ n. n % 2 ^ 64) number ∙ omega (arith, fits)

-- the digits in front, of which a mask has a bit each
abbrev hex : ℕ → Bool
hex c = is_digit c 16

set : (b : Bool) → cond {A = ℕ} b 1 0 ≡ 1 → b ≡ true
set true is = refl
set false is = absurd (omega (arith, is))

pub digits_in_front : (xs : List ℕ) (n : ℕ) → length xs ≡ 16 →
    n ≡ trailing_ones w64 (mask_l (map hex xs))
    → (n ≤ 16) × ((i : ℕ) → i < n → is_digit (get_or xs i 0) 16 ≡ true)
digits_in_front xs n long is = (short (cases_lt 16 n), each)
  where
    mask : ℕ
    mask = mask_l (map hex xs)

    many : length (map hex xs) ≡ 16
    many = length-map xs hex ∙ long

    ones : (i : ℕ) → i < n → bit_at mask i ≡ 1
    ones i below = (bit_at-trailing_ones w64 mask
        (omega (arith, rw many at (mask_l-lt (map hex xs))))).2 i (omega (arith, is))

    bit : (i : ℕ) → i < n → get_or (map hex xs) i false ≡ true
    bit i below = set (get_or (map hex xs) i false) (sym (bit_mask_l (map hex xs) i) ∙ ones i below)

    short : (16 < n) ⊎ (n ≤ 16) → n ≤ 16
    short (inl high) = absurd (false≢true
        (sym (get_or_past (map hex xs) 16 false (omega (arith, many))) ∙ bit 16 high))
    short (inr low) = low

    each : (i : ℕ) → i < n → is_digit (get_or xs i 0) 16 ≡ true
    each i below = sym (get_or-map hex xs i 0 false (omega (arith, long, short (cases_lt 16 n)))) ∙
        bit i below

-- the first such byte, of which a mask has a bit each
pub byte_at : (byte : ℕ) (xs : List ℕ) (n : ℕ) → length xs ≡ 16 →
    n ≡ trailing_zeros w64 (mask_l (map (is_byte byte) xs)) → n < 16 → get_or xs n 0 ≡ byte
unfolding lib.Count.count_trailing_zeros
byte_at byte xs n long is below = by_case mask refl
  where
    mask : ℕ
    mask = mask_l (map (is_byte byte) xs)

    many : length (map (is_byte byte) xs) ≡ 16
    many = length-map xs (is_byte byte) ∙ long

    by_case : (m : ℕ) → mask ≡ m → get_or xs n 0 ≡ byte
    by_case zero none =
        let past : n ≡ 64 = is ∙ ap (trailing_zeros w64) none in
        absurd (omega (arith, past, below))
    by_case (suc m) some =
        let lowest = bit_at-trailing_zeros w64 mask (omega (arith, some))
        (omega (arith, rw many at (mask_l-lt (map (is_byte byte) xs)))) in
        let one : bit_at mask n ≡ 1 = ap (bit_at mask) is ∙ lowest.1 in
        let bit : get_or (map (is_byte byte) xs) n false ≡ true =
        set (get_or (map (is_byte byte) xs) n false)
        (sym (bit_mask_l (map (is_byte byte) xs) n) ∙ one) in
        eqb-true _ _
        (sym (get_or-map (is_byte byte) xs n 0 false (omega (arith, long, below))) ∙ bit)

pub values_in_front : (n : ℕ) (xs ds : List ℕ) → n ≤ length xs → length ds ≡ length xs →
    ((i : ℕ) → i < n → is_digit (get_or xs i 0) 16 ≡ true)
    → ((i : ℕ) → is_digit (get_or xs i 0) 16 ≡ true → get_or ds i 0 ≡ digit_value (get_or xs i 0))
    → AllDigits 16 (take n xs) × (take n ds ≡ map digit_value (take n xs))
values_in_front zero xs ds within same digits values = (tt, refl)
values_in_front (suc n) [] ds within same digits values = absurd (omega arith)
values_in_front (suc n) (x ∷ xs) [] within same digits values = absurd (omega arith)
values_in_front (suc n) (x ∷ xs) (d ∷ ds) within same digits values =
    let first = digits 0 (omega arith) in
    let more = values_in_front n xs ds (omega arith) (omega arith)
    (λ i below. digits (suc i) (omega arith)) (λ i. values (suc i)) in
    ((ltb-true _ _ first, more.0), λ i. values 0 first i ∷ more.1 i)

-- digits that are dropped from the end
at_least : (n : ℕ) (ds : List ℕ) → n * 16 ^ length ds ≤ number_from_digits_after 16 n ds
at_least n [] = omega arith
at_least n (d ∷ ds) =
    let power = pow-suc 16 (length ds) in
    omega (arith, at_least (n * 16 + d) ds, ap (λ p. n * p) power)

fours : (k : ℕ) → 2 ^ (4 * k) ≡ 16 ^ k
fours zero = refl
fours (suc k) =
    let n : 4 * suc k ≡ suc (suc (suc (suc (4 * k)))) = omega arith in
    ap (λ m. 2 ^ m) n ∙ omega (
      arith,
      pow-suc 2 (suc (suc (suc (4 * k)))),
      pow-suc 2 (suc (suc (4 * k))),
      pow-suc 2 (suc (4 * k)),
      pow-suc 2 (4 * k),
      pow-suc 16 k,
      fours k,
    )

below_drop : (n : ℕ) (ds : List ℕ) → AllBelowBase 16 ds → AllBelowBase 16 (drop n ds)
below_drop zero ds small = small
below_drop (suc n) [] small = tt
below_drop (suc n) (d ∷ ds) small = below_drop n ds small.1

pub front_of_number : (n : ℕ) (ds : List ℕ) → n ≤ 16 → length ds ≡ 16 → AllBelowBase 16 ds
    → number_from_digits 16 ds / 2 ^ (64 - 4 * n) ≡ number_from_digits 16 (take n ds)
front_of_number n ds most long small =
    let v = number_from_digits 16 (take n ds) in
    let back = drop n ds in
    let whole : number_from_digits 16 ds ≡ number_from_digits_after 16 v back =
    ap (number_from_digits 16) (sym (take-append-drop n ds)) ∙ number_after_append 16 0
    (take n ds) back in
    let left : length back ≡ 16 - n = length-drop n ds ∙ ap (λ l. l - n) long in
    let exponent : 64 - 4 * n ≡ 4 * length back = omega (arith, left) in
    let power : 2 ^ (64 - 4 * n) ≡ 16 ^ length back = ap (λ k. 2 ^ k) exponent ∙
    fours (length back) in
    let after = number_from_digits_after 16 v back in
    let positive = pow_pos (64 - 4 * n) in
    let low : v * 16 ^ length back ≤ after = at_least v back in
    let high : after < (v + 1) * 16 ^ length back =
    number_after_lt 16 v back (below_drop n ds small) in
    rw (whole, power) (omega (
      arith,
      le-div v after (16 ^ length back)
          (omega (arith, positive, power)) low,
      div_below after (16 ^ length back) (v + 1)
          (omega (arith, positive, power)) high,
    ))

-- the number that the digits in front write
pub read_is : (text ds : List ℕ) (n value : ℕ) → 16 ≤ length text → length ds ≡ 16 →
    AllBelowBase 16 ds
    → n ≡ trailing_ones w64 (mask_l (map hex (take 16 text))) → value ≡ number_from_digits 16 ds
    → ((k : ℕ) → is_digit (get_or (take 16 text) k 0) 16 ≡ true →
    get_or ds k 0 ≡ digit_value (get_or (take 16 text) k 0))
    → (n ≤ 16) × WritesNumber 16 text (value / 2 ^ (64 - 4 * n), n)
read_is text ds n value room long small is number values =
    let bytes = take 16 text in
    let all : length bytes ≡ 16 = length-take-le 16 text room in
    let front = digits_in_front bytes n all is in
    let agree = values_in_front n bytes ds (omega (arith, front.0)) (omega (arith, long))
    front.1 values in
    let same : take n bytes ≡ take n text = take-take n 16 text front.0 in
    let read : value / 2 ^ (64 - 4 * n) ≡ digits_value 16 (take n bytes) =
    ap (λ v. v / 2 ^ (64 - 4 * n)) number ∙ front_of_number n ds front.0 long small ∙
    ap (number_from_digits 16) agree.1 ∙ sym (digits_value_is 16 (take n bytes)) in (
      front.0,
      (
        read ∙ ap (digits_value 16) same,
        subst (AllDigits 16) same agree.0,
        omega (arith, front.0),
      ),
    )
