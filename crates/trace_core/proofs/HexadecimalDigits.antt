-- Hexadecimal digits made all at once, the highest first.
use Rattle.std.proofs.Common.{◌≡◌, ℕ, zero, suc, ◌+◌, ◌-◌, ◌*◌, ◌/◌, ◌%◌, ◌^◌, ◌<◌, ◌≤◌, false}
use Rattle.std.proofs.Common.{cond, leb}
use Rattle.std.proofs.Common.{List, [], ◌∷◌, ◌++◌, map, length, get_or, take, reverse, w8, refl}
use Rattle.std.proofs.Common.{sym, ap, ◌∙◌}
use Rattle.std.proofs.Common.{subst, arith, append_assoc, append-nil, bit_and, pow-suc, eqb, eq-eqb}
use Rattle.std.proofs.Math.Nat.{div-div-eq-div-mul, mul-div_cancel, pow-le-pow_right, one-le-pow}
use Rattle.std.proofs.Math.Nat.{mul-lt-mul_of_pos_right, mod-eq_of_lt}
use Rattle.std.proofs.lemmas.Nat.{and_mask, pow-add, leading_top, div_below}
use Rattle.std.proofs.lemmas.List.{map-append, take-map}
use Rattle.std.proofs.lemmas.List.FromFn.{get_or-map-range_with_len}
use Rattle.std.proofs.lemmas.Simd.{get_or_narrower, swz_l, SwzOk, SwzOk-from_below}
use Rattle.std.proofs.lemmas.Bool.{ne_eqb, lt-leb}
use Rattle.std.specs.Fmt.{digits, digit_glyph}
use Rattle.std.specs.Int.{byte_at, bytes_high_first}
use Rattle.std.specs.Int.Digits.{AllBelowBase}
use Rattle.std.specs.Int.Count.{count_leading_zeros}
use Rattle.std.specs.List.{range_with_len}
use Rattle.std.specs.Simd.Lanes.{number_l, digits_l, Each1}
use Rattle.trace_core.specs.Text.{hexadecimal}
use Rattle.trace_core.specs.internal.HexadecimalDigits.{nibbles, hexadecimal_digits}
use Rattle.trace_core.proofs.Hexadecimal.{digits_before, digits_begin, digits_last, digits_more}

-- twice k
abbrev double : ℕ → ℕ
double zero = zero
double (suc k) = suc (suc (double k))

byte_is : (k n : ℕ) → byte_at k n ≡ n / 256 ^ k % 256
byte_is zero n = omega arith
byte_is (suc k) n = refl

pow_double : (k : ℕ) → 256 ^ k ≡ 16 ^ double k
pow_double zero = refl
pow_double (suc k) = omega (
  arith,
  pow_double k,
  pow-suc 256 k,
  pow-suc 16 (double k),
  pow-suc 16 (suc (double k)),
)

-- two nibbles of a byte in a lane of 16 bits, the first of them in the lower byte
abbrev wide : ℕ → ℕ
wide b = (b / 16 + bit_and b 15 * 256 % 65536) % 65536

wide_is : (b : ℕ) → b < 256 → wide b ≡ b / 16 + 256 * (b % 16)
wide_is b small = ap (λ x. (b / 16 + x * 256 % 65536) % 65536) (and_mask b 4) ∙ omega (arith, small)

narrow_are : (k n : ℕ) → digits_l 256 (double k) (number_l 65536 (map wide (bytes_high_first k n)))
    ≡ nibbles (double k) n
narrow_are zero n = refl
narrow_are (suc k) n =
    let b = byte_at k n in
    let q = n / 256 ^ k in
    let byte : b ≡ q % 256 = byte_is k n in
    let w = wide_is b (omega (arith, byte)) in
    let more = number_l 65536 (map wide (bytes_high_first k n)) in
    let lower : (wide b + 65536 * more) % 256 ≡ b / 16 = omega (arith, w, byte) in
    let upper : (wide b + 65536 * more) / 256 % 256 ≡ b % 16 = omega (arith, w, byte) in
    let rest : (wide b + 65536 * more) / 256 / 256 ≡ more = omega (arith, w, byte) in
    let same : q ≡ n / 16 ^ double k = ap (λ p. n / p) (pow_double k) in
    let next : n / 16 ^ suc (double k) ≡ q / 16 = ap (λ p. n / p) (pow-suc 16 (double k)) ∙
    sym (div-div-eq-div-mul n (16 ^ double k) 16) ∙ ap (λ x. x / 16) (sym same) in
    let first : b / 16 ≡ n / 16 ^ suc (double k) % 16 = omega (arith, byte, next) in
    let second : b % 16 ≡ n / 16 ^ double k % 16 = omega (arith, byte, same) in
    (λ i. lower i ∷ upper i ∷ digits_l 256 (double k) (rest i)) ∙
    (λ i. first i ∷ second i ∷ narrow_are k n i)

-- the bytes of a lane of 64 bits, the lowest first
abbrev lane_bytes : ℕ → List ℕ
lane_bytes n = digits_l 256 16 (number_l (2 ^ 64) (n ∷ 0 ∷ []))

lane_byte : (n i : ℕ) → n < 2 ^ 64 → i < 8 → get_or (lane_bytes n) i 0 ≡ byte_at i n
lane_byte n i fits below =
    let small : Each1 (λ x. x < 2 ^ 64) (n ∷ 0 ∷ []) = (fits, (omega arith, tt)) in
    let place : i ≡ 8 * 0 + i = omega arith in
    ap (λ k. get_or (lane_bytes n) k 0) place ∙
    get_or_narrower (2 ^ 64) 8 256 16 (n ∷ 0 ∷ []) 0 i refl small below (omega (arith, below)) ∙
    sym (byte_is i n)

bytes_are : (n : ℕ) → n < 2 ^ 64 → reverse (take 8 (lane_bytes n)) ≡ bytes_high_first 8 n
bytes_are n fits =
    let byte = λ (i : ℕ) (below : i < 8). lane_byte n i fits below in
    let b7 = byte 7 (omega arith) in
    let b6 = byte 6 (omega arith) in
    let b5 = byte 5 (omega arith) in
    let b4 = byte 4 (omega arith) in
    let b3 = byte 3 (omega arith) in
    let b2 = byte 2 (omega arith) in
    let b1 = byte 1 (omega arith) in
    let b0 = byte 0 (omega arith) in
    λ i. b7 i ∷ b6 i ∷ b5 i ∷ b4 i ∷ b3 i ∷ b2 i ∷ b1 i ∷ b0 i ∷ []

pub nibbles_from_number : (n : ℕ) → n < 2 ^ 64 →
    digits_l 256 16 (number_l 65536 (map wide (reverse (take 8 (lane_bytes n))))) ≡ nibbles 16 n
nibbles_from_number n fits =
    ap (λ bytes. digits_l 256 16 (number_l 65536 (map wide bytes))) (bytes_are n fits) ∙
    narrow_are 8 n

pub nibbles_small : (k n : ℕ) → AllBelowBase 16 (nibbles k n)
nibbles_small zero n = tt
nibbles_small (suc k) n = (omega arith, nibbles_small k n)

-- the lanes of a table that are named
abbrev pub table : List ℕ
table = 48 ∷ 49 ∷ 50 ∷ 51 ∷ 52 ∷ 53 ∷ 54 ∷ 55 ∷ 56 ∷ 57 ∷ 97 ∷ 98 ∷ 99 ∷ 100 ∷ 101 ∷ 102 ∷ []

table_is : map (λ d. get_or table d 0) (range_with_len 0 16) ≡
    map (digit_glyph false) (range_with_len 0 16)
table_is = refl

entry_is : (d : ℕ) → d < 16 → get_or table d 0 ≡ digit_glyph false d
entry_is d below =
    sym (get_or-map-range_with_len (λ e. get_or table e 0) 0 16 d d 0 below (omega arith)) ∙
    ap (λ t. get_or t d 0) table_is ∙
    get_or-map-range_with_len (digit_glyph false) 0 16 d d 0 below (omega arith)

abbrev looked_up : ℕ → ℕ → ℕ
looked_up i d = cond (leb 128 d) zero (get_or table (16 * (i / 16) + d) zero)

looked_up_is : (i d : ℕ) → i < 16 → d < 16 → looked_up i d ≡ digit_glyph false d
looked_up_is i d within below =
    let place : 16 * (i / 16) + d ≡ d = omega (arith, within) in
    ap (λ b. cond b zero (get_or table (16 * (i / 16) + d) zero)) (lt-leb 128 d (omega arith)) ∙
    ap (λ at. get_or table at zero) place ∙ entry_is d below

looked_up_all : (i : ℕ) (ds : List ℕ) → i + length ds ≤ 16 → AllBelowBase 16 ds →
    swz_l w8 16 table i ds ≡ map (digit_glyph false) ds
looked_up_all i [] within small = refl
looked_up_all i (d ∷ ds) within small =
    let first = looked_up_is i d (omega arith) small.0 in
    let rest = looked_up_all (suc i) ds (omega arith) small.1 in
    λ j. first j ∷ rest j

pub glyphs_are : (ds : List ℕ) → length ds ≡ 16 → AllBelowBase 16 ds →
    swz_l w8 16 table 0 ds ≡ map (digit_glyph false) ds
glyphs_are ds long small = looked_up_all 0 ds (omega arith) small

below_all : (ds : List ℕ) → AllBelowBase 16 ds → Each1 (λ d. d < 16) ds
below_all [] small = tt
below_all (d ∷ ds) small = (small.0, below_all ds small.1)

pub lanes_ok : (ds : List ℕ) → length ds ≡ 16 → AllBelowBase 16 ds → SwzOk w8 16 16 0 ds
lanes_ok ds long small = SwzOk-from_below w8 16 1 16 0 ds refl (omega arith) (below_all ds small)

-- the last digit apart
nibbles_last : (k n : ℕ) → nibbles (suc k) n ≡ nibbles k (n / 16) ++ (n % 16 ∷ [])
nibbles_last zero n = let one : n / 16 ^ 0 % 16 ≡ n % 16 = omega arith in ap (λ d. d ∷ []) one
nibbles_last (suc k) n =
    let first : n / 16 ^ suc k ≡ n / 16 / 16 ^ k =
    ap (λ p. n / p) (omega (arith, pow-suc 16 k)) ∙ sym (div-div-eq-div-mul n 16 (16 ^ k)) in
    let rest = nibbles_last k n in
    λ i. first i % 16 ∷ rest i

digits_last_apart : (k n : ℕ) → hexadecimal_digits (suc k) n ≡
    hexadecimal_digits k (n / 16) ++ (digit_glyph false (n % 16) ∷ [])
digits_last_apart k n = ap (map (digit_glyph false)) (nibbles_last k n) ∙
    map-append (digit_glyph false) (nibbles k (n / 16)) (n % 16 ∷ [])

not_zero : (n : ℕ) → 1 ≤ n → eqb n 0 ≡ false
not_zero n some = ne_eqb _ _ (λ none. omega (arith, none, some))

-- a number with suc k digits, written before some digits
digits_before_are : (k most n : ℕ) (acc : List ℕ) → suc k ≤ most → n < 16 ^ suc k →
    (0 < k → 16 ^ k ≤ n) → digits_before most n acc ≡ hexadecimal_digits (suc k) n ++ acc
digits_before_are zero most n acc room fits high =
    let none : n / 16 ≡ 0 = omega (arith, fits) in
    digits_last most n acc (omega arith) (eq-eqb _ _ none) ∙
    ap (λ ds. ds ++ acc) (sym (digits_last_apart zero n))
digits_before_are (suc k) most n acc room fits high =
    let enough : 16 ^ suc k ≤ n = high (omega arith) in
    let power = pow-suc 16 k in
    let some : 1 ≤ n / 16 = omega (arith, enough, power, one-le-pow k 16 (omega arith)) in
    let last = digit_glyph false (n % 16) in
    digits_more most n acc (omega arith) (not_zero (n / 16) some) ∙
    digits_before_are k (most - 1) (n / 16) (last ∷ acc) (omega arith)
    (div_below n 16 (16 ^ suc k) (omega arith) (subst (λ (m : ℕ). n < m) (pow-suc 16 (suc k)) fits))
    (λ _. omega (arith, enough, power)) ∙
    sym (append_assoc (hexadecimal_digits (suc k) (n / 16)) (last ∷ []) acc) ∙
    ap (λ ds. ds ++ acc) (sym (digits_last_apart (suc k) n))

pow_sixteen : (k : ℕ) → 16 ^ k ≡ 2 ^ (4 * k)
pow_sixteen zero = refl
pow_sixteen (suc k) =
    let four : 2 ^ (4 * suc k) ≡ 2 ^ (4 * k) * 2 ^ 4 = ap (λ e. 2 ^ e) (omega arith) ∙
    pow-add 2 (4 * k) 4 in
    omega (arith, pow_sixteen k, pow-suc 16 k, four)

-- how many digits a number has, by its leading zeros
pub length_is : (n larger count : ℕ) → n < 2 ^ 64 → 1 ≤ larger → larger < 2 ^ 64 → n ≤ larger →
    (1 < larger → larger ≡ n) → count ≡ 16 - count_leading_zeros 64 larger / 4 →
    (n < 16 ^ count) × (hexadecimal_digits count n ≡ hexadecimal n)
unfolding digits
length_is n larger count fits some high_fits most same is = (below, whole)
  where
    top : (j : ℕ) × (count_leading_zeros 64 larger + suc j ≡ 64) × (2 ^ j ≤ larger) × (larger < 2
        ^ suc j)
    top = leading_top 64 larger (omega arith) high_fits

    j : ℕ
    j = top.0

    k : ℕ
    k = j / 4

    one_more : count ≡ suc k
    one_more = omega (arith, is, top.1)

    below_top : 2 ^ suc j ≤ 16 ^ suc k
    below_top = subst (λ (m : ℕ). 2 ^ suc j ≤ m) (sym (pow_sixteen (suc k)))
        (pow-le-pow_right {n = 2} (omega arith) {i = suc j} {j = 4 * suc k} (omega arith))

    fits_in : n < 16 ^ suc k
    fits_in = omega (arith, below_top, top.3, most)

    below : n < 16 ^ count
    below = subst (λ (m : ℕ). n < 16 ^ m) (sym one_more) fits_in

    above : 0 < k → 16 ^ k ≤ n
    above more =
        let low : 2 ^ (4 * k) ≤ 2 ^ j = pow-le-pow_right {n = 2} (omega arith) {i = 4 * k} {j =
        j} (omega arith) in
        let sixteen : 2 ^ 4 ≤ 2 ^ (4 * k) = pow-le-pow_right {n = 2} (omega arith) {i = 4} {j = 4
        * k} (omega arith) in
        omega (arith, pow_sixteen k, low, top.2, same (omega (arith, sixteen, low, top.2)))

    whole : hexadecimal_digits count n ≡ hexadecimal n
    whole = ap (λ c. hexadecimal_digits c n) one_more ∙ sym (append-nil (hexadecimal_digits (suc
        k) n)) ∙
        sym (digits_begin n [] refl ∙ digits_before_are k 16 n [] (omega (arith, top.1)) fits_in
        above)

-- the first digits of a number that has some zeros appended
front_is : (k j all n : ℕ) → all ≡ k + j → take k (nibbles all (n * 16 ^ j)) ≡ nibbles k n
front_is zero j all n is = refl
front_is (suc k) j zero n is = absurd (omega (arith, is))
front_is (suc k) j (suc all) n is =
    let same : all ≡ k + j = omega (arith, is) in
    let power : 16 ^ all ≡ 16 ^ j * 16 ^ k = ap (λ e. 16 ^ e) same ∙ omega (
      arith,
      pow-add 16 k
          j,
    ) in
    let first : n * 16 ^ j / 16 ^ all ≡ n / 16 ^ k = ap (λ p. n * 16 ^ j / p) power ∙
    sym (div-div-eq-div-mul (n * 16 ^ j) (16 ^ j) (16 ^ k)) ∙
    ap (λ x. x / 16 ^ k) (mul-div_cancel n (one-le-pow j 16 (omega arith))) in
    let rest = front_is k j all n same in
    λ i. first i % 16 ∷ rest i

pub front_digits : (n count moved : ℕ) → count ≤ 16 → n < 16 ^ count →
    moved ≡ n * 2 ^ (64 - 4 * count) % 2 ^ 64 →
    take count (hexadecimal_digits 16 moved) ≡ hexadecimal_digits count n
front_digits n count moved most fits is =
    let zeros = 16 - count in
    let shift : 64 - 4 * count ≡ 4 * zeros = omega (arith, most) in
    let all : count + zeros ≡ 16 = omega (arith, most) in
    let power : 2 ^ (64 - 4 * count) ≡ 16 ^ zeros = ap (λ e. 2 ^ e) shift ∙
    sym (pow_sixteen zeros) in
    let whole : 16 ^ count * 16 ^ zeros ≡ 2 ^ 64 = sym (pow-add 16 count zeros) ∙
    ap (λ e. 16 ^ e) all in
    let small : n * 16 ^ zeros < 2 ^ 64 = subst (λ (m : ℕ). n * 16 ^ zeros < m) whole
    (mul-lt-mul_of_pos_right fits (one-le-pow zeros 16 (omega arith))) in
    let same : moved ≡ n * 16 ^ zeros = is ∙ ap (λ p. n * p % 2 ^ 64) power ∙
    mod-eq_of_lt small in
    take-map (digit_glyph false) count (nibbles 16 moved) ∙
    ap (map (digit_glyph false)) (ap (λ m. take count (nibbles 16 m)) same ∙
    front_is count zeros 16 n (sym all))
