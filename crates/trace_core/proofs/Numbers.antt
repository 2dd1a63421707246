-- The number that digits in front of a text write.
use Rattle.std.proofs.Common.{◌≡◌, ℕ, ◌+◌, ◌*◌, ◌<◌, ◌≤◌, ◌^◌, ◌⊎◌, inl, inr, Bool, true, false}
use Rattle.std.proofs.Common.{List, [], ◌∷◌, ◌++◌, length, take, drop, get_or, Some, refl, sym, ap}
use Rattle.std.proofs.Common.{◌∙◌, ◌-◌, arith, rules, tests, ltb, leb, nat_lt, if◌then◌else◌}
use Rattle.std.specs.List.{list_all}
use Rattle.std.specs.Char.{digit_value, is_digit}
use Rattle.std.specs.Str.Parse.{AllDigits, digits_value}
use Rattle.std.proofs.Math.Nat.{pow-le-pow_right}
use Rattle.std.proofs.lemmas.List.{length-take-le, take-append-drop}
use Rattle.std.proofs.lemmas.Int.Digits.{digits_value-lt, digits_value_more, digits_more}
use Rattle.trace_core.specs.Fields.{WritesNumber, number_written}
use Rattle.trace_core.specs.declared.digits.TheConstants.{NO_DIGIT}

-- what the table has for a byte
abbrev pub entry : ℕ → ℕ
entry c = if is_digit c 16 then digit_value c else NO_DIGIT

abbrev Known : ℕ → Type 0
Known c = ((entry c ≡ digit_value c) × (digit_value c < 16)) ⊎
    ((entry c ≡ NO_DIGIT) × (16 ≤ digit_value c))

known : (c : ℕ) → Known c
known c = by_case (is_digit c 16) refl
  where
    by_case : (t : Bool) → is_digit c 16 ≡ t → Known c
    by_case true is = inl (rw is refl, search (rules, tests))
    by_case false is = inr (rw is refl, search (rules, tests))

pub at_most : (c : ℕ) → entry c ≤ NO_DIGIT
at_most c = by_case (known c)
  where
    by_case : Known c → entry c ≤ NO_DIGIT
    by_case (inl digit) = omega (arith, digit.0, digit.1)
    by_case (inr other) = omega (arith, other.0)

-- a byte whose entry is below a radix is a digit in it
pub digit-below : (c radix : ℕ) → radix ≤ 16 → entry c < radix → (entry c ≡ digit_value c) ×
    (digit_value c < radix)
digit-below c radix small below = by_case (known c)
  where
    by_case : Known c → (entry c ≡ digit_value c) × (digit_value c < radix)
    by_case (inl digit) = (digit.0, omega (arith, digit.0, below))
    by_case (inr other) = absurd (omega (arith, other.0, below))

pub no-digit : (c radix : ℕ) → radix ≤ 16 → radix ≤ entry c → is_digit c radix ≡ false
no-digit c radix small above = by_case (known c)
  where
    by_case : Known c → is_digit c radix ≡ false
    by_case (inl digit) = let high : radix ≤ digit_value c = omega (arith, digit.0, above) in
        search (rules, tests)
    by_case (inr other) = let high : radix ≤ digit_value c = omega (arith, other.1) in
        search (rules, tests)

-- one digit more
pub writes-more : (radix : ℕ) (text : List ℕ) (value at digit : ℕ) → at < length text →
    digit ≡ digit_value (get_or text at 0)
    → digit_value (get_or text at 0) < radix → WritesNumber radix text (value, at) →
    WritesNumber radix text (value * radix + digit, at + 1)
writes-more radix text value at digit inside is below written = (
  omega (arith, is, ap (λ v. v * radix) written.0, digits_value_more radix text at inside),
  digits_more radix text at inside written.1 below,
  omega arith,
)

module _ (radix most : ℕ) (some : 0 < radix) where
  pub number-fits : (ds : List ℕ) (i : ℕ) → i < length ds → i < most → AllDigits radix (take i ds) →
      digit_value (get_or ds i 0) < radix
      → digits_value radix (take i ds) * radix + digit_value (get_or ds i 0) < radix ^ most
  number-fits ds i inside short digits digit =
      let below = digits_value-lt radix (take (i + 1) ds)
      (digits_more radix ds i inside digits digit) in
      let power = pow-le-pow_right some {i = length (take (i + 1) ds)} {j = most}
      (omega (arith, length-take-le (i + 1) ds (omega arith))) in
      omega (arith, below, power, digits_value_more radix ds i inside)

  value-below : (ds : List ℕ) → length ds ≤ most → AllDigits radix ds →
      digits_value radix ds < radix ^ most
  value-below ds short digits =
      let below = digits_value-lt radix ds digits in
      let power = pow-le-pow_right some {i = length ds} {j = most} short in
      omega (arith, below, power)

  -- the value of the first digits
  pub value-of_front : (ds : List ℕ) (n value : ℕ) → n ≤ length ds → n ≤ most →
      AllDigits radix (take n ds) → value ≡ digits_value radix (take n ds)
      → value < radix ^ most
  value-of_front ds n value within short digits is =
      omega (arith, value-below (take n ds) (omega (arith, length-take-le n ds within)) digits, is)

  all_digits : (ds : List ℕ) → AllDigits radix ds → list_all (λ c. is_digit c radix) ds ≡ true
  all_digits [] digits = refl
  all_digits (c ∷ cs) digits =
      let first : ltb (digit_value c) radix ≡ true = search (rules, tests, digits.0) in
      rw first (all_digits cs digits.1)

  pub number_written-some : (ds : List ℕ) → 1 ≤ length ds → length ds ≤ most → AllDigits radix ds
      → number_written radix most ds ≡ Some (digits_value radix ds)
  number_written-some ds low high digits =
      let at_least : leb 1 (length ds) ≡ true = search (rules, tests) in
      let at_most : leb (length ds) most ≡ true = search (rules, tests) in
      rw (at_least, at_most, all_digits ds digits) refl

  -- a text is the digits in front, which write a number, and the rest
  pub number-front : (text : List ℕ) (n value : ℕ) (rest : List ℕ) →
      WritesNumber radix text (value, n) → 1 ≤ n → n ≤ most → rest ≡ drop n text
      → (digits : List ℕ) × (text ≡ digits ++ rest) ×
      (number_written radix most digits ≡ Some value)
  number-front text n value rest written low high is =
      let len = length-take-le n text (omega (arith, written.2)) in (
        take n text,
        sym (take-append-drop n text) ∙ ap (λ back. take n text ++ back) (sym is),
        number_written-some (take n text) (omega (arith, len)) (omega (arith, len)) written.1 ∙
            ap Some (sym written.0),
      )

-- a decimal digit writes its value
digit-is : (d : ℕ) → 48 ≤ d → d ≤ 57 → digit_value d ≡ d - 48
digit-is d low high =
    let a : nat_lt d 48 ≡ false = search (rules, tests) in
    let b : nat_lt d 58 ≡ true = search (rules, tests) in
    rw (a, b) refl

pub one_digit : (d : ℕ) → 48 ≤ d → d ≤ 57 → number_written 10 9 (d ∷ []) ≡ Some (d - 48)
one_digit d low high =
    let all : digits_value 10 (d ∷ []) ≡ d - 48 = omega (arith, digit-is d low high) in
    number_written-some 10 9 (omega arith) (d ∷ []) (omega arith) (omega arith)
    (omega (arith, digit-is d low high), tt) ∙ ap Some all
