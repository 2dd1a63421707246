-- What a text of digits is read as.
use Rattle.std.proofs.Common.{◌≡◌, ◌<◌, ◌==◌, ◌^◌, ◌+◌, ℕ, Bool, true, false, List, [], ◌∷◌, length}
use Rattle.std.proofs.Common.{nat_lt, Some, None, Result, Ok, Err, refl, rules, arith, ap, ap₂}
use Rattle.std.proofs.Common.{lt-ltb, ltb-true, Option, option_map}
use Rattle.std.specs.Borrow.{Bor}
use Rattle.std.specs.Prelude.{MatchOption}
use Rattle.std.specs.List.{after_first, before_first, list_all, list_any, position_or_len}
use Rattle.std.specs.Result.{result_ok, OkIff}
use Rattle.std.specs.Char.{is_ascii_digit}
use Rattle.std.specs.Str.Parse.{ParsesUnsigned}
use Rattle.std.proofs.lemmas.Str.Parse.{IsDigitsTest, IsNumeralModel, WeighsDigits}
use Rattle.std.proofs.lemmas.Str.Parse.{numerals_by_weight, parse_digits}
use Rattle.cache_core.proofs.Lists.{list_any_is}
use Rattle.arguments.specs.Numbers.{number_of, split_at, value_of_digits}

pub weighs : WeighsDigits value_of_digits
weighs = search rules

pub digits_test : IsDigitsTest (λ ds. list_all is_ascii_digit ds ≡ true)
digits_test = search rules

pub own : IsNumeralModel (λ ds. list_all is_ascii_digit ds ≡ true) value_of_digits
own = numerals_by_weight _ digits_test value_of_digits weighs

module _ {E : Type 0} (t : List ℕ) where
  parsed_as : (r : Result ℕ E) → OkIff r ((0 < length t) × (value_of_digits t < 2 ^ 64))
      (value_of_digits t) → list_all is_ascii_digit t ≡ true
      → result_ok r ≡ number_of t
  parsed_as (Ok n) k digits = rw (
    digits,
    lt-ltb 0 (length t) k.0.0,
    lt-ltb (value_of_digits t)
        (2 ^ 64) k.0.1,
  ) (ap Some k.1)
  parsed_as (Err x) k digits = refused (nat_lt 0 (length t))
      (nat_lt (value_of_digits t) (2 ^ 64)) refl refl
    where
      refused : (a b : Bool) → nat_lt 0 (length t) ≡ a → nat_lt (value_of_digits t) (2 ^ 64) ≡ b →
          None ≡ number_of t
      refused false b p q = rw p refl
      refused true false p q = rw (p, digits, q) refl
      refused true true p q = absurd (k (ltb-true _ _ p, ltb-true _ _ q))

  -- digits alone, that `parse` takes or refuses
  pub digits_parsed : (r : Result ℕ E) → ParsesUnsigned 64 10 t r →
      list_all is_ascii_digit t ≡ true → result_ok r ≡ number_of t
  digits_parsed r h digits = parsed_as r (parse_digits own 64 t r h digits) digits

-- and what is no digits
pub not_digits : (t : List ℕ) → list_all is_ascii_digit t ≡ false → None ≡ number_of t
not_digits t e = go (nat_lt 0 (length t)) refl
  where
    go : (b : Bool) → nat_lt 0 (length t) ≡ b → None ≡ number_of t
    go true p = rw (p, e) refl
    go false p = rw p refl

-- no element passes where a search finds no place
pub no_place : (p : ℕ → Bool) (xs : List ℕ) → position_or_len p xs ≡ length xs →
    list_any p xs ≡ false
no_place p [] e = refl
no_place p (x ∷ xs) e = go (p x) refl (no_place p xs)
  where
    go : (b : Bool) → p x ≡ b → (position_or_len p xs ≡ length xs → list_any p xs ≡ false) →
        list_any p (x ∷ xs) ≡ false
    go true q rec =
        let bad : 0 ≡ length (x ∷ xs) = rw q at e in
        absurd (omega arith)
    go false q rec =
        let rest : 1 + position_or_len p xs ≡ length (x ∷ xs) = rw q at e in
        rw q (rec (omega arith))

-- a text that is split at a byte, and one that lacks it
pub parted : (c : ℕ) (t : List ℕ) (r : Option (Bor (List ℕ) × Bor (List ℕ)))
    → MatchOption r (position_or_len (λ b. b == c) t ≡ length t)
    (λ x. (x.0.now ≡ before_first (λ b. b == c) t) × (x.1.now ≡ after_first (λ b. b == c) t) ×
    (position_or_len (λ b. b == c) t < length t))
    → option_map (λ parts. (parts.0.now, parts.1.now)) r ≡ split_at c t
parted c t None h = rw (no_place (λ b. b == c) t h) refl
parted c t (Some x) h = rw (list_any_is (λ b. b == c) t, lt-ltb _ _ h.2)
    (ap₂ (λ a b. Some (a, b)) h.0 h.1)
