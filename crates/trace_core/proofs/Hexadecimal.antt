-- Hexadecimal digits, written from the last one to the first.
use Rattle.std.proofs.Common.{◌≡◌, ℕ, zero, suc, ◌+◌, ◌-◌, ◌/◌, ◌%◌, ◌≤◌, Bool, false}
use Rattle.std.proofs.Common.{true, cond, eqb, List, [], ◌∷◌, sym, ap, ◌∙◌, arith}
use Rattle.std.proofs.Math.Nat.{add-suc}
use Rattle.std.specs.Fmt.{digits, digits_onto, digit_glyph}

-- the digits of n before some digits, where at most 48 + most of them come
unfoldable pub digits_before : ℕ → ℕ → List ℕ → List ℕ
digits_before most n acc = digits_onto (48 + most) 16 false n acc

pub digits_begin : (n : ℕ) (acc : List ℕ) → acc ≡ [] → digits 16 false n ≡ digits_before 16 n acc
unfolding digits digits_before
digits_begin n acc none = ap (digits_onto 64 16 false n) (sym none)

-- the digits once the last one is written, by whether it is the only one
abbrev after_one : ℕ → ℕ → List ℕ → Bool → List ℕ
after_one most n acc alone =
    let written = digit_glyph false (n % 16) ∷ acc in
    cond alone written (digits_before most (n / 16) written)

one_step : (most n : ℕ) (acc : List ℕ) → digits_before (suc most) n acc ≡ after_one most n acc
    (eqb (n / 16) 0)
unfolding digits_before
one_step most n acc = ap (λ k. digits_onto k 16 false n acc) (add-suc 48 most)

pub digits_last : (most n : ℕ) (acc : List ℕ) → 1 ≤ most → eqb (n / 16) 0 ≡ true →
    digits_before most n acc ≡ digit_glyph false (n % 16) ∷ acc
digits_last zero n acc some last = absurd (omega arith)
digits_last (suc most) n acc some last = one_step most n acc ∙ ap (after_one most n acc) last

pub digits_more : (most n : ℕ) (acc : List ℕ) → 1 ≤ most → eqb (n / 16) 0 ≡ false
    → digits_before most n acc ≡ digits_before (most - 1) (n / 16)
    (digit_glyph false (n % 16) ∷ acc)
digits_more zero n acc some more = absurd (omega arith)
digits_more (suc most) n acc some more =
    let less : most ≡ suc most - 1 = omega arith in
    one_step most n acc ∙ ap (after_one most n acc) more ∙
    ap (λ k. digits_before k (n / 16) (digit_glyph false (n % 16) ∷ acc)) less
