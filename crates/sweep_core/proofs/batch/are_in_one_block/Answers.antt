-- Two numbers are in one block exactly if they differ in no bit above its own.
use Rattle.std.proofs.Common.{◌≡◌, ℕ, ◌/◌, ◌^◌, ◌∙◌, Bool, true, false, eqb, ltb}
use Rattle.std.proofs.Common.{refl, sym, ap, arith, bit_xor, pow_pos}
use Rattle.std.specs.Int.Bits.{xor_self, xor_add_and}
use Rattle.std.proofs.lemmas.Bool.{eqb-true, eqb-false, ltb-true, ltb-false}
use Rattle.std.proofs.lemmas.Nat.{xor_shr, and_le_l, and_le_r, div_below, le-div}
use Rattle.sweep_core.proofs.batch.are_in_one_block.Goals as goal

-- numbers that differ in no bit are the same
no-difference : (a b : ℕ) → bit_xor a b ≡ 0 → a ≡ b
no-difference a b none = omega (arith, none, xor_add_and a b, and_le_l a b, and_le_r a b)

same-block : (k a b : ℕ) → ltb (bit_xor a b) (2 ^ k) ≡ eqb (a / 2 ^ k) (b / 2 ^ k)
same-block k a b = by_case (ltb x (2 ^ k)) (eqb q r) refl refl
  where
    x : ℕ
    x = bit_xor a b

    q : ℕ
    q = a / 2 ^ k

    r : ℕ
    r = b / 2 ^ k

    by_case : (s t : Bool) → ltb x (2 ^ k) ≡ s → eqb q r ≡ t → ltb x (2 ^ k) ≡ eqb q r
    by_case true true is same = is ∙ sym same
    by_case false false is same = is ∙ sym same
    by_case true false is same =
        let least = div_below x (2 ^ k) 1 (pow_pos k) (omega (arith, ltb-true _ _ is)) in
        absurd (eqb-false q r same (no-difference q r (sym (xor_shr a b k) ∙ omega (arith, least))))
    by_case false true is same =
        let most = le-div 1 x (2 ^ k) (pow_pos k) (omega (arith, ltb-false _ _ is)) in
        absurd (omega (
          arith,
          most,
          xor_shr a b k,
          ap (λ n. bit_xor n r) (eqb-true q r same),
          xor_self r,
        ))

pub returns : goal.returns
returns c = λ bits is. ap (ltb (bit_xor c.args.a c.args.b)) is ∙ same-block bits c.args.a c.args.b
