-- The number of a control character has two digits.
use Rattle.std.proofs.Common.{◌<◌, ◌≡◌, ℕ, Some, true, ap, rules, arith, [], ◌∷◌, ◌/◌, ◌%◌, false}
use Rattle.std.specs.Char.{is_control}
use Rattle.std.specs.Fmt.{digit_glyph, styled_digits_output}
use Rattle.std.proofs.lemmas.Bool.Decides.{nat_tests}
use Rattle.std.proofs.lemmas.Grind.{common_steps}
use Rattle.std.proofs.lemmas.Fmt.{hex_byte}
use Rattle.cachesim.proofs.faults.write_letter.Goals as goal

small : (c : ℕ) → is_control c ≡ true → c < 256
small c h = grind (arith, nat_tests, common_steps)

pub returns-then-is_control : goal.returns-then-is_control
returns-then-is_control g c plain ok =
    let n : ℕ = c.args.letter in
    let control : is_control n ≡ true = grind (arith, common_steps) in
    let digits : styled_digits_output c.in_radix.result c.laid_out.result
    ≡ Some (digit_glyph false (n / 16) ∷ digit_glyph false (n % 16) ∷ []) =
    rw (c.in_radix.ensures, c.laid_out.ensures)
    (ap (λ t. Some t) (hex_byte false n (small n control))) in
    rw control ((rw digits at c.write.ensures.writes) plain ok)
