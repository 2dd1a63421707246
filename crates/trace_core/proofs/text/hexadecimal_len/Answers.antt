-- The leading zeros of a number tell how many digits it has.
use Rattle.std.proofs.Common.{◌<◌, ◌-◌, ◌/◌, ◌^◌, ◌≡◌, refl, arith}
use Rattle.std.specs.Int.Count.{count_leading_zeros}
use Rattle.trace_core.specs.Text.{hexadecimal}
use Rattle.trace_core.specs.internal.HexadecimalDigits.{hexadecimal_digits}
use Rattle.trace_core.proofs.HexadecimalDigits.{length_is}
use Rattle.trace_core.proofs.text.hexadecimal_len.Goals as goal

told : (c : goal.After-max) → let count = 16 - count_leading_zeros 64 c.max.result / 4 in
    (c.args.number < 16 ^ count) ×
    (hexadecimal_digits count c.args.number ≡ hexadecimal c.args.number)
told c = length_is c.args.number c.max.result (16 - count_leading_zeros 64 c.max.result / 4)
    c.ranges.number.fits (omega (arith, c.max.ensures))
    c.max.type_inv (omega (arith, c.max.ensures)) (λ more. omega (arith, more, c.max.ensures)) refl

pub returns-clause-fits : goal.returns-clause-fits
returns-clause-fits c = (told c).0

pub returns-clause-value : goal.returns-clause-value
returns-clause-value c = (told c).1
