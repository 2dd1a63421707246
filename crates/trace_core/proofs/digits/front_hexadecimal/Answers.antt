-- The digits in front of sixteen bytes.
use Rattle.std.proofs.Common.{arith, ◌*◌, ◌-◌, ◌/◌, ◌≤◌, ◌^◌, ◌∙◌, ap, w64}
use Rattle.std.specs.Int.{trailing_ones}
use Rattle.trace_core.specs.Fields.{WritesNumber}
use Rattle.trace_core.proofs.SixteenBytes.{read_is}
use Rattle.trace_core.proofs.digits.front_hexadecimal.Goals as goal

front : (c : goal.After-number_of) → (c.trailing_ones-len.result ≤ 16)
    × WritesNumber 16 c.args.text.now
    (c.number_of.result / 2 ^ (64 - 4 * c.trailing_ones-len.result), c.trailing_ones-len.result)
front c =
    let values = c.digit_values.ensures in
    read_is c.args.text.now c.digit_values.result c.trailing_ones-len.result c.number_of.result
    c.requires.room values.lanes values.below
    (c.trailing_ones-len.ensures ∙ ap (trailing_ones w64) c.digit_mask.ensures) c.number_of.ensures
    values.values

pub overflow_sub-result : goal.overflow_sub-result
overflow_sub-result c = omega (arith, (front c).0)

pub returns-clause-value : goal.returns-clause-value
returns-clause-value c = (front c).1

pub returns-clause-most : goal.returns-clause-most
returns-clause-most c = (front c).0
