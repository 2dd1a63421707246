-- The digits in front of sixteen bytes, where they are as many as is said.
use Rattle.std.proofs.Common.{arith, ◌*◌, ◌-◌, ◌/◌, ◌≤◌, ◌^◌, ◌∙◌, ap, w64, sym}
use Rattle.std.specs.Int.{trailing_ones}
use Rattle.trace_core.specs.Fields.{WritesNumber}
use Rattle.trace_core.proofs.SixteenBytes.{read_is}
use Rattle.trace_core.proofs.digits.hexadecimal_of.Goals as goal

front : (c : goal.After-number_of) → (c.args.len ≤ 16)
    × WritesNumber 16 c.args.text.now (c.number_of.result / 2 ^ (64 - 4 * c.args.len), c.args.len)
front c =
    let values = c.digit_values.ensures in
    read_is c.args.text.now c.digit_values.result c.args.len c.number_of.result
    c.requires.room values.lanes values.below
    (sym c.if-trailing_ones-len.false ∙ c.trailing_ones.ensures ∙
    ap (trailing_ones w64) c.digit_mask.ensures) c.number_of.ensures values.values

pub overflow_sub-result : goal.overflow_sub-result
overflow_sub-result c = omega (arith, (front c).0)

pub returns-clause-value : goal.returns-clause-value
returns-clause-value c = (front c).1

pub returns-clause-most : goal.returns-clause-most
returns-clause-most c = (front c).0
