-- A text of digits alone is what `parse` reads, and any other is no number.
use Rattle.std.proofs.Common.{◌∙◌, sym}
use Rattle.arguments.proofs.NumberLemmas.{digits_parsed, not_digits}
use Rattle.arguments.proofs.numbers.read_number.Goals as goal

pub returns-then-has_only_digits : goal.returns-then-has_only_digits
returns-then-has_only_digits c =
    c.ok.ensures.value ∙ digits_parsed c.args.text.now c.parse.result c.parse.ensures.value.0
    (sym c.has_only_digits.ensures ∙ c.if-has_only_digits.true)

pub returns-else-has_only_digits : goal.returns-else-has_only_digits
returns-else-has_only_digits c = not_digits c.args.text.now (sym c.has_only_digits.ensures ∙
    c.if-has_only_digits.false)
