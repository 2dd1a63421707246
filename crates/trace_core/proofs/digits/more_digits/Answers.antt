-- One digit more keeps the value within its bound.
use Rattle.std.proofs.Common.{arith, ap, ◌≡◌, ◌<◌, ◌+◌, ◌*◌, ◌^◌, ℕ, get_or}
use Rattle.std.specs.Char.{digit_value}
use Rattle.trace_core.proofs.Numbers.{digit-below, no-digit, number-fits, writes-more}
use Rattle.trace_core.proofs.digits.more_digits.Goals as goal

abbrev byte : goal.Else-digit-radix → ℕ
byte c = get_or c.args.text.now c.loop-at.at 0

step : (c : goal.Else-digit-radix) → ((c.hexadecimal_digit-digit.result ≡ digit_value (byte c)) ×
    (digit_value (byte c) < c.args.radix))
    × (c.loop-at.value * c.args.radix + c.hexadecimal_digit-digit.result < 2 ^ 64)
step c =
    let text = c.args.text.now in
    let at = c.loop-at.at in
    let is = c.hexadecimal_digit-digit.ensures in
    let digit = digit-below (byte c) c.args.radix c.requires.known (omega (arith, is)) in
    let written = c.loop-at.invariant in
    let fits = number-fits c.args.radix c.args.end c.requires.some text at (omega arith)
    (omega arith) written.1 digit.1 in (
      (omega (arith, is, digit.0), digit.1),
      omega (
        arith,
        fits,
        is,
        digit.0,
        ap (λ v. v * c.args.radix) written.0,
        c.requires.fits,
      ),
    )

pub overflow_mul-value : goal.overflow_mul-value
overflow_mul-value c = omega (arith, (step c).1)

pub overflow_add-value : goal.overflow_add-value
overflow_add-value c = omega (arith, (step c).1)

pub loop-at-preserved : goal.loop-at-preserved
loop-at-preserved c =
    let digit = (step c).0 in
    writes-more c.args.radix c.args.text.now c.loop-at.value c.loop-at.at _ (omega arith) digit.0
    digit.1 c.loop-at.invariant

pub returns-then-digit-radix-clause-stops : goal.returns-then-digit-radix-clause-stops
returns-then-digit-radix-clause-stops c = λ short.
    no-digit (get_or c.args.text.now c.loop-at.at 0) c.args.radix c.requires.known
    (omega (arith, c.hexadecimal_digit-digit.ensures))
