-- A number below ten is one digit.
use Rattle.std.proofs.Common.{◌++◌, sym, ap, ◌∙◌}
use Rattle.std.proofs.lemmas.Fmt.{decimal_digit}
use Rattle.trace_core.proofs.text.Text.push_decimal.Goals as goal

pub returns-then-number-lt10-clause-value : goal.returns-then-number-lt10-clause-value
returns-then-number-lt10-clause-value g c = c.push.ensures ∙
    ap (λ ds. c.args.self.now ++ ds) (sym (decimal_digit c.args.number c.if-number-lt10.true))
