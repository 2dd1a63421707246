-- One digit is a number.
use Rattle.std.proofs.Common.{rules, tests, ◌≤◌, [], ◌∷◌}
use Rattle.std.proofs.Common.{get_or}
use Rattle.trace_core.proofs.Fronts.{one-front}
use Rattle.trace_core.proofs.Numbers.{one_digit}
use Rattle.trace_core.proofs.fast_line.split_one_digit.Goals as goal

pub returns-in-10-clause-parts : goal.returns-in-10-clause-parts
returns-in-10-clause-parts c =
    let text = c.args.text.now in
    let low : 48 ≤ get_or text 0 0 = search (rules, tests) in
    let high : get_or text 0 0 ≤ 57 = search (rules, tests) in (
      get_or text 0 0 ∷ [],
      one-front text c.in-48-to-57.len_at_least,
      one_digit (get_or text 0 0) low high,
    )
