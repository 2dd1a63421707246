-- A label of one byte between blanks.
use Rattle.std.proofs.Common.{rules, tests, ◌≡◌, true, get_or, refl}
use Rattle.trace_core.specs.Fields.{is_blank}
use Rattle.trace_core.proofs.Fronts.{label-front}
use Rattle.trace_core.proofs.fast_line.split_label.Goals as goal

pub returns-in-32 : goal.returns-in-32
returns-in-32 c =
    let cut = c.skip_blanks.result.now in
    let blank : is_blank (get_or cut 1 0) ≡ true = search (rules, tests) in
    label-front c.args.text.now cut _ c.skip_blanks-in-32.result.now c.skip_blanks.ensures
    c.in-32.len_at_least blank refl c.skip_blanks-in-32.ensures
