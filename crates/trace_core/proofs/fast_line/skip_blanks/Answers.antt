-- One blank more is passed over.
use Rattle.std.proofs.Common.{rules, tests, ◌≡◌, true, get_or}
use Rattle.trace_core.specs.Fields.{is_blank}
use Rattle.trace_core.proofs.Fronts.{blanks-more}
use Rattle.trace_core.proofs.fast_line.skip_blanks.Goals as goal

pub loop-rest-preserved : goal.loop-rest-preserved
loop-rest-preserved c =
    let blank : is_blank (get_or c.loop-rest.rest.now 0 0) ≡ true = search (rules, tests) in
    let so_far = c.loop-rest.invariant in
    blanks-more c.args.bytes.now so_far.0 c.loop-rest.rest.now so_far.1 so_far.2
    c.in-32.len_at_least blank
