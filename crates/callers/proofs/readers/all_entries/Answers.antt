use Rattle.std.proofs.Common.{◌≡◌, [], ◌∷◌, ◌++◌, ◌∙◌, Ok, None, ap, append-nil}
use Rattle.trace_core.specs.Reading.{reading}
use Rattle.trace_core.specs.declared.limits.TheConstants.{MAX_LINES}
use Rattle.callers.proofs.Touching.{if_known}
use Rattle.callers.proofs.readers.all_entries.Goals as goal

pub loop-given-init : goal.loop-given-init
loop-given-init g c =
    rw (c.in_ok-lines.ensures, c.new-given.ensures.items)
    (c.begun_reader_has_read_nothing.ensures c.args.format MAX_LINES
    (g.S.Source.view c.args.source.now))

pub loop-given-preserved : goal.loop-given-preserved
loop-given-preserved g c =
    let items : c.push.new.self.items ≡ c.loop-given.given.items ++ c.in-Some.entry ∷ [] =
    rw c.if-is_err.ensures.negation at c.push.ensures.items in
    rw items (rw (c.in_ok-entry.was ∙ ap Ok c.in-Some.is) at
    (c.next.ensures.reached _ _ _ c.loop-given.given.items c.loop-given.invariant))

pub returns : goal.returns
returns g c =
    let xs = c.loop-given.given.items in
    let ended = c.in_ok-entry.was ∙ ap Ok c.in_default.is in
    let reached = rw (ended, append-nil xs) at
    (c.next.ensures.reached _ _ _ xs c.loop-given.invariant) in
    let reports = rw ended at c.next.ensures.reports in
    let start = g.S.Source.view c.args.source.now in
    if_known start.remaining (λ text. reading c.args.format MAX_LINES text ≡ record {
      entries =
          xs;
      fault = None;
    }) (λ text known.
    c.ended_reader_has_read_all.ensures.reading c.args.format MAX_LINES text start _ xs
    c.next.new.self known reached reports)
