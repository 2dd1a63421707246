-- What a scan does at the end of its source with a last line that has no LF.
use Rattle.std.proofs.Common.{rules, tests, ap, ◌≡◌, ◌+◌, ◌<◌, length}
use Rattle.std.specs.Option.{option_to_list}
use Rattle.trace_core.specs.internal.Scan.{progress}
use Rattle.trace_core.proofs.Advancing.{numbered}
use Rattle.trace_core.proofs.Steps.{no-line, judged-as, steps-last, steps-bad_last}
use Rattle.trace_core.proofs.scan.Scan.finish.Goals as goal

pub returns-in-Ok-clause-advances : goal.returns-in-Ok-clause-advances
returns-in-Ok-clause-advances c = λ reported over.
    let s = progress c.args.self.now in
    let held = c.as_slice-unread.ensures.value in
    let some : 0 < length s.unread = search (rules, tests, ap length held) in
    let judged = judged-as reported s c.requires.open _ _ _ _ held c.judge.ensures c.in-Ok.is
    (c.requires.below some) in
    let same : option_to_list c.map.result ≡ numbered (s.lines + 1) c.in-Ok.entry = search rules in
    rw same (steps-last reported s c.requires.open _ c.in-Ok.entry
    (no-line s.unread c.requires.no_line) some judged c.stop-in-Ok.ensures.state)

pub returns-in-Err-clause-advances : goal.returns-in-Err-clause-advances
returns-in-Err-clause-advances c = λ reported over.
    let s = progress c.args.self.now in
    let some : 0 < length s.unread =
    search (rules, tests, ap length c.as_slice-unread.ensures.value) in
    let below = c.requires.below some in
    steps-bad_last reported s c.requires.open _ c.in-Err.fault over
    (no-line s.unread c.requires.no_line) some below c.requires.short
    (judged-as reported s c.requires.open _ _ _ _ c.as_slice-unread.ensures.value c.judge.ensures
    c.in-Err.is below) c.stop-in-Err.ensures.state
