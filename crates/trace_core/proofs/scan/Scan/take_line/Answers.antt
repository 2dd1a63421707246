-- What a scan does with a line that was delivered with its LF.
use Rattle.std.proofs.Common.{rules, ap, ◌≡◌, ◌+◌, take}
use Rattle.std.specs.Option.{option_to_list}
use Rattle.trace_core.specs.internal.Scan.{progress}
use Rattle.trace_core.proofs.Advancing.{numbered}
use Rattle.trace_core.proofs.Steps.{judged-as, steps-line, steps-bad_line}
use Rattle.trace_core.proofs.scan.Scan.take_line.Goals as goal

pub returns-in-Ok-clause-advances : goal.returns-in-Ok-clause-advances
returns-in-Ok-clause-advances c = λ reported.
    let s = progress c.args.self.now in
    let same : option_to_list c.map.result ≡ numbered (s.lines + 1) c.in-Ok.entry = search rules in
    let passed = c.pass_line.ensures in
    let judged =
    judged-as reported s c.requires.open _ _ _ _ (ap (take c.args.at) c.as_slice.ensures.value)
    c.judge.ensures c.in-Ok.is c.requires.below in
    rw same
    (steps-line reported s c.requires.open c.args.at c.in-Ok.entry (progress c.pass_line.new.self)
    c.requires.line judged passed.lines passed.buffer
    passed.same)

pub returns-in-Err-clause-advances : goal.returns-in-Err-clause-advances
returns-in-Err-clause-advances c = λ reported.
    let s = progress c.args.self.now in
    steps-bad_line reported s c.requires.open _ c.args.at c.in-Err.fault c.requires.line
    (judged-as reported s c.requires.open _ _ _ _ (ap (take c.args.at) c.as_slice.ensures.value)
    c.judge.ensures c.in-Err.is c.requires.below) c.stop.ensures.state
