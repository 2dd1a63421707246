-- What a scan does with a byte past the limit, and with a line of the spaced form.
use Rattle.std.proofs.Common.{arith, rules, tests, ap, ◌<◌, [], length}
use Rattle.trace_core.specs.internal.Scan.{progress}
use Rattle.trace_core.proofs.Deliveries.{Delivers-none}
use Rattle.trace_core.proofs.Steps.{steps-item, steps-past}
use Rattle.trace_core.proofs.scan.Scan.step.Goals as goal

pub returns-then-not-is_empty-clause-advances : goal.returns-then-not-is_empty-clause-advances
returns-then-not-is_empty-clause-advances g c =
    let s = progress c.args.self.now in
    let some : 0 < length s.unread =
    search (rules, tests, ap length c.as_slice-unread.ensures.value) in
    ([], Delivers-none _ _, steps-past _ s c.requires _ some (omega arith) c.stop.ensures.state)

pub returns-in-Some-clause-advances : goal.returns-in-Some-clause-advances
returns-in-Some-clause-advances g c =
    let s = progress c.args.self.now in
    let found = c.in-Some.ensures in
    let passed = c.pass_line.ensures in
    let some : 0 < length s.unread =
    omega (arith, found.line.0.high, ap length c.as_slice-unread.ensures.value) in (
      [],
      Delivers-none _ _,
      steps-item _ s c.requires _ c.in-Some.at c.in-Some.item (progress c.pass_line.new.self) _
          c.as_slice-unread.ensures.value
          found.line found.item (omega arith) (omega (arith, some)) passed.number passed.lines
          passed.buffer passed.same,
    )
