-- A block is looked for at the places that have its mark.
use Rattle.std.proofs.Common.{arith}
use Rattle.profile_core.proofs.slots.Marks.{new_past, new_unmarked, found_marked, absent_behind}
use Rattle.profile_core.proofs.slots.Marks.{left_behind}
use Rattle.profile_core.proofs.slots.Slots.find.Goals as goal

pub returns-then-next-held : goal.returns-then-next-held
returns-then-next-held c = new_past c.loop-left.invariant.0 (omega (arith, c.loop-left-test.true))
    (omega (arith, c.if-next-held.true))

pub returns-then-self-next : goal.returns-then-self-next
returns-then-self-next c = found_marked c.loop-left.invariant.0
    (omega (arith, c.loop-left-test.true)) (omega (arith, c.if-next-held.false))
    c.if-self-next.true

pub loop-left-preserved : goal.loop-left-preserved
loop-left-preserved c = (
  record {
    order = c.requires.sound;
    most = c.requires.most;
    left_is = left_behind c.loop-left.invariant.0 _;
    absent = absent_behind c.loop-left.invariant.0 (omega (arith, c.loop-left-test.true))
        (omega (arith, c.if-next-held.false)) c.if-self-next.false;
  },
  omega (arith, c.if-next-held.false, c.requires.most),
)

pub returns : goal.returns
returns c = new_unmarked c.loop-left.invariant.0 (omega (arith, c.loop-left-test.false))
