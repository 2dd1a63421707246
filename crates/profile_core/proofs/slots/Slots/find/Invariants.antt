-- The marks from a place on are still to be looked at; no number before that place is the block
-- that is looked for.
use Rattle.std.proofs.Common.{◌≤◌, ◌-◌}
use Rattle.profile_core.proofs.slots.Marks.{CameTo}
use Rattle.profile_core.proofs.slots.Slots.find.Given as goal

abbrev pub invariant-loop-left : goal.invariant-loop-left
invariant-loop-left l =
    CameTo l.self.marks l.self.order l.self.numbers l.held l.number l.place l.left × (l.place ≤
    16)

abbrev pub decreases-loop-left : goal.decreases-loop-left
decreases-loop-left l = 16 - l.place
