use Rattle.std.proofs.Common.{ℕ, ◌<◌, ◌≤◌, ◌≢◌, get_or}
use Rattle.deep_list.proofs.deep.last_live.Given as goal

abbrev pub invariant-loop-slot : goal.invariant-loop-slot
invariant-loop-slot l = (l.slot ≤ l.end) × ((s : ℕ) → l.slot ≤ s → s < l.end →
    get_or l.slots.live s 0 ≢ 1)

abbrev pub decreases-loop-slot : goal.decreases-loop-slot
decreases-loop-slot l = l.slot
