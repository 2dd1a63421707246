use Rattle.std.proofs.Common.{◌≤◌, length}
use Rattle.deep_list.specs.Chains.{AreChains, AreFiledFrom}
use Rattle.deep_list.proofs.deep.file_all.Given as goal

abbrev pub invariant-loop-slot : goal.invariant-loop-slot
invariant-loop-slot l =
    (l.top ≤ l.slot) × (l.slot ≤ length l.slots.live) ×
    AreChains l.slot (length l.slots.live) l.chains
    × AreFiledFrom l.slot l.chains l.slots

abbrev pub decreases-loop-slot : goal.decreases-loop-slot
decreases-loop-slot l = l.slot
