use Rattle.std.proofs.Common.{◌≡◌, length}
use Rattle.deep_list.proofs.deep.DeepList.clear.Given as goal

abbrev pub invariant-loop-self : goal.invariant-loop-self
invariant-loop-self g l = l.self.cap ≡ l.fn.self.cap

abbrev pub decreases-loop-self : goal.decreases-loop-self
decreases-loop-self g l = length l.self.blocks
