use Rattle.std.proofs.Common.{◌≡◌, take, sum}
use Rattle.deep_list.proofs.slots.total.Given as goal

abbrev pub invariant-loop-count : goal.invariant-loop-count
invariant-loop-count l = l.total ≡ sum (take l.count-index l.counts)
