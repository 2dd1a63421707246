use Rattle.std.proofs.Common.{◌≡◌, take, sum}
use Rattle.deep_list.proofs.slots.total_flags.Given as goal

abbrev pub invariant-loop-flag : goal.invariant-loop-flag
invariant-loop-flag l = l.total ≡ sum (take l.flag-index l.flags)
