use Rattle.std.proofs.Common.{◌≡◌, sum, take}
use Rattle.profile_core.proofs.set_lists.recency.RecencyListsSetLists.held.Given as goal

abbrev pub invariant-loop-len : goal.invariant-loop-len
invariant-loop-len g l = l.total ≡ sum (take l.len-index l.len-items)
