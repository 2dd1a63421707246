use Rattle.std.proofs.Common.{◌≡◌, take, length}
use Rattle.std.specs.List.{sum_by}
use Rattle.profile_core.proofs.set_lists.long_lists.held_by.Given as goal

abbrev pub invariant-loop-list : goal.invariant-loop-list
invariant-loop-list l = l.total ≡ sum_by (λ d. length d.blocks) (take l.list-index l.far)
