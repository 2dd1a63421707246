use Rattle.std.proofs.Common.{◌≡◌, ◌++◌, take, drop, map}
use Rattle.profile_core.specs.internal.set_lists.LongLists.{empty_deep}
use Rattle.profile_core.proofs.set_lists.long_lists.clear_all.Given as goal

abbrev pub invariant-loop-list : goal.invariant-loop-list
invariant-loop-list l = l.far ≡ map empty_deep (take l.list-index l.initial.far) ++
    drop l.list-index l.initial.far
