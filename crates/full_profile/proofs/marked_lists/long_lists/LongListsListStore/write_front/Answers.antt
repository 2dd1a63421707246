-- The front is that of the row.
use Rattle.full_profile.proofs.marked_lists.LongLists.{known, near_set}
use Rattle.full_profile.proofs.marked_lists.LongBringing.{some_in_row, front_marked}
use Rattle.full_profile.proofs.marked_lists.long_lists.LongListsListStore.write_front.Goals as goal

pub mark_front-requires-clause-within : goal.mark_front-requires-clause-within
mark_front-requires-clause-within c = near_set (known c.self.invariant c.self.view_is
    c.requires.within)

pub mark_front-requires-clause-some : goal.mark_front-requires-clause-some
mark_front-requires-clause-some c = some_in_row (known c.self.invariant c.self.view_is
    c.requires.within) c.requires.some

pub invariant_of-self : goal.invariant_of-self
invariant_of-self c =
    let put = front_marked (known c.self.invariant c.self.view_is c.requires.within) 0
    c.requires.some c.mark_front.ensures in
    put.sound

pub returns : goal.returns
returns c =
    let put = front_marked (known c.self.invariant c.self.view_is c.requires.within) 0
    c.requires.some c.mark_front.ensures in
    put.seen
