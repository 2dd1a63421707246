-- The clean depth of the front is that of the row's front.
use Rattle.full_profile.proofs.marked_lists.LongLists.{known, near_set}
use Rattle.full_profile.proofs.marked_lists.LongBringing.{some_in_row, clean_is}
use Rattle.full_profile.proofs.marked_lists.long_lists.LongListsListStore.front_clean.Goals as goal

pub front_clean-requires-clause-within : goal.front_clean-requires-clause-within
front_clean-requires-clause-within c = near_set (known c.self.invariant c.self.view_is
    c.requires.within)

pub front_clean-requires-clause-some : goal.front_clean-requires-clause-some
front_clean-requires-clause-some c = some_in_row (known c.self.invariant c.self.view_is
    c.requires.within) c.requires.some

pub returns : goal.returns
returns c = clean_is (known c.self.invariant c.self.view_is c.requires.within) c.requires.some
    c.front_clean.ensures
