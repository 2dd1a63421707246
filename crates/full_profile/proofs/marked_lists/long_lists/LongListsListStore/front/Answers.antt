-- The front of a list is that of its row.
use Rattle.std.proofs.Common.{◌∙◌}
use Rattle.profile_core.proofs.LongListLemmas.{first_is}
use Rattle.full_profile.proofs.marked_lists.LongLists.{known, near_set, plain}
use Rattle.full_profile.proofs.marked_lists.long_lists.LongListsListStore.front.Goals as goal

pub front-requires : goal.front-requires
front-requires c = near_set (known c.self.invariant c.self.view_is c.requires)

pub returns : goal.returns
returns c = c.front.ensures ∙ first_is (plain (known c.self.invariant c.self.view_is c.requires))
