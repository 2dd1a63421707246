-- The front of a list is that of its row.
use Rattle.std.proofs.Common.{◌∙◌}
use Rattle.profile_core.proofs.LongListLemmas.{known, within, first_is}
use Rattle.profile_core.proofs.set_lists.long_lists.LongListsSetLists.front.Goals as goal

pub front-requires : goal.front-requires
front-requires c = within (known c.self.invariant c.self.view_is c.requires)

pub returns : goal.returns
returns c = c.front.ensures ∙ first_is (known c.self.invariant c.self.view_is c.requires)
