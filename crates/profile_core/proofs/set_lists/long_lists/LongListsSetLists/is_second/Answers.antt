-- The second of a list is that of its row.
use Rattle.std.proofs.Common.{◌∙◌}
use Rattle.profile_core.proofs.LongListLemmas.{known, within, second_is}
use Rattle.profile_core.proofs.set_lists.long_lists.LongListsSetLists.is_second.Goals as goal

pub is_second-requires : goal.is_second-requires
is_second-requires c = within (known c.self.invariant c.self.view_is c.requires)

pub returns : goal.returns
returns c = c.is_second.ensures ∙
    second_is (known c.self.invariant c.self.view_is c.requires) c.args.block
