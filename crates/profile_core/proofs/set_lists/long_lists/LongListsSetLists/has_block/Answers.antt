-- A list has a block if its row has one.
use Rattle.profile_core.proofs.LongListLemmas.{known, within, some_is}
use Rattle.profile_core.proofs.set_lists.long_lists.LongListsSetLists.has_block.Goals as goal

pub has_block-requires : goal.has_block-requires
has_block-requires c = within (known c.self.invariant c.self.view_is c.requires)

pub returns : goal.returns
returns c =
    let both = some_is (known c.self.invariant c.self.view_is c.requires) in
    (λ is. both.0 (c.has_block.ensures.0 is), λ some. c.has_block.ensures.1 (both.1 some))
