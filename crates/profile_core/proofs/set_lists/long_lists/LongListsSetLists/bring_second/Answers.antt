-- The second block of a list comes to the front: it stays in its row.
use Rattle.std.proofs.Common.{◌∙◌, inl}
use Rattle.profile_core.proofs.ListParts.{second_in}
use Rattle.profile_core.proofs.LongListLemmas.{known, within, front_is, second_is, stays}
use Rattle.profile_core.proofs.set_lists.long_lists.LongListsSetLists.bring_second.Goals as goal

pub bring_second-requires-clause-within : goal.bring_second-requires-clause-within
bring_second-requires-clause-within c = within (known c.self.invariant c.self.view_is
    c.requires.within)

pub bring_second-requires-clause-behind : goal.bring_second-requires-clause-behind
bring_second-requires-clause-behind c =
    front_is (known c.self.invariant c.self.view_is c.requires.within) c.args.block ∙
    c.requires.behind

pub bring_second-requires-clause-second : goal.bring_second-requires-clause-second
bring_second-requires-clause-second c =
    second_is (known c.self.invariant c.self.view_is c.requires.within) c.args.block ∙
    c.requires.second

pub invariant_of-self : goal.invariant_of-self
invariant_of-self c =
    let r = known c.self.invariant c.self.view_is c.requires.within in
    (stays r c.args.block (inl (second_in c.args.block _ (second_is r c.args.block ∙
    c.requires.second))) c.bring_second.ensures).sound

pub returns : goal.returns
returns c =
    let r = known c.self.invariant c.self.view_is c.requires.within in
    (stays r c.args.block (inl (second_in c.args.block _ (second_is r c.args.block ∙
    c.requires.second))) c.bring_second.ensures).seen
