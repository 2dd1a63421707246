-- The block was in the deep list, or this was full, or there was room in it.
use Rattle.std.proofs.Common.{◌+◌, ◌∙◌, ap, subst}
use Rattle.deep_list.specs.Deep.{without_block, IsFound, IsLastOfFull}
use Rattle.full_profile.specs.declared.marked_lists.MarkedTouch.TheVariants.{New}
use Rattle.full_profile.proofs.marked_lists.RestTouch.{rest_in, rest_full, rest_new}
use Rattle.full_profile.proofs.marked_lists.long_lists.exchange.Goals as goal

pub returns-in-Some-clause-found : goal.returns-in-Some-clause-found
returns-in-Some-clause-found c =
    rest_in c.args.row c.args.block c.args.rest.now c.in-Some.place c.in-Some.clean
    c.len-more.ensures.beside
    (subst (IsFound c.args.block c.args.rest.now) c.in-Some.is c.exchange-exchanged.ensures.found)

pub returns-in-Some-fallen-clause-found : goal.returns-in-Some-fallen-clause-found
returns-in-Some-fallen-clause-found c =
    let rest = c.args.rest.now in
    rest_full c.args.row c.args.block rest
    (subst (IsFound c.args.block rest) c.in-None.is c.exchange-exchanged.ensures.found)
    c.in-Some-fallen.clean c.len-more.ensures.beside c.requires.some
    (subst (IsLastOfFull (without_block rest c.args.block)) c.in-Some-fallen.is
    c.exchange-exchanged.ensures.fallen)

pub returns-in-None-fallen-clause-found : goal.returns-in-None-fallen-clause-found
returns-in-None-fallen-clause-found c =
    let rest = c.args.rest.now in
    ap (λ more. New (c.args.row + more)) c.len-more.ensures.value
    ∙ rest_new c.args.row c.args.block rest
    (subst (IsFound c.args.block rest) c.in-None.is c.exchange-exchanged.ensures.found)
    (subst (IsLastOfFull (without_block rest c.args.block)) c.in-None-fallen.is
    c.exchange-exchanged.ensures.fallen)
