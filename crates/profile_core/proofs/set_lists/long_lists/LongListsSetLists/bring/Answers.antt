-- A block that comes to the front of a list, from its row or from behind it, or new.
use Rattle.std.proofs.Common.{◌∙◌, length, ap, arith}
use Rattle.deep_list.specs.Deep.{list_after_exchange}
use Rattle.profile_core.specs.profile.RecencyList.{is_in}
use Rattle.profile_core.specs.internal.set_lists.Moves.{rest_standing_of}
use Rattle.profile_core.proofs.LongListLemmas.{known, within, front_is, second_is, stays}
use Rattle.profile_core.proofs.LongListBringing.{settled_stays, settled_standing, full_is}
use Rattle.profile_core.proofs.LongListBringing.{far_read, last_apart, held_small}
use Rattle.profile_core.proofs.LongListBringing.{rest_small, full_standing, full_renewed}
use Rattle.profile_core.proofs.set_lists.long_lists.LongListsSetLists.bring.Goals as goal

pub bring_near-requires-clause-within : goal.bring_near-requires-clause-within
bring_near-requires-clause-within c = within (known c.self.invariant c.self.view_is
    c.requires.within)

pub bring_near-requires-clause-behind : goal.bring_near-requires-clause-behind
bring_near-requires-clause-behind c =
    front_is (known c.self.invariant c.self.view_is c.requires.within) c.args.block ∙
    c.requires.behind

pub bring_near-requires-clause-further : goal.bring_near-requires-clause-further
bring_near-requires-clause-further c =
    second_is (known c.self.invariant c.self.view_is c.requires.within) c.args.block ∙
    c.requires.further

pub invariant_of-self : goal.invariant_of-self
invariant_of-self c =
    let r = known c.self.invariant c.self.view_is c.requires.within in
    let stays = stays r c.args.block (settled_stays r c.args.block c.in-Settled.ensures.found)
    c.in-Settled.ensures.moved in
    stays.sound

pub returns-in-Settled-clause-found : goal.returns-in-Settled-clause-found
returns-in-Settled-clause-found c =
    settled_standing (known c.self.invariant c.self.view_is c.requires.within) c.args.block
    c.in-Settled.ensures.found

pub returns-in-Settled-clause-moved : goal.returns-in-Settled-clause-moved
returns-in-Settled-clause-moved c =
    let r = known c.self.invariant c.self.view_is c.requires.within in
    let stays = stays r c.args.block (settled_stays r c.args.block c.in-Settled.ensures.found)
    c.in-Settled.ensures.moved in
    stays.seen

pub exchange-requires-clause-other : goal.exchange-requires-clause-other
exchange-requires-clause-other c =
    let f = full_is (known c.self.invariant c.self.view_is c.requires.within)
    c.in-Full.ensures.found in
    let read = far_read f c.index_mut.result.now c.index_mut.ensures.value in
    ap (λ d. is_in c.in-Full.last d.blocks) read ∙ last_apart f

pub exchange-requires-clause-few : goal.exchange-requires-clause-few
exchange-requires-clause-few c =
    held_small (full_is (known c.self.invariant c.self.view_is c.requires.within)
    c.in-Full.ensures.found)

pub exchange-requires-clause-short : goal.exchange-requires-clause-short
exchange-requires-clause-short c =
    let f = full_is (known c.self.invariant c.self.view_is c.requires.within)
    c.in-Full.ensures.found in
    let read = far_read f c.index_mut.result.now c.index_mut.ensures.value in
    omega (arith, ap (λ d. length d.blocks) read, rest_small f)

pub invariant_of-self-in-Full : goal.invariant_of-self-in-Full
invariant_of-self-in-Full c =
    let f = full_is (known c.self.invariant c.self.view_is c.requires.within)
    c.in-Full.ensures.found in
    let read = far_read f c.index_mut.result.now c.index_mut.ensures.value in
    let renewed = full_renewed f c.exchange.new.rest tt (c.exchange.ensures.moved ∙
    ap (λ d. list_after_exchange d c.args.block c.in-Full.last tt) read) c.in-Full.ensures.moved in
    renewed.sound

pub returns-in-Full-clause-found : goal.returns-in-Full-clause-found
returns-in-Full-clause-found c =
    let f = full_is (known c.self.invariant c.self.view_is c.requires.within)
    c.in-Full.ensures.found in
    let read = far_read f c.index_mut.result.now c.index_mut.ensures.value in
    c.exchange.ensures.found ∙
    ap (λ d. rest_standing_of c.in-Full.held c.args.block d.blocks) read ∙ full_standing f

pub returns-in-Full-clause-moved : goal.returns-in-Full-clause-moved
returns-in-Full-clause-moved c =
    let f = full_is (known c.self.invariant c.self.view_is c.requires.within)
    c.in-Full.ensures.found in
    let read = far_read f c.index_mut.result.now c.index_mut.ensures.value in
    let renewed = full_renewed f c.exchange.new.rest tt (c.exchange.ensures.moved ∙
    ap (λ d. list_after_exchange d c.args.block c.in-Full.last tt) read) c.in-Full.ensures.moved in
    renewed.seen
