-- A block that comes to the front of a list, from its row or from behind it, or new.
use Rattle.std.proofs.Common.{◌≡◌, ◌∙◌, ap, arith, subst, sym}
use Rattle.deep_list.specs.Deep.{list_after_exchange}
use Rattle.full_profile.specs.internal.Marked.{blocks_in, cleans_in, marked_touch_of}
use Rattle.full_profile.specs.internal.LongMarked.{IsWithin, front_clean_of}
use Rattle.profile_core.proofs.LongListLemmas.{front_is}
use Rattle.full_profile.proofs.marked_lists.LongLists.{known, near_set, far_set, depth_is}
use Rattle.full_profile.proofs.marked_lists.LongLists.{whole_long, far_read, plain}
use Rattle.full_profile.proofs.marked_lists.LongBringing.{brought_set, brought_some, rest_small}
use Rattle.full_profile.proofs.marked_lists.LongBringing.{full_apart, full_found, full_written}
use Rattle.full_profile.proofs.marked_lists.LongBringing.{settled_found, settled_written}
use Rattle.full_profile.proofs.marked_lists.LongBringing.{found_within}
use Rattle.full_profile.proofs.marked_lists.long_lists.LongListsListStore.bring.Goals as goal
use
    Rattle.full_profile.proofs.marked_lists.long_lists.LongListsListStore.bring.Goals.{After-exchange-touch}

pub last-last-requires : goal.last-last-requires
last-last-requires c = near_set (known c.self.invariant c.self.view_is c.requires.within)

pub bring-touch-requires-clause-within : goal.bring-touch-requires-clause-within
bring-touch-requires-clause-within c =
    near_set (known c.self.invariant c.self.view_is c.requires.within)

pub bring-touch-requires-clause-behind : goal.bring-touch-requires-clause-behind
bring-touch-requires-clause-behind c =
    front_is (plain (known c.self.invariant c.self.view_is c.requires.within)) c.args.block
    ∙ c.requires.behind

pub exchange-touch-requires-clause-some : goal.exchange-touch-requires-clause-some
exchange-touch-requires-clause-some c =
    let h = known c.self.invariant c.self.view_is c.requires.within in
    omega (
      arith,
      ap (λ d. d.cap) (far_read h c.index_mut.ensures.value),
      h.sound.split.caps c.args.set (far_set h),
      h.sound.some,
    )

pub exchange-touch-requires-clause-other : goal.exchange-touch-requires-clause-other
exchange-touch-requires-clause-other c =
    let h = known c.self.invariant c.self.view_is c.requires.within in
    full_apart h c.args.block c.in-Full.ensures.found c.last-last.ensures c.index_mut.result.now
    (far_read h c.index_mut.ensures.value)

pub exchange-touch-requires-clause-few : goal.exchange-touch-requires-clause-few
exchange-touch-requires-clause-few c =
    let h = known c.self.invariant c.self.view_is c.requires.within in
    omega (arith, c.depth-row.ensures, h.sound.small)

pub exchange-touch-requires-clause-short : goal.exchange-touch-requires-clause-short
exchange-touch-requires-clause-short c =
    let h = known c.self.invariant c.self.view_is c.requires.within in
    rest_small h c.args.block c.in-Full.ensures.found c.last-last.ensures c.index_mut.result.now
    (far_read h c.index_mut.ensures.value)

-- the row is full, and the block was not in it
module _ (c : After-exchange-touch) where
  whole_found : c.exchange-touch.result ≡ marked_touch_of c.args.self.now.depth c.args.block
      (blocks_in c.args.self.now c.args.set) (cleans_in c.args.self.now c.args.set)
  whole_found =
      let h = known c.self.invariant c.self.view_is c.requires.within in
      c.exchange-touch.ensures.found
      ∙ full_found h c.args.block c.in-Full.ensures.found c.last-last.ensures c.depth-row.result
      c.index_mut.result.now c.depth-row.ensures (far_read h c.index_mut.ensures.value)

pub front_clean-requires-clause-small : goal.front_clean-requires-clause-small
front_clean-requires-clause-small c =
    let h = known c.self.invariant c.self.view_is c.requires.within in
    omega (arith, c.depth-depth.ensures, depth_is h, h.sound.small)

pub front_clean-requires-clause-within : goal.front_clean-requires-clause-within
front_clean-requires-clause-within c =
    let h = known c.self.invariant c.self.view_is c.requires.within in
    let m = c.args.self.now in
    subst (λ d. IsWithin d c.exchange-touch.result) (sym c.depth-depth.ensures)
    (found_within m.depth c.args.block (blocks_in m c.args.set) (cleans_in m c.args.set)
    (whole_long h)
    (whole_found (goal.at.front_clean-requires-clause-within c).After-exchange-touch))

pub mark_front-requires-clause-within : goal.mark_front-requires-clause-within
mark_front-requires-clause-within c =
    brought_set (known c.self.invariant c.self.view_is c.requires.within) c.args.block c.args.access
    c.bring-touch.ensures.moved

pub mark_front-requires-clause-some : goal.mark_front-requires-clause-some
mark_front-requires-clause-some c =
    brought_some (known c.self.invariant c.self.view_is c.requires.within) c.args.block
    c.args.access c.bring-touch.ensures.moved

pub invariant_of-self : goal.invariant_of-self
invariant_of-self c =
    let h = known c.self.invariant c.self.view_is c.requires.within in
    let read = far_read h c.index_mut.ensures.value in
    let put = full_written h c.args.block c.in-Full.ensures.found c.last-last.ensures c.args.access
    c.front_clean.result (whole_found (goal.at.invariant_of-self c).After-exchange-touch)
    (c.front_clean.ensures ∙ ap (λ d. front_clean_of d c.args.access c.exchange-touch.result)
    c.depth-depth.ensures)
    c.bring-touch.ensures.moved c.mark_front.ensures c.exchange-touch.new.rest
    (c.exchange-touch.ensures.moved
    ∙ ap (λ d. list_after_exchange d c.args.block c.last-last.result c.in-Full.clean) read) in
    put.sound

pub returns-in-Full-clause-found : goal.returns-in-Full-clause-found
returns-in-Full-clause-found c =
    whole_found (goal.at.returns-in-Full-clause-found c).After-exchange-touch

pub returns-in-Full-clause-moved : goal.returns-in-Full-clause-moved
returns-in-Full-clause-moved c =
    let h = known c.self.invariant c.self.view_is c.requires.within in
    let read = far_read h c.index_mut.ensures.value in
    let put = full_written h c.args.block c.in-Full.ensures.found c.last-last.ensures c.args.access
    c.front_clean.result (whole_found (goal.at.returns-in-Full-clause-moved c).After-exchange-touch)
    (c.front_clean.ensures ∙ ap (λ d. front_clean_of d c.args.access c.exchange-touch.result)
    c.depth-depth.ensures)
    c.bring-touch.ensures.moved c.mark_front.ensures c.exchange-touch.new.rest
    (c.exchange-touch.ensures.moved
    ∙ ap (λ d. list_after_exchange d c.args.block c.last-last.result c.in-Full.clean) read) in
    put.seen

-- the row tells where the block was
pub front_clean-requires-2-clause-small : goal.front_clean-requires-2-clause-small
front_clean-requires-2-clause-small c =
    let h = known c.self.invariant c.self.view_is c.requires.within in
    omega (arith, c.depth-depth.ensures, depth_is h, h.sound.small)

pub front_clean-requires-2-clause-within : goal.front_clean-requires-2-clause-within
front_clean-requires-2-clause-within c =
    let h = known c.self.invariant c.self.view_is c.requires.within in
    let m = c.args.self.now in
    subst (λ d. IsWithin d c.bring-touch.result) (sym c.depth-depth.ensures)
    (found_within m.depth c.args.block (blocks_in m c.args.set) (cleans_in m c.args.set)
    (whole_long h) (settled_found h c.args.block c.bring-touch.ensures.found
    c.in_default.not-Full))

pub mark_front-requires-2-clause-within : goal.mark_front-requires-2-clause-within
mark_front-requires-2-clause-within c =
    brought_set (known c.self.invariant c.self.view_is c.requires.within) c.args.block
    c.args.access c.bring-touch.ensures.moved

pub mark_front-requires-2-clause-some : goal.mark_front-requires-2-clause-some
mark_front-requires-2-clause-some c =
    brought_some (known c.self.invariant c.self.view_is c.requires.within) c.args.block
    c.args.access c.bring-touch.ensures.moved

pub invariant_of-self-2 : goal.invariant_of-self-2
invariant_of-self-2 c =
    let h = known c.self.invariant c.self.view_is c.requires.within in
    let put = settled_written h c.args.block c.bring-touch.ensures.found c.in_default.not-Full
    c.args.access c.front_clean-2.result
    (c.front_clean-2.ensures ∙ ap (λ d. front_clean_of d c.args.access c.bring-touch.result)
    c.depth-depth.ensures) c.bring-touch.ensures.moved c.mark_front-2.ensures in
    put.sound

pub returns-clause-found : goal.returns-clause-found
returns-clause-found c =
    settled_found (known c.self.invariant c.self.view_is c.requires.within) c.args.block
    c.bring-touch.ensures.found c.in_default.not-Full

pub returns-clause-moved : goal.returns-clause-moved
returns-clause-moved c =
    let h = known c.self.invariant c.self.view_is c.requires.within in
    let put = settled_written h c.args.block c.bring-touch.ensures.found c.in_default.not-Full
    c.args.access c.front_clean-2.result
    (c.front_clean-2.ensures ∙ ap (λ d. front_clean_of d c.args.access c.bring-touch.result)
    c.depth-depth.ensures) c.bring-touch.ensures.moved c.mark_front-2.ensures in
    put.seen
