-- A set's list gets its first block in front, or another one.
use Rattle.std.proofs.Common.{◌∙◌, ◌≤◌, ap, sym, arith}
use Rattle.full_profile.specs.declared.marked_lists.slotted.ListSlots.{ListSlots}
use Rattle.profile_core.specs.profile.RecencyList.{is_front, move_to_front}
use Rattle.std.proofs.Common.{take}
use Rattle.full_profile.specs.internal.Marked.{blocks_in, cleans_in, marked_touch_of, cleans_after}
use Rattle.full_profile.specs.internal.Slotted.{blocks_behind, listed_blocks, listed_cleans}
use Rattle.full_profile.proofs.marked_lists.ListsInSlots.{known, within, front_within, clean_within}
use Rattle.full_profile.proofs.marked_lists.ListsInSlots.{depth_is, list_read, list_lent}
use Rattle.full_profile.proofs.marked_lists.ListsInSlots.{lent_blocks, lent_cleans}
use Rattle.full_profile.proofs.marked_lists.ListsInSlots.{blocks_size, put_sound, put_lists}
use Rattle.full_profile.proofs.marked_lists.ListsInSlots.{first_touch, not_front}
use Rattle.full_profile.proofs.marked_lists.slotted.SlottedListsListStore.bring.Goals as goal

pub index-requires : goal.index-requires
index-requires c = omega (
  arith,
  within (known c.self.invariant c.self.view_is c.requires.within),
  c.self.inside.lists.ok.0,
)

pub begin-requires-clause-empty : goal.begin-requires-clause-empty
begin-requires-clause-empty c =
    let h = known c.self.invariant c.self.view_is c.requires.within in
    blocks_size h ∙ ap (λ (l : ListSlots). l.len) (sym (list_read h c.index.ensures))
    ∙ c.if-index-eq0.true

pub returns-then-index-eq0-clause-found : goal.returns-then-index-eq0-clause-found
returns-then-index-eq0-clause-found c =
    let h = known c.self.invariant c.self.view_is c.requires.within in
    first_touch c.args.self.now.depth c.args.block (blocks_in c.args.self.now c.args.set)
    (cleans_in c.args.self.now c.args.set) (omega (arith, h.sound.two, depth_is h))
    (blocks_size h ∙ ap (λ (l : ListSlots). l.len) (sym (list_read h c.index.ensures))
    ∙ c.if-index-eq0.true)

pub index_mut-front-requires : goal.index_mut-front-requires
index_mut-front-requires c = omega (
  arith,
  front_within (known c.self.invariant c.self.view_is c.requires.within),
  c.self.inside.fronts.ok.0,
)

pub index_mut-front_clean-requires : goal.index_mut-front_clean-requires
index_mut-front_clean-requires c = omega (
  arith,
  clean_within (known c.self.invariant c.self.view_is c.requires.within),
  c.self.inside.front_cleans.ok.0,
)

pub index_mut-requires : goal.index_mut-requires
index_mut-requires c = omega (
  arith,
  within (known c.self.invariant c.self.view_is c.requires.within),
  c.self.inside.lists.ok.0,
)

pub bring-requires-clause-sound : goal.bring-requires-clause-sound
bring-requires-clause-sound c =
    list_lent (known c.self.invariant c.self.view_is c.requires.within) c.index_mut.ensures.value

pub bring-requires-clause-some : goal.bring-requires-clause-some
bring-requires-clause-some c =
    let h = known c.self.invariant c.self.view_is c.requires.within in
    omega (
      arith,
      ap (λ (l : ListSlots). l.len) (list_read h c.index.ensures),
      ap (λ (l : ListSlots). l.len) (list_read h c.index_mut.ensures.value),
      c.if-index-eq0.false,
    )

pub bring-requires-clause-fits : goal.bring-requires-clause-fits
bring-requires-clause-fits c =
    let h = known c.self.invariant c.self.view_is c.requires.within in
    omega (
      arith,
      ap (λ (l : ListSlots). l.len) (list_read h c.index_mut.ensures.value),
      h.sound.short c.args.set,
    )

pub bring-requires-clause-behind : goal.bring-requires-clause-behind
bring-requires-clause-behind c =
    let h = known c.self.invariant c.self.view_is c.requires.within in
    let l = c.index_mut.result.now in
    let some : 1 ≤ l.len = omega (
      arith,
      ap (λ (l : ListSlots). l.len) (list_read h c.index.ensures),
      ap (λ (l : ListSlots). l.len) (list_read h c.index_mut.ensures.value),
      c.if-index-eq0.false,
    ) in
    not_front l.len c.index_mut-front.result.now c.args.block (blocks_behind l) some
    (ap (is_front c.args.block)
    (lent_blocks h c.index_mut-front.ensures.value c.index_mut.ensures.value) ∙ c.requires.behind)

pub invariant_of-self : goal.invariant_of-self
invariant_of-self c =
    put_sound (known c.self.invariant c.self.view_is c.requires.within) c.bring.new.front
    c.bring.new.front_clean c.bring.new.self c.bring.ensures.sound c.bring.ensures.fits
    (λ none. absurd (omega (arith, none, c.bring.ensures.some)))

pub returns-clause-found : goal.returns-clause-found
returns-clause-found c =
    let h = known c.self.invariant c.self.view_is c.requires.within in
    let m = c.args.self.now in
    let l = c.index_mut.result.now in
    c.bring.ensures.found
    ∙ ap (λ d. marked_touch_of d c.args.block (listed_blocks c.index_mut-front.result.now l)
    (listed_cleans c.index_mut-front_clean.result.now l)) (depth_is h)
    ∙ ap (λ xs. marked_touch_of m.depth c.args.block xs
    (listed_cleans c.index_mut-front_clean.result.now l))
    (lent_blocks h c.index_mut-front.ensures.value c.index_mut.ensures.value)
    ∙ ap (λ ms. marked_touch_of m.depth c.args.block (blocks_in m c.args.set) ms)
    (lent_cleans h c.index_mut-front_clean.ensures.value c.index_mut.ensures.value)

pub returns-clause-moved : goal.returns-clause-moved
returns-clause-moved c =
    let h = known c.self.invariant c.self.view_is c.requires.within in
    let m = c.args.self.now in
    let l = c.index_mut.result.now in
    let blocks = lent_blocks h c.index_mut-front.ensures.value c.index_mut.ensures.value in
    put_lists h c.bring.new.front c.bring.new.front_clean c.bring.new.self c.bring.ensures.sound
    c.bring.ensures.fits (λ none. absurd (omega (arith, none, c.bring.ensures.some))) _ _
    (c.bring.ensures.blocks
    ∙ ap (λ d. take d (move_to_front c.args.block (listed_blocks c.index_mut-front.result.now l)))
    (depth_is h)
    ∙ ap (λ xs. take m.depth (move_to_front c.args.block xs)) blocks)
    (c.bring.ensures.cleans
    ∙ ap (λ d. cleans_after d c.args.access c.args.block
    (listed_blocks c.index_mut-front.result.now l)
    (listed_cleans c.index_mut-front_clean.result.now l)) (depth_is h)
    ∙ ap (λ xs. cleans_after m.depth c.args.access c.args.block xs
    (listed_cleans c.index_mut-front_clean.result.now l)) blocks
    ∙ ap (λ ms. cleans_after m.depth c.args.access c.args.block (blocks_in m c.args.set) ms)
    (lent_cleans h c.index_mut-front_clean.ensures.value c.index_mut.ensures.value))
