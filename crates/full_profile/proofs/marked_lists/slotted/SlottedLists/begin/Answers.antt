-- An empty list gets its front.
use Rattle.std.proofs.Common.{◌∙◌, ◌≤◌, refl, cond, ap, sym, arith}
use Rattle.trace_core.specs.Events.{is_write}
use Rattle.full_profile.specs.internal.Marked.{blocks_in, cleans_in}
use Rattle.full_profile.proofs.marked_lists.ListsInSlots.{known, within, front_within, clean_within}
use Rattle.full_profile.proofs.marked_lists.ListsInSlots.{depth_is, list_lent, put_sound, put_lists}
use Rattle.full_profile.proofs.marked_lists.ListsInSlots.{first_blocks, first_cleans, blocks_size}
use Rattle.full_profile.proofs.marked_lists.ListsInSlots.{cleans_size}
use Rattle.full_profile.proofs.marked_lists.ListsInSlots.{begun, begun_in_slots}
use Rattle.full_profile.proofs.marked_lists.slotted.SlottedLists.begin.Goals as goal

pub index_mut-requires : goal.index_mut-requires
index_mut-requires c = omega (
  arith,
  front_within (known c.self.invariant c.self.view_is c.requires.within),
  c.self.inside.fronts.ok.0,
)

pub index_mut-requires-2 : goal.index_mut-requires-2
index_mut-requires-2 c = omega (
  arith,
  clean_within (known c.self.invariant c.self.view_is c.requires.within),
  c.self.inside.front_cleans.ok.0,
)

pub index_mut-requires-3 : goal.index_mut-requires-3
index_mut-requires-3 c = omega (
  arith,
  within (known c.self.invariant c.self.view_is c.requires.within),
  c.self.inside.lists.ok.0,
)

pub invariant_of-self : goal.invariant_of-self
invariant_of-self c =
    let h = known c.self.invariant c.self.view_is c.requires.within in
    put_sound h c.args.block c.clean_if_read.result (begun c.index_mut-3.result.now)
    (begun_in_slots (list_lent h c.index_mut-3.ensures.value)) (omega (arith, h.sound.two))
    (λ none. absurd (omega (arith, none)))

pub returns : goal.returns
returns c =
    let h = known c.self.invariant c.self.view_is c.requires.within in
    let m = c.args.self.now in
    let two : 2 ≤ m.depth = omega (arith, h.sound.two, depth_is h) in
    let l = begun c.index_mut-3.result.now in
    let xs = blocks_in m c.args.set in
    let ms = cleans_in m c.args.set in
    put_lists h c.args.block c.clean_if_read.result l
    (begun_in_slots (list_lent h c.index_mut-3.ensures.value)) (omega (arith, h.sound.two))
    (λ none. absurd (omega (arith, none))) _ _
    (first_blocks m.depth c.args.block xs l two c.requires.empty refl)
    (first_cleans m.depth c.args.block c.clean_if_read.result c.args.access xs ms l two
    c.requires.empty (cleans_size h ∙ sym (blocks_size h) ∙ c.requires.empty) refl
    (c.clean_if_read.ensures ∙ ap (cond (is_write c.args.access) 0) (depth_is h)))
