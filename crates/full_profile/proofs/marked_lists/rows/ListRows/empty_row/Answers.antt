-- A set's list, as its row begins with it.
use Rattle.std.proofs.Common.{◌≡◌, ◌+◌, ◌-◌, ◌*◌, ◌∙◌, length, take, drop, get_or, ap}
use Rattle.std.proofs.Common.{arith, sym}
use Rattle.std.proofs.lemmas.List.{get_or_read, take-take}
use Rattle.full_profile.specs.internal.Marked.{cleans_in}
use Rattle.full_profile.specs.internal.Copies.{with_copies_of, up_to_of}
use Rattle.profile_core.proofs.RowParts.{part_lent}
use Rattle.full_profile.proofs.marked_lists.ListsInRows.{known, within, blocks_end}
use Rattle.full_profile.proofs.marked_lists.ListsInRows.{cleans_end, cleans_are, emptied_sound}
use Rattle.full_profile.proofs.marked_lists.ListsInRows.{list_emptied}
use Rattle.full_profile.proofs.marked_lists.rows.ListRows.empty_row.Goals as goal
use Rattle.full_profile.proofs.marked_lists.rows.ListRows.empty_row.Goals.{After-deref}

pub overflow_mul-start : goal.overflow_mul-start
overflow_mul-start c =
    let h = known c.self.invariant c.self.view_is c.requires.set in
    omega (arith, cleans_end h, h.sound.small, h.sound.cleans_len)

pub index-requires : goal.index-requires
index-requires c = omega (
  arith,
  within (known c.self.invariant c.self.view_is c.requires.set),
  c.self.inside.lens.ok.0,
)

pub overflow_add-end : goal.overflow_add-end
overflow_add-end c =
    let h = known c.self.invariant c.self.view_is c.requires.set in
    omega (
      arith,
      cleans_end h,
      h.sound.small,
      h.sound.cleans_len,
      get_or_read c.self.inside.lens.items c.args.set c.index.result.now (within h) c.index.ensures
          0,
      h.sound.short c.args.set,
    )

pub offset_bounds-deref-start : goal.offset_bounds-deref-start
offset_bounds-deref-start c =
    let h = known c.self.invariant c.self.view_is c.requires.set in
    omega (arith, cleans_end h, h.sound.small, h.sound.cleans_len)

pub slice_bounds-add_list-end : goal.slice_bounds-add_list-end
slice_bounds-add_list-end c =
    let h = known c.self.invariant c.self.view_is c.requires.set in
    omega (
      arith,
      cleans_end h,
      ap length c.deref.ensures.value,
      get_or_read c.self.inside.lens.items c.args.set c.index.result.now (within h) c.index.ensures
          0,
      h.sound.short c.args.set,
    )

-- the clean depths as they are lent
lent_is : (c : After-deref) →
    take (c.args.set * c.self.inside.depth + c.index.result.now - c.args.set * c.self.inside.depth)
    (drop (c.args.set * c.self.inside.depth) c.deref.result.now)
    ≡ cleans_in c.args.self.now c.args.set
lent_is c =
    let h = known c.self.invariant c.self.view_is c.requires.set in
    let d = c.self.inside.depth in
    let start = c.args.set * d in
    let held : c.index.result.now ≡ get_or c.self.inside.lens.items c.args.set 0 =
    get_or_read c.self.inside.lens.items c.args.set c.index.result.now (within h) c.index.ensures 0
    in
    part_lent start c.index.result.now c.deref.ensures.value
    ∙ ap (λ n. take n (drop start c.self.inside.cleans.items)) held
    ∙ sym (take-take (get_or c.self.inside.lens.items c.args.set 0) d
    (drop start c.self.inside.cleans.items) (h.sound.short c.args.set))
    ∙ sym (cleans_are h)

pub add_list-requires-clause-above_few : goal.add_list-requires-clause-above_few
add_list-requires-clause-above_few c =
    let at = (goal.at.add_list-requires-clause-above_few c).After-deref in
    omega (arith, ap length (lent_is at), c.requires.above)

pub add_list-requires-clause-few : goal.add_list-requires-clause-few
add_list-requires-clause-few c =
    let at = (goal.at.add_list-requires-clause-few c).After-deref in
    omega (arith, ap length (lent_is at), c.requires.up_to)

pub index_mut-requires : goal.index_mut-requires
index_mut-requires c =
    let h = known c.self.invariant c.self.view_is c.requires.set in
    omega (arith, blocks_end h, h.sound.some, c.self.inside.blocks.ok.0)

pub index_mut-requires-2 : goal.index_mut-requires-2
index_mut-requires-2 c = omega (
  arith,
  within (known c.self.invariant c.self.view_is c.requires.set),
  c.self.inside.lens.ok.0,
)

pub invariant_of-self : goal.invariant_of-self
invariant_of-self c = emptied_sound (known c.self.invariant c.self.view_is c.requires.set)

pub returns-clause-lists : goal.returns-clause-lists
returns-clause-lists c = list_emptied (known c.self.invariant c.self.view_is c.requires.set)

pub returns-clause-copies : goal.returns-clause-copies
returns-clause-copies c =
    let at = (goal.at.returns-clause-copies c).After-deref in
    c.add_list.ensures
    ∙ ap (λ l. with_copies_of (up_to_of c.args.emptying c.args.depth) 0 l c.args.copies.now)
    (lent_is at)
