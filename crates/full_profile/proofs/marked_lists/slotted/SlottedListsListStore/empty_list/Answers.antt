-- A set's list is emptied, and its clean depths are counted.
use Rattle.std.proofs.Common.{◌≡◌, ◌∙◌, length, take, ap, sym, arith}
use Rattle.std.proofs.Common.{length-take}
use Rattle.full_profile.specs.declared.marked_lists.slotted.ListSlots.{ListSlots}
use Rattle.full_profile.specs.internal.Copies.{with_copies_of, up_to_of}
use Rattle.full_profile.specs.internal.Marked.{cleans_in}
use Rattle.full_profile.proofs.marked_lists.ListsInSlots.{known, within, front_within, clean_within}
use Rattle.full_profile.proofs.marked_lists.ListsInSlots.{depth_is, list_read, list_lent}
use Rattle.full_profile.proofs.marked_lists.ListsInSlots.{lent_cleans}
use Rattle.full_profile.proofs.marked_lists.ListsInSlots.{emptied_sound, list_emptied}
use Rattle.full_profile.proofs.marked_lists.ListsInSlots.{cleans_size}
use Rattle.full_profile.proofs.marked_lists.slotted.SlottedListsListStore.empty_list.Goals as goal
use Rattle.full_profile.proofs.marked_lists.slotted.SlottedListsListStore.empty_list.Goals.{After-cleans-cleans}

pub index_mut-list-requires : goal.index_mut-list-requires
index_mut-list-requires c = omega (
  arith,
  within (known c.self.invariant c.self.view_is c.requires.set),
  c.self.inside.lists.ok.0,
)

pub index-requires : goal.index-requires
index-requires c = omega (
  arith,
  clean_within (known c.self.invariant c.self.view_is c.requires.set),
  c.self.inside.front_cleans.ok.0,
)

pub cleans-cleans-requires-clause-sound : goal.cleans-cleans-requires-clause-sound
cleans-cleans-requires-clause-sound c =
    list_lent (known c.self.invariant c.self.view_is c.requires.set) c.index_mut-list.ensures.value

pub cleans-cleans-requires-clause-most : goal.cleans-cleans-requires-clause-most
cleans-cleans-requires-clause-most c =
    let h = known c.self.invariant c.self.view_is c.requires.set in
    omega (
      arith,
      ap (λ (l : ListSlots). l.len) (list_read h c.index_mut-list.ensures.value),
      h.sound.short c.args.set,
      h.sound.most,
    )

-- the clean depths as they are lent
lent_is : (c : After-cleans-cleans) →
    take c.index_mut-list.result.now.len c.cleans-cleans.result
    ≡ cleans_in c.args.self.now c.args.set
lent_is c =
    c.cleans-cleans.ensures
    ∙ lent_cleans (known c.self.invariant c.self.view_is c.requires.set) c.index.ensures
    c.index_mut-list.ensures.value

-- they are as many as the list has blocks
lent_long : (c : After-cleans-cleans) →
    length (take c.index_mut-list.result.now.len c.cleans-cleans.result)
    ≡ c.index_mut-list.result.now.len
lent_long c =
    let h = known c.self.invariant c.self.view_is c.requires.set in
    ap length (lent_is c) ∙ cleans_size h
    ∙ ap (λ (l : ListSlots). l.len) (sym (list_read h c.index_mut-list.ensures.value))

pub slice_bounds-cleans-end : goal.slice_bounds-cleans-end
slice_bounds-cleans-end c =
    let at = (goal.at.slice_bounds-cleans-end c).After-cleans-cleans in
    omega (
      arith,
      lent_long at,
      length-take c.index_mut-list.result.now.len c.cleans-cleans.result,
    )

pub slice_bounds-add_list-end : goal.slice_bounds-add_list-end
slice_bounds-add_list-end c =
    sym (lent_long (goal.at.slice_bounds-add_list-end c).After-cleans-cleans)

pub add_list-requires-clause-short : goal.add_list-requires-clause-short
add_list-requires-clause-short c =
    let at = (goal.at.add_list-requires-clause-short c).After-cleans-cleans in
    let h = known c.self.invariant c.self.view_is c.requires.set in
    omega (
      arith,
      lent_long at,
      ap (λ (l : ListSlots). l.len) (list_read h c.index_mut-list.ensures.value),
      h.sound.short c.args.set,
    )

pub add_list-requires-clause-above_few : goal.add_list-requires-clause-above_few
add_list-requires-clause-above_few c =
    let at = (goal.at.add_list-requires-clause-above_few c).After-cleans-cleans in
    omega (arith, ap length (lent_is at), c.requires.above)

pub add_list-requires-clause-few : goal.add_list-requires-clause-few
add_list-requires-clause-few c =
    let at = (goal.at.add_list-requires-clause-few c).After-cleans-cleans in
    omega (arith, ap length (lent_is at), c.requires.up_to)

pub index_mut-requires : goal.index_mut-requires
index_mut-requires c = omega (
  arith,
  front_within (known c.self.invariant c.self.view_is c.requires.set),
  c.self.inside.fronts.ok.0,
)

pub invariant_of-self : goal.invariant_of-self
invariant_of-self c =
    emptied_sound (known c.self.invariant c.self.view_is c.requires.set)
    c.index_mut-list.ensures.value

pub returns-clause-lists : goal.returns-clause-lists
returns-clause-lists c =
    list_emptied (known c.self.invariant c.self.view_is c.requires.set)
    c.index_mut-list.ensures.value

pub returns-clause-copies : goal.returns-clause-copies
returns-clause-copies c =
    let at = (goal.at.returns-clause-copies c).After-cleans-cleans in
    let h = known c.self.invariant c.self.view_is c.requires.set in
    c.add_list.ensures
    ∙ ap (λ l. with_copies_of (up_to_of c.args.emptying c.self.inside.depth) 0 l
    c.args.copies.now) (lent_is at)
    ∙ ap (λ d. with_copies_of (up_to_of c.args.emptying d) 0
    (cleans_in c.args.self.now c.args.set) c.args.copies.now) (depth_is h)
