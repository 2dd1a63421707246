-- The blocks behind the row are counted first, and then those of the row.
use Rattle.std.proofs.Common.{◌≡◌, ◌+◌, ◌∙◌, length, sum, ap, sym, arith, length-append}
use Rattle.full_profile.specs.internal.Copies.{with_copies_of, up_to_of}
use Rattle.full_profile.specs.internal.Marked.{cleans_in}
use Rattle.full_profile.proofs.copies.Adding.{copies_more, copies_append}
use Rattle.full_profile.proofs.marked_lists.LongLists.{known, near_set, far_set, depth_is, far_read}
use Rattle.full_profile.proofs.marked_lists.LongLists.{cleans_are, marks_long, values_long, marks}
use Rattle.full_profile.proofs.marked_lists.LongLists.{values, emptied}
use Rattle.full_profile.proofs.marked_lists.long_lists.LongListsListStore.empty_list.Goals as goal

pub held-held-requires : goal.held-held-requires
held-held-requires c = near_set (known c.self.invariant c.self.view_is c.requires.set)

pub index_mut-requires : goal.index_mut-requires
index_mut-requires c = omega (
  arith,
  far_set (known c.self.invariant c.self.view_is c.requires.set),
  c.self.inside.far.ok.0,
)

pub empty_rest-requires-clause-short : goal.empty_rest-requires-clause-short
empty_rest-requires-clause-short c =
    let h = known c.self.invariant c.self.view_is c.requires.set in
    omega (
      arith,
      c.held-held.ensures,
      ap (λ d. length d.values) (far_read h c.index_mut.ensures.value),
      values_long h,
      h.sound.split.short c.args.set,
      h.sound.split.rest_short c.args.set,
      c.depth-depth.ensures,
      depth_is h,
    )

pub empty_rest-requires-clause-above_few : goal.empty_rest-requires-clause-above_few
empty_rest-requires-clause-above_few c =
    let h = known c.self.invariant c.self.view_is c.requires.set in
    omega (
      arith,
      ap (λ d. length d.values) (far_read h c.index_mut.ensures.value),
      ap length (cleans_are h),
      length-append (marks h) (values h),
      c.requires.above,
    )

pub empty_rest-requires-clause-few : goal.empty_rest-requires-clause-few
empty_rest-requires-clause-few c =
    let h = known c.self.invariant c.self.view_is c.requires.set in
    omega (
      arith,
      ap (λ d. length d.values) (far_read h c.index_mut.ensures.value),
      ap length (cleans_are h),
      length-append (marks h) (values h),
      c.requires.up_to,
    )

pub empty_row-requires-clause-set : goal.empty_row-requires-clause-set
empty_row-requires-clause-set c = near_set (known c.self.invariant c.self.view_is c.requires.set)

pub empty_row-requires-clause-deep : goal.empty_row-requires-clause-deep
empty_row-requires-clause-deep c =
    let h = known c.self.invariant c.self.view_is c.requires.set in
    omega (arith, c.depth-depth.ensures, depth_is h)

pub empty_row-requires-clause-above_within : goal.empty_row-requires-clause-above_within
empty_row-requires-clause-above_within c =
    let more = copies_more (up_to_of c.args.emptying c.depth-depth.result) c.held-held.result
    c.index_mut.result.now.values c.args.copies.now in
    omega (
      arith,
      ap (λ e. length e.above) c.empty_rest.ensures.copies,
      more.above_long,
      c.depth-depth.ensures,
      c.requires.above_within,
    )

pub empty_row-requires-clause-within : goal.empty_row-requires-clause-within
empty_row-requires-clause-within c =
    let more = copies_more (up_to_of c.args.emptying c.depth-depth.result) c.held-held.result
    c.index_mut.result.now.values c.args.copies.now in
    omega (
      arith,
      ap (λ e. length e.up_to) c.empty_rest.ensures.copies,
      more.up_to_long,
      c.depth-depth.ensures,
      c.requires.within,
    )

pub empty_row-requires-clause-above : goal.empty_row-requires-clause-above
empty_row-requires-clause-above c =
    let h = known c.self.invariant c.self.view_is c.requires.set in
    let more = copies_more (up_to_of c.args.emptying c.depth-depth.result) c.held-held.result
    c.index_mut.result.now.values c.args.copies.now in
    omega (
      arith,
      ap (λ e. sum e.above) c.empty_rest.ensures.copies,
      more.above_few,
      ap (λ d. length d.values) (far_read h c.index_mut.ensures.value),
      ap length (cleans_are h),
      length-append (marks h) (values h),
      c.requires.above,
    )

pub empty_row-requires-clause-up_to : goal.empty_row-requires-clause-up_to
empty_row-requires-clause-up_to c =
    let h = known c.self.invariant c.self.view_is c.requires.set in
    let more = copies_more (up_to_of c.args.emptying c.depth-depth.result) c.held-held.result
    c.index_mut.result.now.values c.args.copies.now in
    omega (
      arith,
      ap (λ e. sum e.up_to) c.empty_rest.ensures.copies,
      more.up_to_few,
      ap (λ d. length d.values) (far_read h c.index_mut.ensures.value),
      ap length (cleans_are h),
      length-append (marks h) (values h),
      c.requires.up_to,
    )

pub invariant_of-self : goal.invariant_of-self
invariant_of-self c =
    let h = known c.self.invariant c.self.view_is c.requires.set in
    let put = emptied h c.index_mut.result.now (far_read h c.index_mut.ensures.value)
    c.empty_row.ensures.lists c.empty_rest.ensures.list in
    put.sound

pub returns-clause-lists : goal.returns-clause-lists
returns-clause-lists c =
    let h = known c.self.invariant c.self.view_is c.requires.set in
    let put = emptied h c.index_mut.result.now (far_read h c.index_mut.ensures.value)
    c.empty_row.ensures.lists c.empty_rest.ensures.list in
    put.seen

pub returns-clause-copies : goal.returns-clause-copies
returns-clause-copies c =
    let h = known c.self.invariant c.self.view_is c.requires.set in
    let up_to = up_to_of c.args.emptying c.depth-depth.result in
    let copies = c.args.copies.now in
    let behind : c.held-held.result ≡ 0 + length (marks h) =
    omega (arith, c.held-held.ensures, marks_long h) in
    c.empty_row.ensures.copies
    ∙ ap (with_copies_of up_to 0 (marks h)) (c.empty_rest.ensures.copies
    ∙ ap (λ d. with_copies_of up_to c.held-held.result d.values copies)
    (far_read h c.index_mut.ensures.value)
    ∙ ap (λ n. with_copies_of up_to n (values h) copies) behind)
    ∙ sym (copies_append up_to 0 (marks h) (values h) copies)
    ∙ ap (λ l. with_copies_of up_to 0 l copies) (sym (cleans_are h))
    ∙ ap (λ n. with_copies_of (up_to_of c.args.emptying n) 0 (cleans_in c.args.self.now c.args.set)
    copies) c.depth-depth.ensures
