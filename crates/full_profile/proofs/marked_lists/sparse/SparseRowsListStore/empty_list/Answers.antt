-- A set's list, as its row begins with it, is emptied, unless it is empty already.
use Rattle.std.proofs.Common.{◌≡◌, ◌+◌, ◌-◌, ◌*◌, ◌<◌, ◌≤◌, ◌∙◌, ℕ, length, take, drop, get_or}
use Rattle.std.proofs.Common.{set, ap}
use Rattle.std.proofs.Common.{arith, sym, subst, vec_capacity, []}
use Rattle.std.proofs.lemmas.List.{take-take, nil_from_length}
use Rattle.full_profile.specs.internal.Marked.{cleans_in}
use Rattle.full_profile.specs.internal.Copies.{with_copies_of, up_to_of}
use Rattle.full_profile.specs.internal.SparseRows.{AreSparse, all_sparse}
use Rattle.profile_core.proofs.RowParts.{part_lent}
use Rattle.full_profile.proofs.marked_lists.SparseRowLemmas.{HasSparse, known, within}
use Rattle.full_profile.proofs.marked_lists.SparseRowLemmas.{place_within, place_read, len_read}
use Rattle.full_profile.proofs.marked_lists.SparseRowLemmas.{cleans_end, depth_is}
use Rattle.full_profile.proofs.marked_lists.SparseRowLemmas.{cleans_are, cleans_size}
use Rattle.full_profile.proofs.marked_lists.SparseRowLemmas.{emptied_sound, list_emptied}
use Rattle.full_profile.proofs.marked_lists.SparseRowLemmas.{list_spared}
use Rattle.full_profile.proofs.marked_lists.sparse.SparseRowsListStore.empty_list.Goals as goal
use Rattle.full_profile.proofs.marked_lists.sparse.SparseRowsListStore.empty_list.Goals.{After-deref}

pub index-requires : goal.index-requires
index-requires c = omega (
  arith,
  within (known c.self.invariant c.self.view_is c.requires.set),
  c.self.inside.lens.ok.0,
)

pub returns-then-held-eq0-clause-lists : goal.returns-then-held-eq0-clause-lists
returns-then-held-eq0-clause-lists c =
    let h = known c.self.invariant c.self.view_is c.requires.set in
    list_spared h (sym (len_read h c.index.ensures) ∙ c.if-held-eq0.true)

pub returns-then-held-eq0-clause-copies : goal.returns-then-held-eq0-clause-copies
unfolding with_copies_of
returns-then-held-eq0-clause-copies c =
    let h = known c.self.invariant c.self.view_is c.requires.set in
    let none : cleans_in c.args.self.now c.args.set ≡ [] =
    nil_from_length (cleans_in c.args.self.now c.args.set)
    (cleans_size h ∙ sym (len_read h c.index.ensures) ∙ c.if-held-eq0.true) in
    ap (λ l. with_copies_of (up_to_of c.args.emptying c.args.self.now.depth) 0 l c.args.copies.now)
    (sym none)

pub index-requires-2 : goal.index-requires-2
index-requires-2 c = omega (
  arith,
  place_within (known c.self.invariant c.self.view_is c.requires.set),
  c.self.inside.places.ok.0,
)

-- the clean depths as they are lent
module _ (c : After-deref) where
  abbrev d : ℕ
  d = c.self.inside.depth

  abbrev start : ℕ
  start = c.index-2.result.now * d

  has : HasSparse d c.args.set c.self.inside.places.items c.self.inside.blocks.items
      c.self.inside.cleans.items c.self.inside.lens.items (vec_capacity c.self.inside.blocks)
      (vec_capacity c.self.inside.cleans) c.args.self.now
  has = known c.self.invariant c.self.view_is c.requires.set

  held_is : c.index.result.now ≡ get_or c.self.inside.lens.items c.args.set 0
  held_is = len_read has c.index.ensures

  start_is : start ≡ get_or c.self.inside.places.items c.args.set 0 * d
  start_is = ap (λ p. p * d) (place_read has c.index-2.ensures)

  short : c.index.result.now ≤ d
  short = omega (arith, held_is, has.sound.short c.args.set)

  ends : start + d ≤ length c.self.inside.cleans.items
  ends = omega (arith, start_is, cleans_end has)

  lent_is : take (start + c.index.result.now - start) (drop start c.deref.result.now)
      ≡ cleans_in c.args.self.now c.args.set
  lent_is = part_lent start c.index.result.now c.deref.ensures.value
      ∙ ap (λ b. take c.index.result.now (drop b c.self.inside.cleans.items)) start_is
      ∙ ap (λ n. take n (drop (get_or c.self.inside.places.items c.args.set 0 * d)
      c.self.inside.cleans.items)) held_is
      ∙ sym (take-take (get_or c.self.inside.lens.items c.args.set 0) d
      (drop (get_or c.self.inside.places.items c.args.set 0 * d) c.self.inside.cleans.items)
      (has.sound.short c.args.set))
      ∙ sym (cleans_are has)

pub slice_bounds-add_list-end : goal.slice_bounds-add_list-end
slice_bounds-add_list-end c =
    let at = (goal.at.slice_bounds-add_list-end c).After-deref in
    omega (arith, ends at, short at, ap length c.deref.ensures.value)

pub add_list-requires-clause-short : goal.add_list-requires-clause-short
add_list-requires-clause-short c =
    let at = (goal.at.add_list-requires-clause-short c).After-deref in
    omega (arith, ap length (lent_is at), cleans_size (has at), (has at).sound.short c.args.set)

pub add_list-requires-clause-above_few : goal.add_list-requires-clause-above_few
add_list-requires-clause-above_few c =
    let at = (goal.at.add_list-requires-clause-above_few c).After-deref in
    omega (arith, ap length (lent_is at), c.requires.above)

pub add_list-requires-clause-few : goal.add_list-requires-clause-few
add_list-requires-clause-few c =
    let at = (goal.at.add_list-requires-clause-few c).After-deref in
    omega (arith, ap length (lent_is at), c.requires.up_to)

pub index_mut-requires-2 : goal.index_mut-requires-2
index_mut-requires-2 c = omega (
  arith,
  within (known c.self.invariant c.self.view_is c.requires.set),
  c.self.inside.lens.ok.0,
)

own : (c : After-deref) → 0 < get_or c.self.inside.places.items c.args.set 0
own c = (has c).sound.own c.args.set (omega (arith, held_is c, c.if-held-eq0.false))

pub invariant_of-self : goal.invariant_of-self
invariant_of-self c =
    let at = (goal.at.invariant_of-self c).After-deref in
    subst (λ b. AreSparse c.self.inside.depth c.self.inside.places.items
    (set c.self.inside.blocks.items b 0) c.self.inside.cleans.items
    (set c.self.inside.lens.items c.args.set 0) (vec_capacity c.self.inside.blocks)
    (vec_capacity c.self.inside.cleans)) (sym (start_is at)) (emptied_sound (has at) (own at))

pub returns-clause-lists : goal.returns-clause-lists
returns-clause-lists c =
    let at = (goal.at.returns-clause-lists c).After-deref in
    ap (λ b. record {
      depth = c.self.inside.depth;
      blocks = all_sparse c.self.inside.depth c.self.inside.places.items
          (set c.self.inside.blocks.items b 0) (set c.self.inside.lens.items c.args.set 0);
      cleans = all_sparse c.self.inside.depth c.self.inside.places.items
          c.self.inside.cleans.items (set c.self.inside.lens.items c.args.set 0);
    }) (start_is at)
    ∙ list_emptied (has at) (own at)

pub returns-clause-copies : goal.returns-clause-copies
returns-clause-copies c =
    let at = (goal.at.returns-clause-copies c).After-deref in
    c.add_list.ensures
    ∙ ap (λ l. with_copies_of (up_to_of c.args.emptying c.self.inside.depth) 0 l
    c.args.copies.now) (lent_is at)
    ∙ ap (λ d. with_copies_of (up_to_of c.args.emptying d) 0
    (cleans_in c.args.self.now c.args.set) c.args.copies.now) (depth_is (has at))
