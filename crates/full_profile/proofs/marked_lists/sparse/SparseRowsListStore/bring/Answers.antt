-- A set's own row whose list gets a block in front, among the other rows.
use Rattle.std.proofs.Common.{◌≡◌, ℕ, ◌+◌, ◌-◌, ◌*◌, ◌<◌, ◌≤◌, ◌^◌, ◌∙◌, List, length, take, drop}
use Rattle.std.proofs.Common.{get_or, ap, arith, sym, set, subst, vec_capacity}
use Rattle.std.specs.Vec.{with_items}
use Rattle.std.proofs.lemmas.List.{with_items_is}
use borrow.Rule.Slice.PartMut.{put_mid}
use Rattle.profile_core.specs.profile.RecencyList.{move_to_front}
use Rattle.profile_core.specs.internal.rests.SparseRests.{sparse_rest}
use Rattle.profile_core.proofs.SparseRestLemmas.{rest_long}
use Rattle.full_profile.specs.internal.Marked.{Marked, blocks_in, cleans_in, marked_touch_of}
use Rattle.full_profile.specs.internal.Marked.{cleans_after}
use Rattle.full_profile.specs.internal.SparseRows.{AreSparse, all_sparse}
use Rattle.profile_core.proofs.RowParts.{part_lent, part_back}
use Rattle.full_profile.proofs.marked_lists.SparseRowLemmas.{HasSparse, known, place_within}
use Rattle.full_profile.proofs.marked_lists.SparseRowLemmas.{ready, within, len_read, depth_is}
use Rattle.full_profile.proofs.marked_lists.SparseRowLemmas.{blocks_end, cleans_end, blocks_are}
use Rattle.full_profile.proofs.marked_lists.SparseRowLemmas.{cleans_are, rows_sound, lists_put}
use Rattle.full_profile.proofs.marked_lists.SparseRowLemmas.{numbers_few}
use Rattle.full_profile.proofs.marked_lists.sparse.SparseRowsListStore.bring.Goals as goal
use Rattle.full_profile.proofs.marked_lists.sparse.SparseRowsListStore.bring.Goals.{After-own_row}
use
    Rattle.full_profile.proofs.marked_lists.sparse.SparseRowsListStore.bring.Goals.{After-bring_in_row}

pub own_row-requires-clause-within : goal.own_row-requires-clause-within
own_row-requires-clause-within c = omega (
  arith,
  place_within (known c.self.invariant c.self.view_is c.requires.within),
  ap length c.deref_mut.ensures.value,
)

-- the lists, once the set has a row of its own
module _ (c : After-own_row) where
  has : HasSparse c.self.inside.depth c.args.set c.own_row.new.places c.own_row.new.blocks.items
      c.own_row.new.cleans.items c.self.inside.lens.items (vec_capacity c.own_row.new.blocks)
      (vec_capacity c.own_row.new.cleans) c.args.self.now
  has = ready (known c.self.invariant c.self.view_is c.requires.within) c.deref_mut.ensures.value
      c.own_row.auto.places c.own_row.ensures.blocks c.own_row.ensures.cleans
      c.own_row.ensures.same_blocks c.own_row.ensures.same_cleans c.own_row.ensures.kept

  start_is : c.own_row.result * c.self.inside.depth
      ≡ get_or c.own_row.new.places c.args.set 0 * c.self.inside.depth
  start_is = ap (λ p. p * c.self.inside.depth) c.own_row.ensures.which

  ends : c.own_row.result * c.self.inside.depth + c.self.inside.depth
      ≤ length c.own_row.new.blocks.items
  ends = omega (arith, start_is, blocks_end has)

  cleans_ends : c.own_row.result * c.self.inside.depth + c.self.inside.depth
      ≤ length c.own_row.new.cleans.items
  cleans_ends = omega (arith, start_is, cleans_end has)

  few : length c.own_row.new.blocks.items ≤ 2 ^ 26
  few = numbers_few has.sound.blocks_sparse

pub overflow_mul-start : goal.overflow_mul-start
overflow_mul-start c =
    let at = (goal.at.overflow_mul-start c).After-own_row in
    omega (arith, ends at, few at)

pub overflow_add-end : goal.overflow_add-end
overflow_add-end c =
    let at = (goal.at.overflow_add-end c).After-own_row in
    omega (arith, ends at, few at)

pub offset_bounds-deref_mut-start : goal.offset_bounds-deref_mut-start
offset_bounds-deref_mut-start c =
    let at = (goal.at.offset_bounds-deref_mut-start c).After-own_row in
    omega (arith, ends at, few at)

pub slice_bounds-bring_in_row-end : goal.slice_bounds-bring_in_row-end
slice_bounds-bring_in_row-end c =
    let at = (goal.at.slice_bounds-bring_in_row-end c).After-own_row in
    omega (arith, ends at, ap length c.deref_mut-2.ensures.value)

pub slice_bounds-bring_in_row-end-2 : goal.slice_bounds-bring_in_row-end-2
slice_bounds-bring_in_row-end-2 c =
    let at = (goal.at.slice_bounds-bring_in_row-end-2 c).After-own_row in
    omega (arith, cleans_ends at, ap length c.deref_mut-3.ensures.value)

pub index_mut-requires : goal.index_mut-requires
index_mut-requires c = omega (
  arith,
  within (known c.self.invariant c.self.view_is c.requires.within),
  c.self.inside.lens.ok.0,
)

-- the row as it is lent, and its list
module _ (c : After-bring_in_row) where
  abbrev d : ℕ
  d = c.self.inside.depth

  abbrev k : ℕ
  k = c.args.set

  abbrev m : Marked
  m = c.args.self.now

  abbrev start : ℕ
  start = c.own_row.result * d

  abbrev places : List ℕ
  places = c.own_row.new.places

  h : HasSparse d k places c.own_row.new.blocks.items c.own_row.new.cleans.items
      c.self.inside.lens.items (vec_capacity c.own_row.new.blocks)
      (vec_capacity c.own_row.new.cleans) m
  h = ready (known c.self.invariant c.self.view_is c.requires.within) c.deref_mut.ensures.value
      c.own_row.auto.places c.own_row.ensures.blocks c.own_row.ensures.cleans
      c.own_row.ensures.same_blocks c.own_row.ensures.same_cleans c.own_row.ensures.kept

  own_then : 0 < get_or places k 0
  own_then = omega (arith, c.own_row.ensures.own, c.own_row.ensures.which)

  start_then : start ≡ get_or places k 0 * d
  start_then = ap (λ p. p * d) c.own_row.ensures.which

  abbrev lent : List ℕ
  lent = take (start + d - start) (drop start c.deref_mut-2.result.now)

  abbrev clean_lent : List ℕ
  clean_lent = take (start + d - start) (drop start c.deref_mut-3.result.now)

  lent_is : lent ≡ sparse_rest d places c.own_row.new.blocks.items k
  lent_is = part_lent start d c.deref_mut-2.ensures.value
      ∙ ap (λ b. take d (drop b c.own_row.new.blocks.items)) start_then

  clean_lent_is : clean_lent ≡ sparse_rest d places c.own_row.new.cleans.items k
  clean_lent_is = part_lent start d c.deref_mut-3.ensures.value
      ∙ ap (λ b. take d (drop b c.own_row.new.cleans.items)) start_then

  lent_long : length lent ≡ d
  lent_long = ap length lent_is ∙ rest_long h.sound.blocks_sparse k

  clean_lent_long : length clean_lent ≡ d
  clean_lent_long = ap length clean_lent_is ∙ rest_long h.sound.cleans_sparse k

  held_is : c.index_mut.result.now ≡ get_or c.self.inside.lens.items k 0
  held_is = len_read h c.index_mut.ensures.value

  blocks_read : take c.index_mut.result.now lent ≡ blocks_in m k
  blocks_read = ap (take c.index_mut.result.now) lent_is
      ∙ ap (λ n. take n (sparse_rest d places c.own_row.new.blocks.items k)) held_is
      ∙ sym (blocks_are h)

  cleans_read : take c.index_mut.result.now clean_lent ≡ cleans_in m k
  cleans_read = ap (take c.index_mut.result.now) clean_lent_is
      ∙ ap (λ n. take n (sparse_rest d places c.own_row.new.cleans.items k)) held_is
      ∙ sym (cleans_are h)

  depth_read : length lent ≡ m.depth
  depth_read = lent_long ∙ depth_is h

  -- and as it is put back
  blocks_put : (with_items c.own_row.new.blocks (put_mid start (start + d - start)
      c.deref_mut-2.result.now c.bring_in_row.new.blocks)).items
      ≡ put_mid (get_or places k 0 * d) d c.own_row.new.blocks.items c.bring_in_row.new.blocks
  blocks_put = part_back c.own_row.new.blocks start d c.bring_in_row.new.blocks
      c.deref_mut-2.ensures.value c.deref_mut-2.ensures.len c.bring_in_row.auto.blocks
      ∙ ap (λ b. put_mid b d c.own_row.new.blocks.items c.bring_in_row.new.blocks)
      start_then

  cleans_put : (with_items c.own_row.new.cleans (put_mid start (start + d - start)
      c.deref_mut-3.result.now c.bring_in_row.new.cleans)).items
      ≡ put_mid (get_or places k 0 * d) d c.own_row.new.cleans.items c.bring_in_row.new.cleans
  cleans_put = part_back c.own_row.new.cleans start d c.bring_in_row.new.cleans
      c.deref_mut-3.ensures.value c.deref_mut-3.ensures.len c.bring_in_row.auto.cleans
      ∙ ap (λ b. put_mid b d c.own_row.new.cleans.items c.bring_in_row.new.cleans)
      start_then

  places_put : (with_items c.self.inside.places places).items ≡ places
  places_put = with_items_is c.self.inside.places places
      (omega (arith, c.own_row.auto.places, c.deref_mut.ensures.len))

  new_long : length c.bring_in_row.new.blocks ≡ d
  new_long = c.bring_in_row.auto.blocks ∙ lent_long

  clean_new_long : length c.bring_in_row.new.cleans ≡ d
  clean_new_long = c.bring_in_row.auto.cleans ∙ clean_lent_long

  short : c.bring_in_row.new.len ≤ d
  short = omega (arith, c.bring_in_row.ensures.fits, lent_long)

  blank : c.bring_in_row.new.len ≡ 0 → get_or c.bring_in_row.new.blocks 0 0 ≡ 0
  blank none = absurd (omega (arith, none, c.bring_in_row.ensures.some))

  abbrev blocks' : List ℕ
  blocks' = (with_items c.own_row.new.blocks (put_mid start (start + d - start)
      c.deref_mut-2.result.now c.bring_in_row.new.blocks)).items

  abbrev cleans' : List ℕ
  cleans' = (with_items c.own_row.new.cleans (put_mid start (start + d - start)
      c.deref_mut-3.result.now c.bring_in_row.new.cleans)).items

  abbrev places' : List ℕ
  places' = (with_items c.self.inside.places places).items

  abbrev lens' : List ℕ
  lens' = set c.self.inside.lens.items k c.bring_in_row.new.len

  sound : AreSparse d places' blocks' cleans' lens' (vec_capacity c.own_row.new.blocks)
      (vec_capacity c.own_row.new.cleans)
  sound = subst (λ ps. AreSparse d ps blocks' cleans' lens' (vec_capacity c.own_row.new.blocks)
      (vec_capacity c.own_row.new.cleans)) (sym places_put)
      (subst (λ bs. AreSparse d places bs cleans' lens' (vec_capacity c.own_row.new.blocks)
      (vec_capacity c.own_row.new.cleans)) (sym blocks_put)
      (subst (λ cs. AreSparse d places (put_mid (get_or places k 0 * d) d
      c.own_row.new.blocks.items c.bring_in_row.new.blocks) cs lens'
      (vec_capacity c.own_row.new.blocks) (vec_capacity c.own_row.new.cleans)) (sym cleans_put)
      (rows_sound h own_then c.bring_in_row.new.blocks c.bring_in_row.new.cleans
      c.bring_in_row.new.len new_long clean_new_long short blank)))

  list_is : take c.bring_in_row.new.len c.bring_in_row.new.blocks
      ≡ take m.depth (move_to_front c.args.block (blocks_in m k))
  list_is = c.bring_in_row.ensures.blocks
      ∙ ap (λ e. take e (move_to_front c.args.block (take c.index_mut.result.now lent))) depth_read
      ∙ ap (λ xs. take m.depth (move_to_front c.args.block xs)) blocks_read

  clean_list_is : take c.bring_in_row.new.len c.bring_in_row.new.cleans
      ≡ cleans_after m.depth c.args.access c.args.block (blocks_in m k) (cleans_in m k)
  clean_list_is = c.bring_in_row.ensures.cleans
      ∙ ap (λ e. cleans_after e c.args.access c.args.block (take c.index_mut.result.now lent)
      (take c.index_mut.result.now clean_lent)) depth_read
      ∙ ap (λ xs. cleans_after m.depth c.args.access c.args.block xs
      (take c.index_mut.result.now clean_lent)) blocks_read
      ∙ ap (λ ms. cleans_after m.depth c.args.access c.args.block (blocks_in m k) ms) cleans_read

pub bring_in_row-requires-clause-fits : goal.bring_in_row-requires-clause-fits
bring_in_row-requires-clause-fits c =
    let at = (goal.at.bring_in_row-requires-clause-fits c).After-own_row in
    let d = c.self.inside.depth in
    let start = c.own_row.result * d in
    let i = has at in
    omega (
      arith,
      len_read i c.index_mut.ensures.value,
      i.sound.short c.args.set,
      ap length (part_lent start d c.deref_mut-2.ensures.value),
      ap (λ b. length (take d (drop b c.own_row.new.blocks.items))) (start_is at),
      rest_long i.sound.blocks_sparse c.args.set,
    )

pub invariant_of-self : goal.invariant_of-self
invariant_of-self c = sound (goal.at.invariant_of-self c).After-bring_in_row

pub returns-clause-found : goal.returns-clause-found
returns-clause-found c =
    let at = (goal.at.returns-clause-found c).After-bring_in_row in
    c.bring_in_row.ensures.found
    ∙ ap (λ d. marked_touch_of d c.args.block (take c.index_mut.result.now (lent at))
    (take c.index_mut.result.now (clean_lent at))) (depth_read at)
    ∙ ap (λ xs. marked_touch_of c.args.self.now.depth c.args.block xs
    (take c.index_mut.result.now (clean_lent at))) (blocks_read at)
    ∙ ap (λ ms. marked_touch_of c.args.self.now.depth c.args.block
    (blocks_in c.args.self.now c.args.set) ms) (cleans_read at)

pub returns-clause-moved : goal.returns-clause-moved
returns-clause-moved c =
    let at = (goal.at.returns-clause-moved c).After-bring_in_row in
    let i = h at in
    let e = d at in
    ap (λ ps. record {
      depth = e;
      blocks = all_sparse e ps (blocks' at) (lens' at);
      cleans = all_sparse e ps (cleans' at) (lens' at);
    }) (places_put at)
    ∙ ap (λ bs. record {
      depth = e;
      blocks = all_sparse e (places at) bs (lens' at);
      cleans = all_sparse e (places at) (cleans' at) (lens' at);
    }) (blocks_put at)
    ∙ ap (λ cs. record {
      depth = e;
      blocks = all_sparse e (places at) (put_mid (get_or (places at) c.args.set 0 * e) e
          c.own_row.new.blocks.items c.bring_in_row.new.blocks) (lens' at);
      cleans = all_sparse e (places at) cs (lens' at);
    }) (cleans_put at)
    ∙ lists_put i (own_then at) c.bring_in_row.new.blocks c.bring_in_row.new.cleans
    c.bring_in_row.new.len (new_long at) (clean_new_long at) (short at) (blank at) _ _ (list_is at)
    (clean_list_is at)
