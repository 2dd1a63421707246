-- A set's row whose list gets a block in front, among the other rows.
use Rattle.std.proofs.Common.{◌≡◌, ℕ, ◌+◌, ◌-◌, ◌*◌, ◌≤◌, ◌∙◌, List, length, take, drop, get_or}
use Rattle.std.proofs.Common.{ap, arith, sym}
use Rattle.std.specs.Vec.{with_items}
use Rattle.std.proofs.lemmas.List.{get_or_read}
use borrow.Rule.Slice.PartMut.{put_mid}
use Rattle.profile_core.specs.profile.RecencyList.{move_to_front}
use Rattle.full_profile.specs.internal.Marked.{Marked, blocks_in, cleans_in, marked_touch_of}
use Rattle.full_profile.specs.internal.Marked.{cleans_after}
use Rattle.std.proofs.Common.{set}
use Rattle.full_profile.specs.internal.Rows.{AreRows}
use Rattle.profile_core.proofs.RowParts.{part_lent, part_long, part_back, part_kept}
use Rattle.full_profile.proofs.marked_lists.ListsInRows.{HasList, known, within, depth_is}
use Rattle.full_profile.proofs.marked_lists.ListsInRows.{blocks_end, cleans_end, blocks_are}
use Rattle.full_profile.proofs.marked_lists.ListsInRows.{cleans_are, rows_sound, lists_put}
use Rattle.full_profile.proofs.marked_lists.rows.ListRowsListStore.bring.Goals as goal
use Rattle.full_profile.proofs.marked_lists.rows.ListRowsListStore.bring.Goals.{After-bring_in_row}

pub overflow_mul-start : goal.overflow_mul-start
overflow_mul-start c =
    let h = known c.self.invariant c.self.view_is c.requires.within in
    omega (arith, blocks_end h, h.sound.small, h.sound.blocks_len)

pub overflow_add-end : goal.overflow_add-end
overflow_add-end c =
    let h = known c.self.invariant c.self.view_is c.requires.within in
    omega (arith, blocks_end h, h.sound.small, h.sound.blocks_len)

pub offset_bounds-deref_mut-start : goal.offset_bounds-deref_mut-start
offset_bounds-deref_mut-start c =
    let h = known c.self.invariant c.self.view_is c.requires.within in
    omega (arith, blocks_end h, h.sound.small, h.sound.blocks_len)

pub slice_bounds-bring_in_row-end : goal.slice_bounds-bring_in_row-end
slice_bounds-bring_in_row-end c =
    let h = known c.self.invariant c.self.view_is c.requires.within in
    omega (arith, blocks_end h, ap length c.deref_mut.ensures.value)

-- the row as it is lent, its length, and the list's length
module _ (c : After-bring_in_row) where
  abbrev start : ℕ
  start = c.args.set * c.self.inside.depth

  has : HasList c.self.inside.depth c.args.set c.self.inside.blocks.items c.self.inside.cleans.items
      c.self.inside.lens.items c.args.self.now
  has = known c.self.invariant c.self.view_is c.requires.within

  abbrev lent : List ℕ
  lent = take (start + c.self.inside.depth - start) (drop start c.deref_mut.result.now)

  abbrev clean_lent : List ℕ
  clean_lent = take (start + c.self.inside.depth - start) (drop start c.deref_mut-2.result.now)

  lent_is : lent ≡ take c.self.inside.depth (drop start c.self.inside.blocks.items)
  lent_is = part_lent start c.self.inside.depth c.deref_mut.ensures.value

  clean_lent_is : clean_lent ≡ take c.self.inside.depth (drop start c.self.inside.cleans.items)
  clean_lent_is = part_lent start c.self.inside.depth c.deref_mut-2.ensures.value

  lent_long : length lent ≡ c.self.inside.depth
  lent_long = ap length lent_is ∙
      part_long start c.self.inside.depth c.self.inside.blocks.items (blocks_end has)

  clean_lent_long : length clean_lent ≡ c.self.inside.depth
  clean_lent_long = ap length clean_lent_is ∙
      part_long start c.self.inside.depth c.self.inside.cleans.items (cleans_end has)

  held_is : c.index_mut.result.now ≡ get_or c.self.inside.lens.items c.args.set 0
  held_is = get_or_read c.self.inside.lens.items c.args.set c.index_mut.result.now (within has)
      c.index_mut.ensures.value 0

  blocks_read : take c.index_mut.result.now lent ≡ blocks_in c.args.self.now c.args.set
  blocks_read = ap (take c.index_mut.result.now) lent_is
      ∙ ap (λ n. take n (take c.self.inside.depth (drop start c.self.inside.blocks.items))) held_is
      ∙ sym (blocks_are has)

  cleans_read : take c.index_mut.result.now clean_lent ≡ cleans_in c.args.self.now c.args.set
  cleans_read = ap (take c.index_mut.result.now) clean_lent_is
      ∙ ap (λ n. take n (take c.self.inside.depth (drop start c.self.inside.cleans.items))) held_is
      ∙ sym (cleans_are has)

  depth_read : length lent ≡ c.args.self.now.depth
  depth_read = lent_long ∙ depth_is has

  -- and as it is put back
  blocks_put : (with_items c.self.inside.blocks (put_mid start
      (start + c.self.inside.depth - start) c.deref_mut.result.now c.bring_in_row.new.blocks)).items
      ≡ put_mid start c.self.inside.depth c.self.inside.blocks.items c.bring_in_row.new.blocks
  blocks_put = part_back c.self.inside.blocks start c.self.inside.depth c.bring_in_row.new.blocks
      c.deref_mut.ensures.value c.deref_mut.ensures.len c.bring_in_row.auto.blocks

  cleans_put : (with_items c.self.inside.cleans (put_mid start
      (start + c.self.inside.depth - start) c.deref_mut-2.result.now
      c.bring_in_row.new.cleans)).items
      ≡ put_mid start c.self.inside.depth c.self.inside.cleans.items c.bring_in_row.new.cleans
  cleans_put = part_back c.self.inside.cleans start c.self.inside.depth c.bring_in_row.new.cleans
      c.deref_mut-2.ensures.value c.deref_mut-2.ensures.len c.bring_in_row.auto.cleans

  new_long : length c.bring_in_row.new.blocks ≡ c.self.inside.depth
  new_long = c.bring_in_row.auto.blocks ∙ lent_long

  clean_new_long : length c.bring_in_row.new.cleans ≡ c.self.inside.depth
  clean_new_long = c.bring_in_row.auto.cleans ∙ clean_lent_long

  abbrev blocks' : List ℕ
  blocks' = (with_items c.self.inside.blocks (put_mid start (start + c.self.inside.depth - start)
      c.deref_mut.result.now c.bring_in_row.new.blocks)).items

  abbrev cleans' : List ℕ
  cleans' = (with_items c.self.inside.cleans (put_mid start (start + c.self.inside.depth - start)
      c.deref_mut-2.result.now c.bring_in_row.new.cleans)).items

  short : c.bring_in_row.new.len ≤ c.self.inside.depth
  short = omega (arith, c.bring_in_row.ensures.fits, lent_long)

  blank : c.bring_in_row.new.len ≡ 0 → get_or c.bring_in_row.new.blocks 0 0 ≡ 0
  blank none = absurd (omega (arith, none, c.bring_in_row.ensures.some))

  sound : AreRows c.self.inside.depth blocks' cleans'
      (set c.self.inside.lens.items c.args.set c.bring_in_row.new.len)
  sound = rows_sound has c.bring_in_row.new.blocks blocks' c.bring_in_row.new.len blocks_put
      new_long short blank cleans' (ap length cleans_put ∙ part_kept start c.self.inside.depth
      c.self.inside.cleans.items (cleans_end has) c.bring_in_row.new.cleans clean_new_long)

  abbrev m : Marked
  m = c.args.self.now

  list_is : take c.bring_in_row.new.len c.bring_in_row.new.blocks
      ≡ take m.depth (move_to_front c.args.block (blocks_in m c.args.set))
  list_is = c.bring_in_row.ensures.blocks
      ∙ ap (λ d. take d (move_to_front c.args.block (take c.index_mut.result.now lent))) depth_read
      ∙ ap (λ xs. take m.depth (move_to_front c.args.block xs)) blocks_read

  clean_list_is : take c.bring_in_row.new.len c.bring_in_row.new.cleans
      ≡ cleans_after m.depth c.args.access c.args.block (blocks_in m c.args.set)
      (cleans_in m c.args.set)
  clean_list_is = c.bring_in_row.ensures.cleans
      ∙ ap (λ d. cleans_after d c.args.access c.args.block (take c.index_mut.result.now lent)
      (take c.index_mut.result.now clean_lent)) depth_read
      ∙ ap (λ xs. cleans_after m.depth c.args.access c.args.block xs
      (take c.index_mut.result.now clean_lent)) blocks_read
      ∙ ap (λ ms. cleans_after m.depth c.args.access c.args.block (blocks_in m c.args.set) ms)
      cleans_read

pub bring_in_row-requires-clause-fits : goal.bring_in_row-requires-clause-fits
bring_in_row-requires-clause-fits c =
    let h = known c.self.invariant c.self.view_is c.requires.within in
    let d = c.self.inside.depth in
    let start = c.args.set * d in
    omega (
      arith,
      get_or_read c.self.inside.lens.items c.args.set c.index_mut.result.now (within h)
          c.index_mut.ensures.value 0,
      h.sound.short c.args.set,
      ap length (part_lent start d c.deref_mut.ensures.value),
      part_long start d c.self.inside.blocks.items (blocks_end h),
    )

pub invariant_of-self : goal.invariant_of-self
invariant_of-self c = sound (goal.at.invariant_of-self c).After-bring_in_row

pub returns-clause-found : goal.returns-clause-found
returns-clause-found c =
    let at = (goal.at.returns-clause-found c).After-bring_in_row in
    c.bring_in_row.ensures.found
    ∙ ap (λ d. marked_touch_of d c.args.block (take c.index_mut.result.now (lent at))
    (take c.index_mut.result.now (clean_lent at))) (depth_read at)
    ∙ ap (λ xs. marked_touch_of c.args.self.now.depth c.args.block xs
    (take c.index_mut.result.now (clean_lent at))) (blocks_read at)
    ∙ ap (λ ms. marked_touch_of c.args.self.now.depth c.args.block
    (blocks_in c.args.self.now c.args.set) ms) (cleans_read at)

pub returns-clause-moved : goal.returns-clause-moved
returns-clause-moved c =
    let at = (goal.at.returns-clause-moved c).After-bring_in_row in
    lists_put (has at) c.bring_in_row.new.blocks (blocks' at) c.bring_in_row.new.len (blocks_put at)
    (new_long at) (short at) (blank at) c.bring_in_row.new.cleans (cleans' at) _ _ (cleans_put at)
    (clean_new_long at) (list_is at) (clean_list_is at)
