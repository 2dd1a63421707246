-- A row whose list gets a block in front: the pass over it, and what is written after that.
use Rattle.std.proofs.Common.{◌≡◌, ℕ, List, ◌∙◌, ◌∷◌, cond, length, take, drop, sym, ap, arith}
use Rattle.std.proofs.Common.{◌++◌, length-append, length-drop}
use Rattle.std.specs.List.{remove}
use Rattle.std.proofs.lemmas.List.{length-take-le}
use Rattle.trace_core.specs.Events.{is_write}
use Rattle.profile_core.specs.profile.RecencyList.{index_of}
use Rattle.full_profile.proofs.marked_lists.RowBringing.{row_kept, row_full, row_first, row_grown}
use Rattle.full_profile.proofs.marked_lists.RowBringing.{here, nowhere, clean_written, clean_read}
use Rattle.full_profile.proofs.marked_lists.RowBringing.{clean_new, touch_full, IsHere, IsNowhere}
use Rattle.full_profile.proofs.marked_lists.row.bring_in_row.Goals as goal
use Rattle.full_profile.proofs.marked_lists.row.bring_in_row.Goals.{After-shift_past}
use Rattle.full_profile.proofs.marked_lists.row.bring_in_row.Goals.{then-written, else-written}

blocks_size : (c : After-shift_past) → length (take c.args.len.now c.args.blocks.now) ≡
    c.args.len.now
blocks_size c = length-take-le c.args.len.now c.args.blocks.now c.requires.fits

cleans_size : (c : After-shift_past) → length (take c.args.len.now c.args.cleans.now) ≡
    c.args.len.now
cleans_size c = length-take-le c.args.len.now c.args.cleans.now
    (omega (arith, c.requires.fits, c.requires.beside))

row_long : (c : After-shift_past) →
    length (c.shift_past.new.blocks ++ drop c.args.len.now c.args.blocks.now)
    ≡ length c.args.blocks.now
row_long c = omega (
  arith,
  length-append c.shift_past.new.blocks (drop c.args.len.now c.args.blocks.now),
  length-drop c.args.len.now c.args.blocks.now,
  c.shift_past.auto.blocks,
  blocks_size c,
  c.requires.fits,
)

first_is : (c : After-shift_past) →
    c.if-written.clean_if_new ≡ cond (is_write c.args.access) 0 (length c.args.blocks.now)
first_is c = elim c.if-written.branch [
  | then-written w ↦ w.clean_if_new-is ∙
      sym (ap (λ b. cond b 0 (length c.args.blocks.now))
      (sym c.writes-written.ensures ∙ w.if-written.true))
  | else-written w ↦ w.clean_if_new-is ∙
      sym (ap (λ b. cond b 0 (length c.args.blocks.now))
      (sym c.writes-written.ensures ∙ w.if-written.false))
]

-- the list as it was, and its clean depths
abbrev xs : (c : After-shift_past) → List ℕ
xs c = take c.args.len.now c.args.blocks.now

abbrev ms : (c : After-shift_past) → List ℕ
ms c = take c.args.len.now c.args.cleans.now

pub returns-then-not-written-clause-blocks : goal.returns-then-not-written-clause-blocks
returns-then-not-written-clause-blocks c =
    let at = (goal.at.returns-then-not-written-clause-blocks c).After-shift_past in
    let h : IsHere c.in-Found.distance c.in-Found.clean c.args.block (xs at) (ms at) =
    here c.args.block c.if-written.clean_if_new c.in-Found.ensures.shifted in
    row_kept _ _ _ (blocks_size at) (omega (arith, h.within, blocks_size at)) c.requires.fits
    c.shift_past.ensures.blocks

pub returns-else-not-written-clause-blocks : goal.returns-else-not-written-clause-blocks
returns-else-not-written-clause-blocks c =
    let at = (goal.at.returns-else-not-written-clause-blocks c).After-shift_past in
    let h : IsHere c.in-Found.distance c.in-Found.clean c.args.block (xs at) (ms at) =
    here c.args.block c.if-written.clean_if_new c.in-Found.ensures.shifted in
    row_kept _ _ _ (blocks_size at) (omega (arith, h.within, blocks_size at)) c.requires.fits
    c.shift_past.ensures.blocks

pub returns-then-not-written-clause-cleans : goal.returns-then-not-written-clause-cleans
returns-then-not-written-clause-cleans c =
    let at = (goal.at.returns-then-not-written-clause-cleans c).After-shift_past in
    let h : IsHere c.in-Found.distance c.in-Found.clean c.args.block (xs at) (ms at) =
    here c.args.block c.if-written.clean_if_new c.in-Found.ensures.shifted in
    row_first c.if-written.clean_if_new _ (ms at) _ (cleans_size at)
    (omega (arith, h.within, blocks_size at)) c.requires.fits c.shift_past.ensures.cleans
    ∙ ap (λ m. take (length c.args.blocks.now) (m ∷ remove (ms at) (index_of c.args.block (xs at))))
    (c.max.ensures ∙ clean_read (length c.args.blocks.now) c.args.access
    (sym c.writes-written.ensures ∙ c.if-not-written.true) h)

pub returns-else-not-written-clause-cleans : goal.returns-else-not-written-clause-cleans
returns-else-not-written-clause-cleans c =
    let at = (goal.at.returns-else-not-written-clause-cleans c).After-shift_past in
    let h : IsHere c.in-Found.distance c.in-Found.clean c.args.block (xs at) (ms at) =
    here c.args.block c.if-written.clean_if_new c.in-Found.ensures.shifted in
    let written = sym c.writes-written.ensures ∙ c.if-not-written.false in
    row_kept c.if-written.clean_if_new (ms at) _ (cleans_size at)
    (omega (arith, h.within, blocks_size at)) c.requires.fits c.shift_past.ensures.cleans
    ∙ ap (λ m. take (length c.args.blocks.now) (m ∷ remove (ms at) (index_of c.args.block (xs at))))
    (first_is at ∙ ap (λ b. cond b 0 (length c.args.blocks.now)) written
    ∙ clean_written (length c.args.blocks.now) c.args.block c.args.access (xs at) (ms at) written)

pub returns-then-held-blocks-clause-blocks : goal.returns-then-held-blocks-clause-blocks
returns-then-held-blocks-clause-blocks c =
    let at = (goal.at.returns-then-held-blocks-clause-blocks c).After-shift_past in
    let h : IsNowhere c.in-Out.last c.in-Out.clean c.args.block c.args.block
    c.if-written.clean_if_new (xs at) (ms at) = nowhere c.in-Out.ensures.shifted in
    row_grown _ _ (omega (arith, c.if-held-blocks.true, row_long at)) h.index_is
    c.shift_past.ensures.blocks h.last_is

pub returns-then-held-blocks-clause-cleans : goal.returns-then-held-blocks-clause-cleans
returns-then-held-blocks-clause-cleans c =
    let at = (goal.at.returns-then-held-blocks-clause-cleans c).After-shift_past in
    let h : IsNowhere c.in-Out.last c.in-Out.clean c.args.block c.args.block
    c.if-written.clean_if_new (xs at) (ms at) = nowhere c.in-Out.ensures.shifted in
    row_grown c.if-written.clean_if_new c.args.cleans.now
    (omega (arith, c.if-held-blocks.true, row_long at, c.requires.beside))
    (cleans_size at ∙ sym (blocks_size at) ∙ h.index_is) c.shift_past.ensures.cleans h.clean_is
    ∙ ap (λ d. take d (c.if-written.clean_if_new ∷ remove (ms at) (index_of c.args.block (xs at))))
    c.requires.beside
    ∙ ap (λ m. take (length c.args.blocks.now) (m ∷ remove (ms at) (index_of c.args.block (xs at))))
    (clean_new (length c.args.blocks.now) c.args.block c.args.access (xs at) (ms at) h.outside
    (first_is at))

pub returns-else-held-blocks-clause-blocks : goal.returns-else-held-blocks-clause-blocks
returns-else-held-blocks-clause-blocks c =
    let at = (goal.at.returns-else-held-blocks-clause-blocks c).After-shift_past in
    let h : IsNowhere c.in-Out.last c.in-Out.clean c.args.block c.args.block
    c.if-written.clean_if_new (xs at) (ms at) = nowhere c.in-Out.ensures.shifted in
    row_full c.args.block (xs at) _ (blocks_size at) h.index_is c.shift_past.ensures.blocks
    ∙ ap (λ d. take d (c.args.block ∷ remove (xs at) (index_of c.args.block (xs at))))
    {x = c.args.len.now} {y = length c.args.blocks.now}
    (omega (arith, c.if-held-blocks.false, c.requires.fits))

pub returns-else-held-blocks-clause-cleans : goal.returns-else-held-blocks-clause-cleans
returns-else-held-blocks-clause-cleans c =
    let at = (goal.at.returns-else-held-blocks-clause-cleans c).After-shift_past in
    let h : IsNowhere c.in-Out.last c.in-Out.clean c.args.block c.args.block
    c.if-written.clean_if_new (xs at) (ms at) = nowhere c.in-Out.ensures.shifted in
    row_full c.if-written.clean_if_new (ms at) _ (cleans_size at)
    (cleans_size at ∙ sym (blocks_size at) ∙ h.index_is) c.shift_past.ensures.cleans
    ∙ ap (λ d. take d (c.if-written.clean_if_new ∷ remove (ms at) (index_of c.args.block (xs at))))
    {x = c.args.len.now} {y = length c.args.blocks.now}
    (omega (arith, c.if-held-blocks.false, c.requires.fits))
    ∙ ap (λ m. take (length c.args.blocks.now) (m ∷ remove (ms at) (index_of c.args.block (xs at))))
    (clean_new (length c.args.blocks.now) c.args.block c.args.access (xs at) (ms at) h.outside
    (first_is at))

pub returns-else-held-blocks-clause-found : goal.returns-else-held-blocks-clause-found
returns-else-held-blocks-clause-found c =
    let at = (goal.at.returns-else-held-blocks-clause-found c).After-shift_past in
    let h : IsNowhere c.in-Out.last c.in-Out.clean c.args.block c.args.block
    c.if-written.clean_if_new (xs at) (ms at) = nowhere c.in-Out.ensures.shifted in
    touch_full c.requires.some
    (omega (arith, blocks_size at, c.if-held-blocks.false, c.requires.fits)) h
