-- A set takes a row of its own, if it has none yet.
use Rattle.std.proofs.Common.{◌≡◌, ◌<◌, ◌/◌, ◌∙◌, ℕ, List, ap, arith, sym, subst, get_or, set, refl}
use Rattle.std.proofs.Common.{inl, inr, get_or-set_other}
use Rattle.std.proofs.lemmas.Bool.{cases_eq}
use Rattle.profile_core.proofs.SparseRestLemmas.{ready_taken, room_left}
use Rattle.full_profile.proofs.marked_lists.sparse.own_row.Goals as goal
use Rattle.full_profile.proofs.marked_lists.sparse.own_row.Goals.{then-places-set-eq0}
use Rattle.full_profile.proofs.marked_lists.sparse.own_row.Goals.{else-places-set-eq0}

pub take_row-requires-clause-room : goal.take_row-requires-clause-room
take_row-requires-clause-room c = omega (
  arith,
  room_left c.requires.blocks c.requires.within c.if-places-set-eq0.true,
  c.args.blocks.now.ok.0,
)

pub take_clean_row-requires-clause-room : goal.take_clean_row-requires-clause-room
take_clean_row-requires-clause-room c = omega (
  arith,
  room_left c.requires.cleans c.requires.within c.if-places-set-eq0.true,
  c.args.cleans.now.ok.0,
)

pub returns-clause-blocks : goal.returns-clause-blocks
returns-clause-blocks c = elim c.if-places-set-eq0.branch [
  | then-places-set-eq0 w ↦ rw w.blocks-is (ready_taken c.requires.blocks c.requires.within
      w.if-places-set-eq0.true w.take_row.ensures.room (w.take_row.ensures.which ∙
      ap (λ m. m / c.args.depth) c.args.blocks.now.ok.0) w.places-is
      w.take_row.ensures.more).sound
  | else-places-set-eq0 w ↦ rw (w.blocks-is, w.places-is) c.requires.blocks
]

pub returns-clause-cleans : goal.returns-clause-cleans
returns-clause-cleans c = elim c.if-places-set-eq0.branch [
  | then-places-set-eq0 w ↦ rw w.cleans-is (ready_taken c.requires.cleans c.requires.within
      w.if-places-set-eq0.true w.take_clean_row.ensures.room (w.take_row.ensures.which ∙
      ap (λ m. m / c.args.depth) (c.args.blocks.now.ok.0 ∙ c.requires.blocks.numbers_len ∙
      sym c.requires.cleans.numbers_len)) w.places-is w.take_clean_row.ensures.more).sound
  | else-places-set-eq0 w ↦ rw (w.cleans-is, w.places-is) c.requires.cleans
]

pub returns-clause-same_blocks : goal.returns-clause-same_blocks
returns-clause-same_blocks c = elim c.if-places-set-eq0.branch [
  | then-places-set-eq0 w ↦ rw w.blocks-is (ready_taken c.requires.blocks c.requires.within
      w.if-places-set-eq0.true w.take_row.ensures.room (w.take_row.ensures.which ∙
      ap (λ m. m / c.args.depth) c.args.blocks.now.ok.0) w.places-is
      w.take_row.ensures.more).same
  | else-places-set-eq0 w ↦ rw (w.blocks-is, w.places-is) (λ j. refl)
]

pub returns-clause-same_cleans : goal.returns-clause-same_cleans
returns-clause-same_cleans c = elim c.if-places-set-eq0.branch [
  | then-places-set-eq0 w ↦ rw w.cleans-is (ready_taken c.requires.cleans c.requires.within
      w.if-places-set-eq0.true w.take_clean_row.ensures.room (w.take_row.ensures.which ∙
      ap (λ m. m / c.args.depth) (c.args.blocks.now.ok.0 ∙ c.requires.blocks.numbers_len ∙
      sym c.requires.cleans.numbers_len)) w.places-is w.take_clean_row.ensures.more).same
  | else-places-set-eq0 w ↦ rw (w.cleans-is, w.places-is) (λ j. refl)
]

-- a set that had a row keeps it
still : (places : List ℕ) (k number j : ℕ) → get_or places k 0 ≡ 0 → 0 < get_or places j 0 →
    0 < get_or (set places k number) j 0
still places k number j none own = elim (cases_eq j k) [
  | inl same ↦ absurd (omega (arith, own, none, ap (λ i. get_or places i 0) same))
  | inr other ↦ omega (arith, own, get_or-set_other places k j number 0 other)
]

pub returns-clause-kept : goal.returns-clause-kept
returns-clause-kept c = elim c.if-places-set-eq0.branch [
  | then-places-set-eq0 w ↦ λ j own. subst (λ (ps : List ℕ). 0 < get_or ps j 0) (sym w.places-is)
      (still c.args.places.now c.args.set _ j w.if-places-set-eq0.true own)
  | else-places-set-eq0 w ↦ λ j own. subst (λ (ps : List ℕ). 0 < get_or ps j 0) (sym w.places-is)
      own
]
