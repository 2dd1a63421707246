-- The clean depth of the front is the first of its row.
use Rattle.std.proofs.Common.{◌*◌, ap, arith}
use Rattle.full_profile.proofs.marked_lists.SparseRowLemmas.{known, place_within, cleans_end}
use Rattle.full_profile.proofs.marked_lists.SparseRowLemmas.{place_read, numbers_few, some}
use Rattle.full_profile.proofs.marked_lists.SparseRowLemmas.{clean_read}
use Rattle.full_profile.proofs.marked_lists.sparse.SparseRowsListStore.front_clean.Goals as goal

pub index-requires : goal.index-requires
index-requires c = omega (
  arith,
  place_within (known c.self.invariant c.self.view_is c.requires.within),
  c.self.inside.places.ok.0,
)

pub overflow_mul-index : goal.overflow_mul-index
overflow_mul-index c =
    let h = known c.self.invariant c.self.view_is c.requires.within in
    omega (
      arith,
      cleans_end h,
      numbers_few h.sound.cleans_sparse,
      ap (λ p. p * c.self.inside.depth) (place_read h c.index.ensures),
    )

pub index-requires-2 : goal.index-requires-2
index-requires-2 c =
    let h = known c.self.invariant c.self.view_is c.requires.within in
    omega (
      arith,
      cleans_end h,
      some h,
      ap (λ p. p * c.self.inside.depth) (place_read h c.index.ensures),
      c.self.inside.cleans.ok.0,
    )

pub returns : goal.returns
returns c = clean_read (known c.self.invariant c.self.view_is c.requires.within) c.requires.some
    c.index.ensures c.index-2.ensures
