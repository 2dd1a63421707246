-- The clean depth of the front is the first of its row, which is the set's own.
use Rattle.std.proofs.Common.{◌*◌, ◌∙◌, ap, arith, set, subst, sym, vec_capacity}
use Rattle.full_profile.specs.internal.SparseRows.{AreSparse, all_sparse}
use Rattle.full_profile.proofs.marked_lists.SparseRowLemmas.{known, place_within, cleans_end}
use Rattle.full_profile.proofs.marked_lists.SparseRowLemmas.{place_read, numbers_few, some}
use Rattle.full_profile.proofs.marked_lists.SparseRowLemmas.{has_own, front_sound, front_written}
use Rattle.full_profile.proofs.marked_lists.sparse.SparseRowsListStore.write_front.Goals as goal

pub index-requires : goal.index-requires
index-requires c = omega (
  arith,
  place_within (known c.self.invariant c.self.view_is c.requires.within),
  c.self.inside.places.ok.0,
)

pub overflow_mul-index : goal.overflow_mul-index
overflow_mul-index c =
    let h = known c.self.invariant c.self.view_is c.requires.within in
    omega (
      arith,
      cleans_end h,
      numbers_few h.sound.cleans_sparse,
      ap (λ p. p * c.self.inside.depth) (place_read h c.index.ensures),
    )

pub index_mut-requires : goal.index_mut-requires
index_mut-requires c =
    let h = known c.self.invariant c.self.view_is c.requires.within in
    omega (
      arith,
      cleans_end h,
      some h,
      ap (λ p. p * c.self.inside.depth) (place_read h c.index.ensures),
      c.self.inside.cleans.ok.0,
    )

pub invariant_of-self : goal.invariant_of-self
invariant_of-self c =
    let h = known c.self.invariant c.self.view_is c.requires.within in
    subst (λ p. AreSparse c.self.inside.depth c.self.inside.places.items c.self.inside.blocks.items
    (set c.self.inside.cleans.items (p * c.self.inside.depth) 0) c.self.inside.lens.items
    (vec_capacity c.self.inside.blocks) (vec_capacity c.self.inside.cleans))
    (sym (place_read h c.index.ensures)) (front_sound h (has_own h c.requires.some) 0)

pub returns : goal.returns
returns c =
    let h = known c.self.invariant c.self.view_is c.requires.within in
    ap (λ p. record {
      depth = c.self.inside.depth;
      blocks = all_sparse c.self.inside.depth c.self.inside.places.items
          c.self.inside.blocks.items c.self.inside.lens.items;
      cleans = all_sparse c.self.inside.depth c.self.inside.places.items
          (set c.self.inside.cleans.items (p * c.self.inside.depth) 0) c.self.inside.lens.items;
    }) (place_read h c.index.ensures)
    ∙ front_written h (has_own h c.requires.some) 0 c.requires.some
