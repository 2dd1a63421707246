-- There are as many sets as lengths.
use Rattle.std.proofs.Common.{arith}
use Rattle.full_profile.proofs.marked_lists.SparseRowLemmas.{set_count}
use Rattle.full_profile.proofs.marked_lists.sparse.SparseRowsListStore.sets.Goals as goal

pub returns : goal.returns
returns c =
    let s = c.self.inside in
    record {
      value = omega (
        arith,
        c.len.ensures,
        s.lens.ok.0,
        set_count s.depth s.places.items s.blocks.items s.cleans.items s.lens.items c.self.view_is,
      );
    }
