-- There are as many sets as lists behind rows.
use Rattle.std.proofs.Common.{length, ap, arith}
use Rattle.full_profile.proofs.marked_lists.LongLists.{whole_count}
use Rattle.full_profile.proofs.marked_lists.long_lists.LongListsListStore.sets.Goals as goal

pub returns : goal.returns
returns c = record {
  value = omega (
    arith,
    c.len.ensures,
    c.self.inside.far.ok.0,
    whole_count c.self.invariant,
    ap (λ m. length m.blocks) c.self.view_is,
  );
}
