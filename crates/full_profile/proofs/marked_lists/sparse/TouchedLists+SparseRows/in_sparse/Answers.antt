-- Lists that are empty have few sets and blocks.
use Rattle.std.proofs.Common.{ap, arith}
use Rattle.full_profile.proofs.marked_lists.Touching.{depth_small, sets_small}
use Rattle.full_profile.proofs.marked_lists.sparse.TouchedLists+SparseRows.in_sparse.Goals as goal

pub new-requires-2-clause-few : goal.new-requires-2-clause-few
new-requires-2-clause-few c = sets_small c.args.sets c.args.depth c.requires.some c.requires.small

pub new-requires-2-clause-small : goal.new-requires-2-clause-small
new-requires-2-clause-small c = omega (
  arith,
  ap (λ m. m.depth) c.in_ok-rows.ensures,
  depth_small c.args.sets c.args.depth c.requires.filled c.requires.small,
)
