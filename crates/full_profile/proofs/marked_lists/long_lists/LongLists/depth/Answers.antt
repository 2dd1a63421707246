-- Both parts are small.
use Rattle.std.proofs.Common.{ap, arith}
use Rattle.full_profile.proofs.marked_lists.long_lists.LongLists.depth.Goals as goal

pub overflow_add-result : goal.overflow_add-result
overflow_add-result c = omega (arith, c.depth.ensures, c.self.invariant.small)

pub returns : goal.returns
returns c = omega (arith, c.depth.ensures, ap (λ m. m.depth) c.self.view_is)
