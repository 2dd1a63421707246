-- The first number of a row, written.
use Rattle.std.proofs.Common.{arith}
use Rattle.profile_core.proofs.rows.PlainRowLemmas.{known, ends, numbers_small, first_put}
use Rattle.profile_core.proofs.RowsBySet.{stride_is}
use Rattle.profile_core.proofs.rows.plain.PlainRowsRowStore.put_first.Goals as goal

pub overflow_mul-set : goal.overflow_mul-set
overflow_mul-set c =
    let r = known c.self.invariant c.self.view_is c.requires.within in
    omega (arith, ends r, numbers_small r)

pub index_mut-requires : goal.index_mut-requires
index_mut-requires c =
    let r = known c.self.invariant c.self.view_is c.requires.within in
    omega (arith, ends r, c.requires.some, stride_is r.row, c.self.inside.numbers.ok.0)

pub returns : goal.returns
returns c =
    let r = known c.self.invariant c.self.view_is c.requires.within in
    (first_put r c.args.number (omega (arith, c.requires.some, stride_is r.row))).seen
