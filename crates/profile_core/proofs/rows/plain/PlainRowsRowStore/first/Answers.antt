-- The first number of a row.
use Rattle.std.proofs.Common.{arith}
use Rattle.profile_core.proofs.rows.PlainRowLemmas.{known, ends, numbers_small, entry_read}
use Rattle.profile_core.proofs.RowsBySet.{stride_is}
use Rattle.profile_core.proofs.rows.plain.PlainRowsRowStore.first.Goals as goal

pub overflow_mul-set : goal.overflow_mul-set
overflow_mul-set c =
    let r = known c.self.invariant c.self.view_is c.requires.within in
    omega (arith, ends r, numbers_small r)

pub index-requires : goal.index-requires
index-requires c =
    let r = known c.self.invariant c.self.view_is c.requires.within in
    omega (arith, ends r, c.requires.some, stride_is r.row, c.self.inside.numbers.ok.0)

pub returns : goal.returns
returns c =
    let r = known c.self.invariant c.self.view_is c.requires.within in
    entry_read r (omega (arith, c.requires.some, stride_is r.row)) (omega arith) c.index.ensures
