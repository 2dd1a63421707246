-- The last number of a row.
use Rattle.std.proofs.Common.{◌-◌, ◌∙◌, get_or, ap, arith}
use Rattle.profile_core.specs.internal.rows.Rows.{row_for}
use Rattle.profile_core.proofs.rows.PlainRowLemmas.{known, ends, numbers_small, entry_read}
use Rattle.profile_core.proofs.RowsBySet.{stride_is}
use Rattle.profile_core.proofs.rows.plain.PlainRows.last.Goals as goal

pub overflow_mul-set : goal.overflow_mul-set
overflow_mul-set c =
    let r = known c.self.invariant c.self.view_is c.requires.within in
    omega (arith, ends r, numbers_small r)

pub overflow_add-set : goal.overflow_add-set
overflow_add-set c =
    let r = known c.self.invariant c.self.view_is c.requires.within in
    omega (arith, ends r, numbers_small r)

pub index-requires : goal.index-requires
index-requires c =
    let r = known c.self.invariant c.self.view_is c.requires.within in
    omega (arith, ends r, c.requires.some, stride_is r.row, c.self.inside.numbers.ok.0)

pub returns : goal.returns
returns c =
    let r = known c.self.invariant c.self.view_is c.requires.within in
    let some = c.requires.some in
    entry_read r (omega (arith, some, stride_is r.row)) (omega (arith, some, stride_is r.row))
    c.index.ensures
    ∙ ap (λ n. get_or (row_for c.args.self.now c.args.set) (n - 1) 0) (stride_is r.row)
