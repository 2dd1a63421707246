-- The first number of a row, written.
use Rattle.std.proofs.Common.{◌∙◌, ap, arith, refl, set, sym}
use Rattle.profile_core.specs.internal.rows.Rows.{with_row}
use Rattle.profile_core.proofs.RowsBySet.{row_is}
use Rattle.profile_core.proofs.rows.SplitRowLemmas.{known, is_first, first_written}
use Rattle.profile_core.proofs.rows.split.SplitRowsRowStore.put_first.Goals as goal

pub index_mut-requires : goal.index_mut-requires
index_mut-requires g c =
    let s = known c.self.invariant c.self.view_is c.requires.within in
    omega (arith, is_first s, c.self.inside.firsts.ok.0)

pub returns : goal.returns
returns g c =
    let s = known c.self.invariant c.self.view_is c.requires.within in
    first_written s refl
    ∙ ap (with_row c.args.self.now c.args.set)
    (sym (ap (λ row. set row 0 c.args.number) (row_is s.row)))
