-- The first number of a row.
use Rattle.std.proofs.Common.{◌∙◌, get_or, ap, arith, sym}
use Rattle.std.proofs.lemmas.List.{get_or_read}
use Rattle.profile_core.proofs.RowsBySet.{row_is}
use Rattle.profile_core.proofs.rows.SplitRowLemmas.{known, is_first}
use Rattle.profile_core.proofs.rows.split.SplitRowsRowStore.first.Goals as goal

pub index-requires : goal.index-requires
index-requires g c =
    let s = known c.self.invariant c.self.view_is c.requires.within in
    omega (arith, is_first s, c.self.inside.firsts.ok.0)

pub returns : goal.returns
returns g c =
    let s = known c.self.invariant c.self.view_is c.requires.within in
    get_or_read c.self.inside.firsts.items c.args.set c.index.result.now (is_first s)
    c.index.ensures 0
    ∙ sym (ap (λ xs. get_or xs 0 0) (row_is s.row))
