-- A set's row whose list gets a block in front, among the other rows.
use Rattle.std.proofs.Common.{◌∙◌, ◌∷◌, length, take, ap, arith, subst, sym}
use Rattle.profile_core.specs.profile.RecencyList.{is_front}
use Rattle.profile_core.specs.internal.set_lists.Moves.{is_second, standing_of}
use Rattle.profile_core.specs.internal.set_lists.Lists.{IsRow, IsBroughtInRow}
use Rattle.profile_core.specs.internal.rows.Rows.{list_in_row}
use Rattle.profile_core.proofs.rows.PlainRowLemmas.{known, ends, numbers_small, lent, row_size}
use Rattle.profile_core.proofs.rows.PlainRowLemmas.{put_back}
use Rattle.profile_core.proofs.RowsBySet.{stride_is, put_is, put_others}
use Rattle.profile_core.proofs.rows.plain.PlainRowsRowStore.bring.Goals as goal

pub overflow_mul-start : goal.overflow_mul-start
overflow_mul-start c =
    let r = known c.self.invariant c.self.view_is c.requires.within in
    omega (arith, ends r, numbers_small r)

pub overflow_add-end : goal.overflow_add-end
overflow_add-end c =
    let r = known c.self.invariant c.self.view_is c.requires.within in
    omega (arith, ends r, numbers_small r)

pub offset_bounds-deref_mut-start : goal.offset_bounds-deref_mut-start
offset_bounds-deref_mut-start c =
    let r = known c.self.invariant c.self.view_is c.requires.within in
    omega (arith, ends r, numbers_small r)

pub slice_bounds-bring_in_row-end : goal.slice_bounds-bring_in_row-end
slice_bounds-bring_in_row-end c =
    let r = known c.self.invariant c.self.view_is c.requires.within in
    omega (arith, ends r, ap length c.deref_mut.ensures.value)

pub bring_in_row-requires-clause-row : goal.bring_in_row-requires-clause-row
bring_in_row-requires-clause-row c =
    let r = known c.self.invariant c.self.view_is c.requires.within in
    subst (λ rest. IsRow rest c.args.len.now) (sym (lent r c.deref_mut.ensures.value))
    c.requires.row

pub bring_in_row-requires-clause-behind : goal.bring_in_row-requires-clause-behind
bring_in_row-requires-clause-behind c =
    let r = known c.self.invariant c.self.view_is c.requires.within in
    ap (λ rest. is_front c.args.block (take c.args.len.now (c.args.front.now ∷ rest)))
    (lent r c.deref_mut.ensures.value) ∙ c.requires.behind

pub bring_in_row-requires-clause-further : goal.bring_in_row-requires-clause-further
bring_in_row-requires-clause-further c =
    let r = known c.self.invariant c.self.view_is c.requires.within in
    ap (λ rest. is_second c.args.block (take c.args.len.now (c.args.front.now ∷ rest)))
    (lent r c.deref_mut.ensures.value) ∙ c.requires.further

pub returns-clause-found : goal.returns-clause-found
returns-clause-found c =
    let r = known c.self.invariant c.self.view_is c.requires.within in
    c.bring_in_row.ensures.found ∙
    ap (λ rest. standing_of c.args.block (take c.args.len.now (c.args.front.now ∷ rest)))
    (lent r c.deref_mut.ensures.value)

pub returns-clause-moved : goal.returns-clause-moved
returns-clause-moved c =
    let r = known c.self.invariant c.self.view_is c.requires.within in
    let put = put_back c.self.inside.numbers r c.deref_mut.ensures.value c.deref_mut.ensures.len
    c.bring_in_row.auto.rest in
    subst (λ rest. IsBroughtInRow c.args.block (list_in_row c.args.self.now c.args.set
    c.args.front.now c.args.len.now) c.bring_in_row.new.front rest c.bring_in_row.new.len)
    (sym (put_is c.args.self.now put.seen c.requires.within))
    (subst (λ rest. IsBroughtInRow c.args.block (take c.args.len.now (c.args.front.now ∷ rest))
    c.bring_in_row.new.front c.bring_in_row.new.rest c.bring_in_row.new.len)
    (lent r c.deref_mut.ensures.value) c.bring_in_row.ensures.moved)

pub returns-clause-long : goal.returns-clause-long
returns-clause-long c =
    let r = known c.self.invariant c.self.view_is c.requires.within in
    let put = put_back c.self.inside.numbers r c.deref_mut.ensures.value c.deref_mut.ensures.len
    c.bring_in_row.auto.rest in
    ap length (put_is c.args.self.now put.seen c.requires.within) ∙ c.bring_in_row.auto.rest
    ∙ ap length (lent r c.deref_mut.ensures.value) ∙ row_size r ∙ stride_is r.row

pub returns-clause-others : goal.returns-clause-others
returns-clause-others c =
    let r = known c.self.invariant c.self.view_is c.requires.within in
    let put = put_back c.self.inside.numbers r c.deref_mut.ensures.value c.deref_mut.ensures.len
    c.bring_in_row.auto.rest in
    put_others c.args.self.now _ put.seen c.requires.within
