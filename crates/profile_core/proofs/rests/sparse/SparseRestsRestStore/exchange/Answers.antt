-- A set's rest gets a block in front, among those of the other sets.
use Rattle.std.proofs.Common.{◌∙◌, ◌-◌, ◌∷◌, ℕ, List, length, take, ap, arith}
use Rattle.std.specs.List.{remove}
use Rattle.std.proofs.lemmas.List.{with_items_is}
use Rattle.profile_core.specs.profile.RecencyList.{index_of}
use Rattle.profile_core.specs.internal.set_lists.Moves.{rest_standing_of}
use Rattle.profile_core.specs.internal.rows.Rows.{row_for}
use Rattle.profile_core.proofs.RowsBySet.{known_row, within, stride_is, put_is, put_others}
use Rattle.profile_core.proofs.SparseRestLemmas.{own_of, own_ends, own_lent, own_long}
use Rattle.profile_core.proofs.SparseRestLemmas.{own_back}
use Rattle.profile_core.proofs.rests.sparse.SparseRestsRestStore.exchange.Goals as goal

pub own_rest-requires-clause-within : goal.own_rest-requires-clause-within
own_rest-requires-clause-within c = omega (
  arith,
  within (known_row c.self.view_is c.requires.within),
  ap length c.deref_mut.ensures.value,
)

pub slice_bounds-exchange_in_row-end : goal.slice_bounds-exchange_in_row-end
slice_bounds-exchange_in_row-end c =
    let o = own_of _ c.self.view_is c.requires.within c.deref_mut.ensures.value
    c.own_rest.auto.places
    c.own_rest.ensures.same c.own_rest.ensures.sound c.own_rest.ensures.own c.own_rest.ensures.which
    in
    omega (arith, own_ends o, ap length c.deref_mut-2.ensures.value)

pub returns-clause-found : goal.returns-clause-found
returns-clause-found c =
    let o = own_of _ c.self.view_is c.requires.within c.deref_mut.ensures.value
    c.own_rest.auto.places
    c.own_rest.ensures.same c.own_rest.ensures.sound c.own_rest.ensures.own c.own_rest.ensures.which
    in
    c.exchange_in_row.ensures.found ∙
    ap (λ rest. rest_standing_of 2 c.args.block (take (c.args.len.now - 2) rest))
    (own_lent o c.deref_mut-2.ensures.value)

pub returns-clause-moved : goal.returns-clause-moved
returns-clause-moved c =
    let o = own_of _ c.self.view_is c.requires.within c.deref_mut.ensures.value
    c.own_rest.auto.places
    c.own_rest.ensures.same c.own_rest.ensures.sound c.own_rest.ensures.own c.own_rest.ensures.which
    in
    let put = own_back c.own_rest.new.numbers o (with_items_is c.self.inside.places _
    (omega (arith, c.own_rest.auto.places, c.deref_mut.ensures.len))) _
    c.deref_mut-2.ensures.value c.deref_mut-2.ensures.len c.exchange_in_row.auto.rest in
    let list = take (c.args.len.now - 2) (row_for c.args.self.now c.args.set) in
    ap (take (c.exchange_in_row.new.len - 2)) (put_is c.args.self.now put c.requires.within)
    ∙ c.exchange_in_row.ensures.moved
    ∙ ap (λ (xs : List ℕ). take (length xs) (c.args.second ∷ remove (take (c.args.len.now - 2) xs)
    (index_of c.args.block (take (c.args.len.now - 2) xs))))
    (own_lent o c.deref_mut-2.ensures.value)
    ∙ ap (λ m. take m (c.args.second ∷ remove list (index_of c.args.block list)))
    (own_long o ∙ stride_is o.row)

pub returns-clause-long : goal.returns-clause-long
returns-clause-long c =
    let o = own_of _ c.self.view_is c.requires.within c.deref_mut.ensures.value
    c.own_rest.auto.places
    c.own_rest.ensures.same c.own_rest.ensures.sound c.own_rest.ensures.own c.own_rest.ensures.which
    in
    let put = own_back c.own_rest.new.numbers o (with_items_is c.self.inside.places _
    (omega (arith, c.own_rest.auto.places, c.deref_mut.ensures.len))) _
    c.deref_mut-2.ensures.value c.deref_mut-2.ensures.len c.exchange_in_row.auto.rest in
    ap length (put_is c.args.self.now put c.requires.within) ∙ c.exchange_in_row.auto.rest
    ∙ ap length (own_lent o c.deref_mut-2.ensures.value) ∙ own_long o ∙ stride_is o.row

pub returns-clause-others : goal.returns-clause-others
returns-clause-others c =
    let o = own_of _ c.self.view_is c.requires.within c.deref_mut.ensures.value
    c.own_rest.auto.places
    c.own_rest.ensures.same c.own_rest.ensures.sound c.own_rest.ensures.own c.own_rest.ensures.which
    in
    let put = own_back c.own_rest.new.numbers o (with_items_is c.self.inside.places _
    (omega (arith, c.own_rest.auto.places, c.deref_mut.ensures.len))) _
    c.deref_mut-2.ensures.value c.deref_mut-2.ensures.len c.exchange_in_row.auto.rest in
    put_others c.args.self.now _ put c.requires.within
