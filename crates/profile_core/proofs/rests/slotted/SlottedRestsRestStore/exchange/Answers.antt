-- A set's slots get a block in front, among those of the other sets.
use Rattle.std.proofs.Common.{◌∙◌, ◌-◌, ◌∷◌, ℕ, List, length, take, set, ap, arith, subst, sym}
use Rattle.std.proofs.Common.{vec_capacity}
use Rattle.std.specs.List.{remove}
use Rattle.std.proofs.lemmas.List.{with_items_is}
use Rattle.profile_core.specs.profile.RecencyList.{index_of}
use Rattle.profile_core.specs.internal.set_lists.Moves.{rest_standing_of}
use Rattle.profile_core.specs.internal.rows.Rows.{row_for}
use Rattle.profile_core.specs.internal.rests.SlottedRests.{IsSlotted}
use Rattle.profile_core.proofs.RowsBySet.{known_row, within, stride_is, put_is, put_others}
use Rattle.profile_core.proofs.slots.SlotLemmas.{length-ordered_numbers, ordered_numbers_take}
use Rattle.profile_core.proofs.rests.SlottedRestLemmas.{own_of, own_listed, own_back}
use Rattle.profile_core.proofs.rests.SlottedRestLemmas.{written_placed}
use Rattle.profile_core.proofs.rests.slotted.SlottedRestsRestStore.exchange.Goals as goal

pub own_rest-rest-requires-clause-within : goal.own_rest-rest-requires-clause-within
own_rest-rest-requires-clause-within c = omega (
  arith,
  within (known_row c.self.view_is c.requires.within),
  ap length c.deref_mut.ensures.value,
)

pub returns-clause-found : goal.returns-clause-found
returns-clause-found c =
    let o = own_of _ c.self.view_is c.requires.within c.deref_mut.ensures.value
    c.own_rest-rest.auto.places c.own_rest-rest.ensures.same c.own_rest-rest.ensures.sound
    c.own_rest-rest.ensures.own c.own_rest-rest.ensures.which in
    let held = own_listed o c.index_mut.ensures.value (c.args.len.now - 2)
    (omega (arith, c.requires.fits, stride_is o.row)) in
    c.exchange_in_slots.ensures.found ∙ ap (rest_standing_of 2 c.args.block) held

pub invariant_of-self : goal.invariant_of-self
invariant_of-self c =
    let o = own_of _ c.self.view_is c.requires.within c.deref_mut.ensures.value
    c.own_rest-rest.auto.places c.own_rest-rest.ensures.same c.own_rest-rest.ensures.sound
    c.own_rest-rest.ensures.own c.own_rest-rest.ensures.which in
    let room = vec_capacity c.own_rest-rest.new.rests in
    let places = c.own_rest-rest.new.places in
    let rests = c.own_rest-rest.new.rests.items in
    let s = c.exchange_in_slots.new.slots in
    subst (λ (ps : List ℕ). IsSlotted c.self.inside.stride ps
    (set rests c.own_rest-rest.result s) room)
    (sym (with_items_is c.self.inside.places places
    (omega (arith, c.own_rest-rest.auto.places, c.deref_mut.ensures.len))))
    (subst (λ (i : ℕ). IsSlotted c.self.inside.stride places (set rests i s) room)
    (sym c.own_rest-rest.ensures.which) (record {
      some = c.self.invariant.some;
      most = c.self.invariant.most;
      placed = written_placed c.own_rest-rest.ensures.sound c.args.set o.own s
          c.exchange_in_slots.ensures.sound;
    }))

pub returns-clause-moved : goal.returns-clause-moved
returns-clause-moved c =
    let o = own_of _ c.self.view_is c.requires.within c.deref_mut.ensures.value
    c.own_rest-rest.auto.places c.own_rest-rest.ensures.same c.own_rest-rest.ensures.sound
    c.own_rest-rest.ensures.own c.own_rest-rest.ensures.which in
    let s = c.exchange_in_slots.new.slots in
    let put = own_back o {s = s} (with_items_is c.self.inside.places _
    (omega (arith, c.own_rest-rest.auto.places, c.deref_mut.ensures.len)))
    c.exchange_in_slots.ensures.sound in
    let held = own_listed o c.index_mut.ensures.value (c.args.len.now - 2)
    (omega (arith, c.requires.fits, stride_is o.row)) in
    let n = c.self.inside.stride in
    let list = take (c.args.len.now - 2) (row_for c.args.self.now c.args.set) in
    let len = c.exchange_in_slots.new.len - 2 in
    ap (take len) (put_is c.args.self.now put c.requires.within)
    ∙ sym (ordered_numbers_take s.order s.numbers len n
    (omega (arith, c.exchange_in_slots.ensures.fits)))
    ∙ c.exchange_in_slots.ensures.moved
    ∙ ap (λ (xs : List ℕ). take n (c.args.second ∷ remove xs (index_of c.args.block xs))) held
    ∙ ap (λ m. take m (c.args.second ∷ remove list (index_of c.args.block list))) (stride_is o.row)

pub returns-clause-long : goal.returns-clause-long
returns-clause-long c =
    let o = own_of _ c.self.view_is c.requires.within c.deref_mut.ensures.value
    c.own_rest-rest.auto.places c.own_rest-rest.ensures.same c.own_rest-rest.ensures.sound
    c.own_rest-rest.ensures.own c.own_rest-rest.ensures.which in
    let s = c.exchange_in_slots.new.slots in
    let put = own_back o {s = s} (with_items_is c.self.inside.places _
    (omega (arith, c.own_rest-rest.auto.places, c.deref_mut.ensures.len)))
    c.exchange_in_slots.ensures.sound in
    ap length (put_is c.args.self.now put c.requires.within)
    ∙ length-ordered_numbers s.order s.numbers c.self.inside.stride
    (omega (arith, c.exchange_in_slots.ensures.sound.order_len, c.self.invariant.most))
    ∙ stride_is o.row

pub returns-clause-others : goal.returns-clause-others
returns-clause-others c =
    let o = own_of _ c.self.view_is c.requires.within c.deref_mut.ensures.value
    c.own_rest-rest.auto.places c.own_rest-rest.ensures.same c.own_rest-rest.ensures.sound
    c.own_rest-rest.ensures.own c.own_rest-rest.ensures.which in
    let s = c.exchange_in_slots.new.slots in
    let put = own_back o {s = s} (with_items_is c.self.inside.places _
    (omega (arith, c.own_rest-rest.auto.places, c.deref_mut.ensures.len)))
    c.exchange_in_slots.ensures.sound in
    put_others c.args.self.now _ put c.requires.within
