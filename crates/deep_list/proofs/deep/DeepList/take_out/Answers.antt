use Rattle.std.proofs.Common.{◌∙◌, List, ℕ, sym, ap, refl, get_or}
use Rattle.std.specs.List.{remove}
use Rattle.deep_list.specs.Slots.{live_items}
use Rattle.deep_list.specs.Deep.{index_of_block, has_block, without_block}
use Rattle.deep_list.proofs.DeepLemmas.{vacated_deep, vacated_any, vacated_kept, found_inside}
use Rattle.deep_list.proofs.DeepLemmas.{found_index, not_found, vacated_values, value_at}
use Rattle.deep_list.proofs.DeepLemmas.{without_absent, absent_values, same_deep}
use Rattle.deep_list.proofs.deep.DeepList.take_out.Goals as goal

pub invariant_of-self : goal.invariant_of-self
invariant_of-self g c =
    let at = (c.in-Some.ensures {u = tt}).1 in
    vacated_deep c.self.invariant c.in-Some.slot at.live c.self.inside.span.end c.vacate.new.self
    c.vacate.ensures
    (vacated_any c.self.invariant.ranked c.in-Some.slot)

pub returns-in-Some-clause-found : goal.returns-in-Some-clause-found
returns-in-Some-clause-found g c =
    let at = (c.in-Some.ensures {u = tt}).1 in
    let d = c.self.invariant in
    let block : ℕ = c.args.block in
    let items = c.self.inside.values.items in
    let place : ℕ = c.live_before-place.result in
    let value = c.index.result.now in (
      sym (ap (λ v. has_block block v.blocks) c.self.view_is) ∙
          found_inside d block c.in-Some.slot at,
      c.live_before-place.ensures ∙ sym (found_index d block c.in-Some.slot at) ∙
          ap (λ v. index_of_block block v.blocks) c.self.view_is,
      c.index.ensures ∙ value_at d c.in-Some.slot at.live items value refl ∙
          ap (λ i. get_or (live_items items c.self.inside.slots.live) i value)
          (sym c.live_before-place.ensures)
          ∙ ap (λ v. get_or v.values place value) c.self.view_is,
    )

pub returns-in-Some-clause-moved : goal.returns-in-Some-clause-moved
returns-in-Some-clause-moved g c =
    let at = (c.in-Some.ensures {u = tt}).1 in
    let d = c.self.invariant in
    let items = c.self.inside.values.items in
    let slots = c.self.inside.slots in
    let index = sym (found_index d c.args.block c.in-Some.slot at) in
    same_deep c.self.inside.cap
    (ap (λ w. live_items w.blocks w.live) c.vacate.ensures ∙ vacated_kept d c.in-Some.slot at.live
    ∙ ap (remove (live_items slots.blocks slots.live)) index)
    (ap (λ w. live_items items w.live) c.vacate.ensures ∙
    vacated_values d c.in-Some.slot at.live items refl ∙
    ap (remove (live_items items slots.live)) index)
    ∙ ap (λ v. without_block v c.args.block) c.self.view_is

pub returns-in-None-clause-found : goal.returns-in-None-clause-found
returns-in-None-clause-found g c =
    sym (ap (λ v. has_block c.args.block v.blocks) c.self.view_is)
    ∙ not_found c.self.invariant c.args.block (c.in-None.ensures {u = tt})

pub returns-in-None-clause-moved : goal.returns-in-None-clause-moved
returns-in-None-clause-moved g c =
    let list : List ℕ = live_items c.self.inside.slots.blocks c.self.inside.slots.live in
    let absent = not_found c.self.invariant c.args.block (c.in-None.ensures {u = tt}) in
    sym c.self.view_is ∙ same_deep c.self.inside.cap
    (sym (without_absent c.args.block list absent))
    (absent_values c.self.invariant c.self.inside.values.items c.args.block refl absent)
    ∙ ap (λ v. without_block v c.args.block) c.self.view_is
