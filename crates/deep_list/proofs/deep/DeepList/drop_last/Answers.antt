use Rattle.std.proofs.Common.{◌-◌, ◌∙◌, length, sym, ap, refl, get_or}
use Rattle.deep_list.specs.Slots.{live_items}
use Rattle.deep_list.specs.Deep.{cut_to}
use Rattle.deep_list.proofs.DeepLemmas.{vacated_deep, vacated_last, last_kept, some_live}
use Rattle.deep_list.proofs.DeepLemmas.{last_values, last_place, value_at, same_deep}
use Rattle.deep_list.proofs.deep.DeepList.drop_last.Goals as goal

pub unreachable-requires : goal.unreachable-requires
unreachable-requires g c =
    c.requires (sym (ap (λ v. v.blocks) c.self.view_is) ∙ some_live c.self.invariant
    (c.in_default.ensures {u = tt}))

pub invariant_of-self : goal.invariant_of-self
invariant_of-self g c =
    let found = c.in-Some.ensures {u = tt} in
    vacated_deep c.self.invariant c.in-Some.slot found.1 c.in-Some.slot c.vacate.new.self
    c.vacate.ensures
    (vacated_last c.self.invariant.ranked c.in-Some.slot found.1 found.0 found.2)

pub returns-clause-last : goal.returns-clause-last
returns-clause-last g c =
    let found = c.in-Some.ensures {u = tt} in
    let d = c.self.invariant in
    let items = c.self.inside.values.items in
    let value = c.index.result.now in
    c.index.ensures ∙ value_at d c.in-Some.slot found.1 items value refl
    ∙ ap (λ i. get_or (live_items items c.self.inside.slots.live) i value)
    (last_place d c.in-Some.slot found.1 found.2)
    ∙ ap (λ v. get_or v.values (length v.blocks - 1) value) c.self.view_is

pub returns-clause-dropped : goal.returns-clause-dropped
returns-clause-dropped g c =
    let found = c.in-Some.ensures {u = tt} in
    let d = c.self.invariant in
    let items = c.self.inside.values.items in
    same_deep c.self.inside.cap
    (ap (λ w. live_items w.blocks w.live) c.vacate.ensures ∙
    last_kept d c.in-Some.slot found.1 found.2)
    (ap (λ w. live_items items w.live) c.vacate.ensures ∙
    last_values d c.in-Some.slot found.1 found.2 items refl)
    ∙ ap (λ v. cut_to (length v.blocks - 1) v) c.self.view_is
