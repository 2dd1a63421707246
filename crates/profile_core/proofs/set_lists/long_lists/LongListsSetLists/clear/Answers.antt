-- Empty lists.
use Rattle.std.proofs.Common.{◌≡◌, ◌+◌, ◌∙◌, ℕ, List, [], length, map, ap, arith}
use Rattle.std.specs.Prelude.{replicate}
use Rattle.std.specs.Vec.{with_items}
use Rattle.std.proofs.lemmas.List.{with_items_is, length-map}
use Rattle.profile_core.specs.internal.set_lists.Lists.{Lists}
use Rattle.profile_core.specs.internal.set_lists.LongLists.{whole_lists, empty_deep}
use Rattle.profile_core.proofs.LongListLemmas.{split_cleared, cleared_lists}
use Rattle.profile_core.proofs.set_lists.long_lists.LongListsSetLists.clear.Goals as goal
use Rattle.profile_core.proofs.set_lists.long_lists.LongListsSetLists.clear.Goals.{After-clear_all}

far_is : (c : After-clear_all) → (with_items c.self.inside.far c.clear_all.new.far).items ≡ map
    empty_deep c.self.inside.far.items
far_is c =
    let all : c.clear_all.new.far ≡ map empty_deep c.self.inside.far.items = c.clear_all.ensures ∙
    ap (map empty_deep) c.deref_mut.ensures.value in
    with_items_is c.self.inside.far c.clear_all.new.far
    (omega (
      arith,
      ap length all,
      length-map c.self.inside.far.items empty_deep,
      c.self.inside.far.ok.0,
    ))
    ∙ all

pub invariant_of-self : goal.invariant_of-self
invariant_of-self c =
    let at = (goal.at.invariant_of-self c).After-clear_all in
    split_cleared c.self.invariant c.clear.new.self
    (with_items c.self.inside.far c.clear_all.new.far).items c.clear.ensures (far_is at)

pub returns : goal.returns
returns c =
    let at = (goal.at.returns c).After-clear_all in
    let far = (with_items c.self.inside.far c.clear_all.new.far).items in
    let made : List (List ℕ) → Lists =
    λ ls. record { depth = c.self.inside.near.depth + c.self.inside.beyond; lists = ls } in
    let cleared : Lists → Lists = λ v. record {
      depth = v.depth;
      lists =
          replicate (length v.lists) [];
    } in
    ap (λ v. record {
      depth = v.depth + c.self.inside.beyond;
      lists =
          whole_lists c.clear.new.self.lists far;
    }) c.clear.ensures
    ∙ ap made (cleared_lists c.self.inside.near c.clear.new.self c.self.inside.far.items far
    c.clear.ensures (far_is at)) ∙ ap cleared c.self.view_is
