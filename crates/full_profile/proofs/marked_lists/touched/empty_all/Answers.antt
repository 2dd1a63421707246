-- The list of each set is emptied.
use Rattle.std.proofs.Common.{◌≡◌, ◌∙◌, ◌<◌, ℕ, [], get_or, set, length, ap, arith, inl, inr}
use Rattle.std.proofs.Common.{get_or-set_same, get_or-set_other}
use Rattle.std.proofs.lemmas.Bool.{cases_eq}
use Rattle.full_profile.specs.internal.Marked.{blocks_in}
use Rattle.full_profile.proofs.marked_lists.Emptying.{one_less, none_left, all_counted}
use Rattle.full_profile.proofs.marked_lists.Emptying.{none_behind}
use Rattle.full_profile.proofs.marked_lists.touched.empty_all.Goals as goal
use Rattle.full_profile.proofs.marked_lists.touched.empty_all.Goals.{After-loop-set}
use Rattle.full_profile.proofs.marked_lists.touched.empty_all.Given.{Over}

pub loop-set-preserved : goal.loop-set-preserved
loop-set-preserved g c =
    let n : ℕ = c.loop-set.set in
    let now = g.S.ListStore.view c.loop-set.lists in
    let within : n < length now.blocks = omega (
      arith,
      c.loop-set-test.true,
      c.loop-set.invariant.left.set_count,
      c.sets-set-end.ensures.value,
    ) in
    record {
      left = one_less c.loop-set.invariant.left n within (g.S.ListStore.view c.empty_list.new.self)
          c.empty_list.new.copies c.empty_list.ensures.lists c.empty_list.ensures.copies;
      passed = λ k lt.
          ap (λ m. blocks_in m k) c.empty_list.ensures.lists ∙ elim (cases_eq k n) [
            | inl same ↦ ap (λ j. get_or (set now.blocks n []) j []) same ∙
                get_or-set_same now.blocks n [] [] within
            | inr other ↦ get_or-set_other now.blocks n k [] [] other ∙
                c.loop-set.invariant.passed k (omega (arith, lt, other))
          ];
    }

none_there : (g : Over) (c : After-loop-set g) → (k : ℕ) →
    blocks_in (g.S.ListStore.view c.loop-set.lists) k ≡ []
none_there g c = none_behind (g.S.ListStore.view c.loop-set.lists).blocks c.loop-set.set
    (omega (
      arith,
      c.loop-set-test.false,
      c.loop-set.invariant.left.set_count,
      c.sets-set-end.ensures.value,
    ))
    c.loop-set.invariant.passed

pub returns-clause-lists : goal.returns-clause-lists
returns-clause-lists g c =
    none_left c.loop-set.invariant.left
    (none_there g (goal.at.returns-clause-lists g c).After-loop-set)

pub returns-clause-copies : goal.returns-clause-copies
returns-clause-copies g c =
    all_counted c.loop-set.invariant.left
    (none_there g (goal.at.returns-clause-copies g c).After-loop-set)
