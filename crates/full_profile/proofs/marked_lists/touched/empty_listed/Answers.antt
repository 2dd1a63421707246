-- Each listed set's list is emptied; the others are empty.
use Rattle.std.proofs.Common.{◌≡◌, ◌∙◌, ◌<◌, ◌+◌, ℕ, [], get_or, length, map, drop, ap, sym}
use Rattle.std.proofs.Common.{subst, arith}
use Rattle.std.proofs.lemmas.List.{drop_all}
use Rattle.cache_core.specs.Touched.{ListsFilled}
use Rattle.cache_core.proofs.TouchedSets.{next_listed, emptied}
use Rattle.full_profile.specs.internal.Marked.{blocks_in}
use Rattle.full_profile.proofs.marked_lists.Emptying.{one_less, lengths_set, filled_within}
use Rattle.full_profile.proofs.marked_lists.Emptying.{none_left, all_counted, none_filled}
use Rattle.full_profile.proofs.marked_lists.touched.empty_listed.Goals as goal
use Rattle.full_profile.proofs.marked_lists.touched.empty_listed.Goals.{After-loop-set}
use Rattle.full_profile.proofs.marked_lists.touched.empty_listed.Given.{Over}

pub loop-set-preserved : goal.loop-set-preserved
loop-set-preserved g c =
    let sets = c.args.sets.now in
    let i : ℕ = c.loop-set.set-index in
    let k : ℕ = get_or sets i 0 in
    let now = g.S.ListStore.view c.loop-set.lists in
    let lt : i < length sets = omega arith in
    let next = next_listed sets (map length now.blocks) i lt c.loop-set.invariant.filled in
    let within : k < length now.blocks = filled_within k (drop (i + 1) sets) now.blocks next in
    record {
      left = one_less c.loop-set.invariant.left k within (g.S.ListStore.view c.empty_list.new.self)
          c.empty_list.new.copies c.empty_list.ensures.lists c.empty_list.ensures.copies;
      filled = subst (ListsFilled (drop (i + 1) sets))
          (sym (ap (λ m. map length m.blocks) c.empty_list.ensures.lists
          ∙ lengths_set now.blocks k []))
          (emptied k (drop (i + 1) sets) (map length now.blocks) next);
    }

none_there : (g : Over) (c : After-loop-set g) → (k : ℕ) →
    blocks_in (g.S.ListStore.view c.loop-set.lists) k ≡ []
none_there g c =
    let none = drop_all c.loop-set.set-index c.args.sets.now (omega arith) in
    none_filled (g.S.ListStore.view c.loop-set.lists).blocks (subst (λ sets. ListsFilled sets
    (map length (g.S.ListStore.view c.loop-set.lists).blocks)) none c.loop-set.invariant.filled)

pub returns-clause-lists : goal.returns-clause-lists
returns-clause-lists g c =
    none_left c.loop-set.invariant.left
    (none_there g (goal.at.returns-clause-lists g c).After-loop-set)

pub returns-clause-copies : goal.returns-clause-copies
returns-clause-copies g c =
    all_counted c.loop-set.invariant.left
    (none_there g (goal.at.returns-clause-copies g c).After-loop-set)
