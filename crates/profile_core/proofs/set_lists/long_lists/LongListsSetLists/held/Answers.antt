-- The blocks in the rows and those behind them.
use Rattle.std.proofs.Common.{◌+◌, ◌*◌, ◌≤◌, length, ap, arith}
use Rattle.std.specs.List.{sum_by}
use Rattle.deep_list.specs.Deep.{Deep}
use Rattle.profile_core.proofs.LongListLemmas.{length-joined, sum-joined, far_few}
use Rattle.profile_core.proofs.LongListLemmas.{far_held}
use Rattle.profile_core.proofs.set_lists.long_lists.LongListsSetLists.held.Goals as goal
use Rattle.profile_core.proofs.set_lists.long_lists.LongListsSetLists.held.Goals.{After-deref}

behind : (c : After-deref) → sum_by (λ (d : Deep Unit). length d.blocks) c.deref.result.now ≤ length
    c.self.inside.near.lists * c.self.inside.beyond
behind c = omega (
  arith,
  ap (sum_by (λ (d : Deep Unit). length d.blocks)) c.deref.ensures.value,
  far_held c.self.invariant,
)

pub held_by-requires : goal.held_by-requires
held_by-requires c = omega (
  arith,
  behind (goal.at.held_by-requires c).After-deref,
  c.self.invariant.small,
)

pub overflow_add-result : goal.overflow_add-result
overflow_add-result c =
    omega (
      arith,
      behind (goal.at.overflow_add-result c).After-deref,
      c.held_by.ensures,
      c.held.ensures.at_most,
      c.self.invariant.small,
    )

pub returns-clause-value : goal.returns-clause-value
returns-clause-value c =
    omega (
      arith,
      c.held.ensures.value,
      c.held_by.ensures,
      ap (sum_by (λ (d : Deep Unit). length d.blocks)) c.deref.ensures.value,
      sum-joined c.self.inside.near.lists c.self.inside.far.items (far_few c.self.invariant),
      ap (λ v. sum_by length v.lists) c.self.view_is,
    )

pub returns-clause-at_most : goal.returns-clause-at_most
returns-clause-at_most c =
    let near = c.self.inside.near in
    let sum : c.held.result + c.held_by.result ≤ length
    near.lists * (near.depth + c.self.inside.beyond) =
    omega (
      arith,
      behind (goal.at.returns-clause-at_most c).After-deref,
      c.held_by.ensures,
      c.held.ensures.at_most,
    ) in
    omega (
      arith,
      sum,
      ap (λ n. n * (near.depth + c.self.inside.beyond))
          (length-joined near.lists c.self.inside.far.items),
      ap (λ v. length v.lists * v.depth) c.self.view_is,
    )
