-- The blocks in all lists, by their lengths.
use Rattle.std.proofs.Common.{◌≡◌, ap, ◌*◌, ◌+◌, ◌∙◌, length, sum, sym, arith}
use Rattle.std.specs.List.{sum_by}
use Rattle.std.proofs.lemmas.List.{take_all}
use Rattle.profile_core.proofs.set_lists.ListLemmas.{held_in, sum_short, sum_next, length-lists_in}
use Rattle.profile_core.proofs.set_lists.recency.RecencyListsSetLists.held.Goals as goal
use Rattle.profile_core.proofs.set_lists.recency.RecencyListsSetLists.held.Goals.{After-loop-len}
use Rattle.profile_core.proofs.set_lists.recency.RecencyListsSetLists.held.Given.{Over}

pub overflow_add-total : goal.overflow_add-total
overflow_add-total g c =
    let items = c.deref-len-items.result.now in
    omega (
      arith,
      sum_next items c.loop-len.len-index c.loop-len-test.true,
      c.loop-len.invariant,
      sum_short ((g.R.RowStore.view c.self.inside.rows).stride + 1) c.self.inside.lens.items
          c.self.invariant.short,
      c.self.invariant.small,
      ap sum c.deref-len-items.ensures.value,
    )

-- the sum of all lengths
counted : (g : Over) (c : After-loop-len g) → c.loop-len.total ≡ sum c.self.inside.lens.items
counted g c =
    let items = c.deref-len-items.result.now in
    let whole = take_all c.loop-len.len-index items (omega (arith, c.loop-len-test.false)) in
    omega (arith, c.loop-len.invariant, ap sum whole, ap sum c.deref-len-items.ensures.value)

pub returns-clause-value : goal.returns-clause-value
returns-clause-value g c =
    let s = c.self.inside in
    let rows = g.R.RowStore.view s.rows in
    let l = c.self.invariant in
    omega (
      arith,
      held_in rows.stride s.fronts.items rows.rows s.lens.items l.fronts_len l.rows_len l.long
          l.short,
      ap (λ v. sum_by length v.lists) c.self.view_is,
      counted g (goal.at.returns-clause-value g c).After-loop-len,
    )

pub returns-clause-at_most : goal.returns-clause-at_most
returns-clause-at_most g c =
    let s = c.self.inside in
    let rows = g.R.RowStore.view s.rows in
    let l = c.self.invariant in
    let count =
    ap (λ m. m * (rows.stride + 1))
    (sym (length-lists_in s.fronts.items rows.rows s.lens.items l.fronts_len l.rows_len))
    ∙ ap (λ v. length v.lists * v.depth) c.self.view_is in
    omega (
      arith,
      sum_short (rows.stride + 1) s.lens.items l.short,
      count,
      counted g (goal.at.returns-clause-at_most g c).After-loop-len,
    )
