-- Empty lists: all fronts and all lengths are 0.
use Rattle.std.proofs.Common.{◌≡◌, ◌+◌, ◌∙◌, ℕ, List, [], length, sym, ap, arith}
use Rattle.std.specs.Prelude.{replicate}
use Rattle.std.proofs.lemmas.List.{with_items_is, length-replicate}
use Rattle.std.specs.Vec.{with_items}
use Rattle.profile_core.specs.internal.set_lists.Lists.{lists_in}
use Rattle.profile_core.proofs.set_lists.ListLemmas.{lists_in-none, length-lists_in}
use Rattle.profile_core.proofs.set_lists.recency.RecencyListsSetLists.clear.Goals as goal
use Rattle.profile_core.proofs.set_lists.recency.RecencyListsSetLists.clear.Goals.{After-clear}
use Rattle.profile_core.proofs.set_lists.recency.RecencyListsSetLists.clear.Given.{Over}

fronts_blank : (g : Over) (c : After-clear g) →
    (with_items c.self.inside.fronts c.blank.new.fronts).items ≡ replicate
    (length c.self.inside.lens.items) 0
fronts_blank g c =
    let sets : length c.deref_mut.result.now ≡ length c.self.inside.lens.items =
    omega (
      arith,
      c.deref_mut.ensures.len,
      c.self.inside.fronts.ok.0,
      c.self.invariant.fronts_len,
    ) in
    with_items_is c.self.inside.fronts c.blank.new.fronts
    (omega (arith, c.blank.auto.fronts, c.deref_mut.ensures.len))
    ∙ c.blank.ensures.fronts ∙ ap (λ n. replicate n 0) sets

lens_zero : (g : Over) (c : After-clear g) →
    (with_items c.self.inside.lens c.blank.new.lens).items ≡ replicate
    (length c.self.inside.lens.items) 0
lens_zero g c =
    let sets : length c.deref_mut-2.result.now ≡ length c.self.inside.lens.items =
    omega (arith, c.deref_mut-2.ensures.len, c.self.inside.lens.ok.0) in
    with_items_is c.self.inside.lens c.blank.new.lens
    (omega (arith, c.blank.auto.lens, c.deref_mut-2.ensures.len))
    ∙ c.blank.ensures.lens ∙ ap (λ n. replicate n 0) sets

pub returns : goal.returns
returns g c =
    let at = (goal.at.returns g c).After-clear in
    let s = c.self.inside in
    let l = c.self.invariant in
    let fronts = (with_items s.fronts c.blank.new.fronts).items in
    let rows = g.R.RowStore.view s.rows in
    let depth : rows.stride + 1 ≡ c.args.self.now.depth = ap (λ v. v.depth) c.self.view_is in
    let count : length s.lens.items ≡ length c.args.self.now.lists =
    sym (length-lists_in s.fronts.items rows.rows s.lens.items l.fronts_len l.rows_len)
    ∙ ap (λ v. length v.lists) c.self.view_is in
    let none =
    ap (lists_in fronts rows.rows) (lens_zero g at)
    ∙ lists_in-none (length s.lens.items) fronts rows.rows
    (ap length (fronts_blank g at) ∙ length-replicate (length s.lens.items) 0) l.rows_len
    ∙ ap (λ m. replicate {A = List ℕ} m []) count in
    cc (none, depth)
