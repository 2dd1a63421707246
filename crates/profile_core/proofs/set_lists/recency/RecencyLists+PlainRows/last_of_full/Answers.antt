-- The last block of a list that is full: it is the last of its row.
use Rattle.std.proofs.Common.{◌≡◌, ◌+◌, ◌-◌, ◌<◌, ◌∙◌, ℕ, zero, suc, List, [], ◌∷◌, get_or}
use Rattle.std.proofs.Common.{sym, ap, arith, get_or-take}
use Rattle.profile_core.specs.internal.rows.Rows.{row_for}
use Rattle.profile_core.proofs.set_lists.ListLemmas.{known, depth_is, within, among_rows, list_is}
use Rattle.profile_core.proofs.set_lists.ListLemmas.{list_size, len_read}
use Rattle.profile_core.proofs.set_lists.recency.RecencyLists+PlainRows.last_of_full.Goals as goal

last_is : (n front : ℕ) (row : List ℕ) → 0 < n →
    get_or (front ∷ row) n 0 ≡ get_or row (n - 1) 0
last_is zero front row some = absurd (omega arith)
last_is (suc n) front row some = ap (λ j. get_or row j 0) (omega arith)

pub index-requires : goal.index-requires
index-requires c = omega (
  arith,
  within (known c.self.invariant c.self.view_is c.requires.within),
  c.self.inside.lens.ok.0,
)

pub last-requires-clause-within : goal.last-requires-clause-within
last-requires-clause-within c =
    among_rows (known c.self.invariant c.self.view_is c.requires.within)

pub returns-then-index-stride : goal.returns-then-index-stride
returns-then-index-stride c =
    let l = known c.self.invariant c.self.view_is c.requires.within in
    let n : ℕ = c.self.inside.rows.stride in
    let k : ℕ = c.args.set in
    let list : List ℕ = get_or c.args.self.now.lists k [] in
    let len : ℕ = get_or c.self.inside.lens.items k 0 in
    let front : ℕ = get_or c.self.inside.fronts.items k 0 in
    let row : List ℕ = row_for c.self.inside.rows k in
    let some : 0 < n = omega (arith, depth_is c.self.view_is, c.requires.two) in
    let full : len ≡ n + 1 = omega (
      arith,
      len_read l c.index.ensures,
      c.if-index-stride.true,
      c.stride.ensures,
      c.self.invariant.short k,
    ) in (
      omega (arith, list_size l, full, depth_is c.self.view_is),
      c.last.ensures ∙ sym (last_is n front row some)
          ∙ sym (get_or-take len (front ∷ row) n 0 (omega (arith, full))) ∙
          ap (λ xs. get_or xs n 0) (sym (list_is l))
          ∙ ap (λ j. get_or list j 0) (omega (arith, depth_is c.self.view_is)),
    )

pub returns-else-index-stride : goal.returns-else-index-stride
returns-else-index-stride c =
    let l = known c.self.invariant c.self.view_is c.requires.within in
    omega (
      arith,
      list_size l,
      len_read l c.index.ensures,
      c.if-index-stride.false,
      c.stride.ensures,
      depth_is c.self.view_is,
    )
