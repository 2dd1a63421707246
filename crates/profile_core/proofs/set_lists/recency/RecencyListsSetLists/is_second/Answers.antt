-- The second block of a set's list, read from its row.
use Rattle.std.proofs.Common.{◌<◌, ◌∙◌, eqb, get_or, sym, ap, arith}
use Rattle.std.proofs.lemmas.Bool.{le-ltb}
use Rattle.profile_core.specs.internal.set_lists.Moves.{is_second}
use Rattle.profile_core.proofs.rows.Bringing.{second_of_some, second_of_few}
use Rattle.profile_core.proofs.set_lists.ListLemmas.{known, within, among_rows, row_long, list_is}
use Rattle.profile_core.proofs.set_lists.ListLemmas.{len_read}
use Rattle.profile_core.proofs.set_lists.recency.RecencyListsSetLists.is_second.Goals as goal

pub index-requires : goal.index-requires
index-requires g c = omega (
  arith,
  within (known c.self.invariant c.self.view_is c.requires),
  c.self.inside.lens.ok.0,
)

pub first-requires-clause-within : goal.first-requires-clause-within
first-requires-clause-within g c =
    among_rows (known c.self.invariant c.self.view_is c.requires)

-- a list of two blocks has a number behind its front
pub first-requires-clause-some : goal.first-requires-clause-some
first-requires-clause-some g c = omega (
  arith,
  c.if-index-gt1.true,
  len_read (known c.self.invariant c.self.view_is c.requires) c.index.ensures,
  c.self.invariant.short c.args.set,
)

pub returns-then-index-gt1 : goal.returns-then-index-gt1
returns-then-index-gt1 g c =
    let l = known c.self.invariant c.self.view_is c.requires in
    let two : 1 < get_or c.self.inside.lens.items c.args.set 0 =
    omega (arith, c.if-index-gt1.true, len_read l c.index.ensures) in
    ap (λ y. eqb y c.args.block) c.first.ensures
    ∙ second_of_some c.args.block (get_or c.self.inside.lens.items c.args.set 0)
    (get_or c.self.inside.fronts.items c.args.set 0) _ two
    (omega (arith, row_long l, two, c.self.invariant.short c.args.set))
    ∙ ap (is_second c.args.block) (sym (list_is l))

pub returns-else-index-gt1 : goal.returns-else-index-gt1
returns-else-index-gt1 g c =
    let l = known c.self.invariant c.self.view_is c.requires in
    le-ltb 1 c.index.result.now (omega (arith, c.if-index-gt1.false))
    ∙ second_of_few c.args.block (get_or c.self.inside.lens.items c.args.set 0)
    (get_or c.self.inside.fronts.items c.args.set 0) _
    (omega (arith, c.if-index-gt1.false, len_read l c.index.ensures))
    ∙ ap (is_second c.args.block) (sym (list_is l))
