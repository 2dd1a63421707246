-- A block that is behind the second of a set's list, or new, comes to its front.
use Rattle.std.proofs.Common.{◌<◌, ◌∙◌, sym, ap, arith}
use Rattle.std.proofs.lemmas.List.{nil_from_length}
use Rattle.profile_core.specs.profile.RecencyList.{is_front}
use Rattle.profile_core.specs.internal.set_lists.Moves.{is_second, standing_of}
use Rattle.profile_core.proofs.set_lists.ListLemmas.{known, depth_is, within, among_fronts}
use Rattle.profile_core.proofs.set_lists.ListLemmas.{among_rows, row_long, row_small, list_size}
use Rattle.profile_core.proofs.set_lists.ListLemmas.{len_read}
use Rattle.profile_core.proofs.set_lists.Writing.{held_short, list_read, read_at, row_brought}
use Rattle.profile_core.proofs.set_lists.recency.RecencyListsSetLists.bring.Goals as goal

pub index-requires : goal.index-requires
index-requires g c = omega (
  arith,
  within (known c.self.invariant c.self.view_is c.requires.within),
  c.self.inside.lens.ok.0,
)

pub begin-requires-clause-empty : goal.begin-requires-clause-empty
begin-requires-clause-empty g c =
    let l = known c.self.invariant c.self.view_is c.requires.within in
    nil_from_length _ (list_size l ∙ sym (len_read l c.index.ensures) ∙ c.if-index-eq0.true)

pub returns-then-index-eq0-clause-found : goal.returns-then-index-eq0-clause-found
returns-then-index-eq0-clause-found g c =
    let l = known c.self.invariant c.self.view_is c.requires.within in
    sym (ap (standing_of c.args.block) (nil_from_length _ (list_size l ∙
    sym (len_read l c.index.ensures) ∙ c.if-index-eq0.true)))

pub index_mut-front-requires : goal.index_mut-front-requires
index_mut-front-requires g c = omega (
  arith,
  among_fronts (known c.self.invariant c.self.view_is c.requires.within),
  c.self.inside.fronts.ok.0,
)

pub index_mut-requires : goal.index_mut-requires
index_mut-requires g c = omega (
  arith,
  within (known c.self.invariant c.self.view_is c.requires.within),
  c.self.inside.lens.ok.0,
)

pub bring-requires-clause-within : goal.bring-requires-clause-within
bring-requires-clause-within g c =
    among_rows (known c.self.invariant c.self.view_is c.requires.within)

-- the list has a block, since its length is not 0
pub bring-requires-clause-some : goal.bring-requires-clause-some
bring-requires-clause-some g c =
    let l = known c.self.invariant c.self.view_is c.requires.within in
    omega (
      arith,
      len_read l c.index_mut.ensures.value,
      len_read l c.index.ensures,
      c.if-index-eq0.false,
    )

pub bring-requires-clause-row : goal.bring-requires-clause-row
bring-requires-clause-row g c =
    let t = read_at (known c.self.invariant c.self.view_is c.requires.within)
    c.index_mut.ensures.value c.index_mut-front.ensures.value in
    record {
      small = omega (arith, row_long t.known, row_small t.known);
      fits = omega (arith, row_long t.known, held_short t);
    }

pub bring-requires-clause-behind : goal.bring-requires-clause-behind
bring-requires-clause-behind g c =
    let t = read_at (known c.self.invariant c.self.view_is c.requires.within)
    c.index_mut.ensures.value c.index_mut-front.ensures.value in
    ap (is_front c.args.block) (sym (list_read t)) ∙ c.requires.behind

pub bring-requires-clause-further : goal.bring-requires-clause-further
bring-requires-clause-further g c =
    let t = read_at (known c.self.invariant c.self.view_is c.requires.within)
    c.index_mut.ensures.value c.index_mut-front.ensures.value in
    ap (is_second c.args.block) (sym (list_read t)) ∙ c.requires.further

pub invariant_of-self : goal.invariant_of-self
invariant_of-self g c =
    let l = known c.self.invariant c.self.view_is c.requires.within in
    let t = read_at l c.index_mut.ensures.value c.index_mut-front.ensures.value in
    let some : 0 < c.index_mut.result.now =
    omega (arith, t.held_is, len_read l c.index.ensures, c.if-index-eq0.false) in
    (row_brought t c.bring.ensures.moved c.bring.ensures.long c.bring.ensures.others some).listed

pub returns-clause-found : goal.returns-clause-found
returns-clause-found g c =
    let t = read_at (known c.self.invariant c.self.view_is c.requires.within)
    c.index_mut.ensures.value c.index_mut-front.ensures.value in
    rw (list_read t) c.bring.ensures.found

pub returns-clause-moved : goal.returns-clause-moved
returns-clause-moved g c =
    let l = known c.self.invariant c.self.view_is c.requires.within in
    let t = read_at l c.index_mut.ensures.value c.index_mut-front.ensures.value in
    let some : 0 < c.index_mut.result.now =
    omega (arith, t.held_is, len_read l c.index.ensures, c.if-index-eq0.false) in
    let b = row_brought t c.bring.ensures.moved c.bring.ensures.long c.bring.ensures.others some in
    cc (depth_is c.self.view_is, b.stride_is, b.lists_are)
