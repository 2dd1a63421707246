-- A set's list gets a block in front: its front becomes the second, and that goes to the rest.
use Rattle.std.proofs.Common.{◌≡◌, ◌∙◌, ◌<◌, ◌≤◌, ℕ, length, get_or, ap, arith}
use Rattle.std.proofs.lemmas.List.{get_or_read}
use Rattle.profile_core.specs.internal.rows.Rows.{row_for}
use Rattle.profile_core.proofs.RowsBySet.{row_is, stride_is, put_is, put_others}
use Rattle.profile_core.proofs.rows.SplitRowLemmas.{known, is_first, is_rest, rest_long}
use Rattle.profile_core.proofs.rows.SplitRowLemmas.{first_written, one_brought, brought_as}
use Rattle.profile_core.proofs.rows.SplitRowLemmas.{written_rows, second_apart}
use Rattle.profile_core.proofs.rows.SplitRowLemmas.{rest_standing, rest_brought}
use Rattle.profile_core.proofs.rows.split.SplitRowsRowStore.bring.Goals as goal
use Rattle.profile_core.proofs.rows.split.SplitRowsRowStore.bring.Goals.{After-replace-second}
use Rattle.profile_core.proofs.rows.split.SplitRowsRowStore.bring.Given.{Over}

pub index_mut-requires : goal.index_mut-requires
index_mut-requires g c =
    let s = known c.self.invariant c.self.view_is c.requires.within in
    omega (arith, is_first s, c.self.inside.firsts.ok.0)

-- the list had one block
pub returns-then-held-eq1-clause-moved : goal.returns-then-held-eq1-clause-moved
returns-then-held-eq1-clause-moved g c =
    let s = known c.self.invariant c.self.view_is c.requires.within in
    let first = c.replace-second.ensures.after ∙ c.replace-first.ensures.value in
    brought_as c.replace-first.ensures.after
    (put_is c.args.self.now (first_written s first) c.requires.within)
    (one_brought c.args.block c.args.front.now (g.R.RestStore.view c.self.inside.rests).stride
    c.args.len.now (row_for c.args.self.now c.args.set)
    (row_for (g.R.RestStore.view c.self.inside.rests) c.args.set) c.if-held-eq1.true
    c.requires.behind s.sound.some s.sound.small (rest_long s))

pub returns-then-held-eq1-clause-long : goal.returns-then-held-eq1-clause-long
returns-then-held-eq1-clause-long g c =
    let s = known c.self.invariant c.self.view_is c.requires.within in
    let first = c.replace-second.ensures.after ∙ c.replace-first.ensures.value in
    let is = put_is c.args.self.now (first_written s first) c.requires.within in
    omega (arith, ap length is, rest_long s, stride_is s.row)

pub returns-then-held-eq1-clause-others : goal.returns-then-held-eq1-clause-others
returns-then-held-eq1-clause-others g c =
    let s = known c.self.invariant c.self.view_is c.requires.within in
    let first = c.replace-second.ensures.after ∙ c.replace-first.ensures.value in
    put_others c.args.self.now _ (first_written s first) c.requires.within

-- the list had two blocks at least
two : (len : ℕ) → 0 < len → (len ≡ 1 → ⊥) → 2 ≤ len
two len some other = omega (arith, some, other)

second : (g : Over) (c : After-replace-second g) → c.args.set < length c.self.inside.firsts.items →
    c.replace-second.result ≡ get_or c.self.inside.firsts.items c.args.set 0
second g c lt =
    c.replace-second.ensures.value
    ∙ get_or_read c.self.inside.firsts.items c.args.set c.index_mut.result.now lt
    c.index_mut.ensures.value 0

pub exchange-requires-clause-within : goal.exchange-requires-clause-within
exchange-requires-clause-within g c =
    is_rest (known c.self.invariant c.self.view_is c.requires.within)

pub exchange-requires-clause-fits : goal.exchange-requires-clause-fits
exchange-requires-clause-fits g c =
    let s = known c.self.invariant c.self.view_is c.requires.within in
    omega (arith, c.requires.row.fits, ap length (row_is s.row), rest_long s)

pub exchange-requires-clause-other : goal.exchange-requires-clause-other
exchange-requires-clause-other g c =
    let at = (goal.at.exchange-requires-clause-other g c).After-replace-second in
    let s = known c.self.invariant c.self.view_is c.requires.within in
    second_apart s c.args.block c.args.front.now c.replace-second.result c.args.len.now
    (second g at (is_first s)) (two c.args.len.now c.requires.some c.if-held-eq1.false)
    c.requires.behind c.requires.further

pub returns-clause-found : goal.returns-clause-found
returns-clause-found g c =
    let at = (goal.at.returns-clause-found g c).After-replace-second in
    let s = known c.self.invariant c.self.view_is c.requires.within in
    c.exchange.ensures.found ∙ rest_standing s c.args.block c.args.front.now c.replace-second.result
    c.args.len.now (second g at (is_first s))
    (two c.args.len.now c.requires.some c.if-held-eq1.false) c.requires.behind c.requires.further

pub returns-clause-moved : goal.returns-clause-moved
returns-clause-moved g c =
    let at = (goal.at.returns-clause-moved g c).After-replace-second in
    let s = known c.self.invariant c.self.view_is c.requires.within in
    let first = c.replace-second.ensures.after ∙ c.replace-first.ensures.value in
    let put = written_rows s _ c.exchange.ensures.long c.exchange.ensures.others first in
    brought_as c.replace-first.ensures.after (put_is c.args.self.now put c.requires.within)
    (rest_brought s c.args.block c.args.front.now c.replace-second.result c.args.len.now
    (second g at (is_first s)) (two c.args.len.now c.requires.some c.if-held-eq1.false)
    c.requires.behind c.requires.further c.exchange.new.len _ c.exchange.ensures.long
    c.exchange.ensures.two c.exchange.ensures.fits c.exchange.ensures.moved)

pub returns-clause-long : goal.returns-clause-long
returns-clause-long g c =
    let s = known c.self.invariant c.self.view_is c.requires.within in
    let first = c.replace-second.ensures.after ∙ c.replace-first.ensures.value in
    let put = written_rows s _ c.exchange.ensures.long c.exchange.ensures.others first in
    omega (
      arith,
      ap length (put_is c.args.self.now put c.requires.within),
      c.exchange.ensures.long,
      stride_is s.row,
    )

pub returns-clause-others : goal.returns-clause-others
returns-clause-others g c =
    let s = known c.self.invariant c.self.view_is c.requires.within in
    let first = c.replace-second.ensures.after ∙ c.replace-first.ensures.value in
    let put = written_rows s _ c.exchange.ensures.long c.exchange.ensures.others first in
    put_others c.args.self.now _ put c.requires.within
