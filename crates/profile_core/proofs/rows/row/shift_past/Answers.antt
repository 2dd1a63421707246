-- The pass over a list: each block goes one index on, until the block that is looked for is found.
use Rattle.std.proofs.Common.{◌≡◌, ◌+◌, ◌<◌, false, eqb, get_or, length, set, sym, arith}
use Rattle.profile_core.proofs.Shifting.{IsPassed, passed_long, passed_next, found_shifted}
use Rattle.profile_core.proofs.Shifting.{found_moved, nowhere_shifted, nowhere_moved}
use Rattle.profile_core.proofs.rows.row.shift_past.Goals as goal
use Rattle.profile_core.proofs.rows.row.shift_past.Goals.{After-pass-found-in-loop-compared}
use Rattle.profile_core.proofs.rows.row.shift_past.Goals.{After-pass-found-2}

-- The first of two, the second, and the last of an odd number.
pub returns-then-found-clause-shifted : goal.returns-then-found-clause-shifted
returns-then-found-clause-shifted c =
    found_shifted c.loop-compared.invariant (omega (arith, c.loop-compared-test.true))
    (sym c.if-found.ensures.found) c.requires.behind (omega arith)

pub returns-then-found-clause-moved : goal.returns-then-found-clause-moved
returns-then-found-clause-moved c =
    found_moved c.loop-compared.invariant (omega (arith, c.loop-compared-test.true))
    (sym c.if-found.ensures.found) c.requires.behind c.if-found.ensures.put

one_passed : (c : After-pass-found-in-loop-compared) → IsPassed c.args.block c.args.first
    (c.loop-compared.compared + 1) c.pass-found.new.carried
    c.args.list.now (set c.loop-compared.list c.loop-compared.compared c.pass-found.new.entry)
one_passed c =
    passed_next c.loop-compared.invariant (omega (arith, c.loop-compared-test.true))
    c.if-found.ensures.put c.if-found.ensures.carried
    (sym c.if-found.ensures.found)

pub returns-then-found-2-clause-shifted : goal.returns-then-found-2-clause-shifted
returns-then-found-2-clause-shifted c =
    let at = (goal.at.returns-then-found-2-clause-shifted c).After-pass-found-in-loop-compared in
    found_shifted (one_passed at) (omega (arith, c.loop-compared-test.true))
    (sym c.if-found-2.ensures.found) c.requires.behind (omega arith)

pub returns-then-found-2-clause-moved : goal.returns-then-found-2-clause-moved
returns-then-found-2-clause-moved c =
    let at = (goal.at.returns-then-found-2-clause-moved c).After-pass-found-in-loop-compared in
    found_moved (one_passed at) (omega (arith, c.loop-compared-test.true))
    (sym c.if-found-2.ensures.found) c.requires.behind c.if-found-2.ensures.put

pub loop-compared-preserved : goal.loop-compared-preserved
loop-compared-preserved c =
    let at = (goal.at.loop-compared-preserved c).After-pass-found-in-loop-compared in
    passed_next (one_passed at) (omega (arith, c.loop-compared-test.true)) c.if-found-2.ensures.put
    c.if-found-2.ensures.carried
    (sym c.if-found-2.ensures.found)

-- The last of an odd number
last_left : (c : After-pass-found-2) → c.loop-compared.compared < length c.args.list.now
last_left c = omega (arith, c.if-compared-list.false, c.loop-compared.invariant.within)

pub returns-then-found-3-clause-shifted : goal.returns-then-found-3-clause-shifted
returns-then-found-3-clause-shifted c =
    let lt = last_left (goal.at.returns-then-found-3-clause-shifted c).After-pass-found-2 in
    found_shifted c.loop-compared.invariant lt (sym c.if-found-3.ensures.found) c.requires.behind
    (omega arith)

pub returns-then-found-3-clause-moved : goal.returns-then-found-3-clause-moved
returns-then-found-3-clause-moved c =
    let lt = last_left (goal.at.returns-then-found-3-clause-moved c).After-pass-found-2 in
    found_moved c.loop-compared.invariant lt (sym c.if-found-3.ensures.found) c.requires.behind
    c.if-found-3.ensures.put

all_passed : (c : After-pass-found-2) → eqb (get_or c.loop-compared.list c.loop-compared.compared 0)
    c.args.block ≡ false
    → IsPassed c.args.block c.args.first (c.loop-compared.compared + 1) c.pass-found-2.new.carried
    c.args.list.now
    (set c.loop-compared.list c.loop-compared.compared c.pass-found-2.new.entry)
all_passed c other = passed_next c.loop-compared.invariant (last_left c) c.pass-found-2.ensures.put
    c.pass-found-2.ensures.carried other

pub returns-else-found-3-clause-shifted : goal.returns-else-found-3-clause-shifted
returns-else-found-3-clause-shifted c =
    let at = (goal.at.returns-else-found-3-clause-shifted c).After-pass-found-2 in
    nowhere_shifted (all_passed at (sym c.if-found-3.ensures.found))
    (omega (arith, c.loop-compared-test.false)) c.requires.behind

pub returns-else-found-3-clause-moved : goal.returns-else-found-3-clause-moved
returns-else-found-3-clause-moved c =
    let at = (goal.at.returns-else-found-3-clause-moved c).After-pass-found-2 in
    nowhere_moved (all_passed at (sym c.if-found-3.ensures.found))
    (omega (arith, c.loop-compared-test.false)) c.requires.behind

-- None left
pub returns-then-compared-list-clause-shifted : goal.returns-then-compared-list-clause-shifted
returns-then-compared-list-clause-shifted c =
    nowhere_shifted c.loop-compared.invariant (omega (
      arith,
      c.if-compared-list.true,
      passed_long c.loop-compared.invariant,
    )) c.requires.behind

pub returns-then-compared-list-clause-moved : goal.returns-then-compared-list-clause-moved
returns-then-compared-list-clause-moved c =
    nowhere_moved c.loop-compared.invariant (omega (
      arith,
      c.if-compared-list.true,
      passed_long c.loop-compared.invariant,
    )) c.requires.behind
