-- A rest that gets another block in front, and lacks the one that was there, or its last.
use Rattle.std.proofs.Common.{◌≡◌, ◌∙◌, ◌+◌, ◌-◌, ◌++◌, suc, take, drop, set, ap, arith}
use Rattle.profile_core.proofs.rows.Bringing.{IsShifted}
use Rattle.profile_core.proofs.rests.RestExchange.{rest_found, rest_grown, found_small}
use Rattle.profile_core.proofs.rows.row.exchange_in_row.Goals as goal
use Rattle.profile_core.proofs.rows.row.exchange_in_row.Goals.{After-shift_past}

-- the blocks behind the second, as the pass leaves them
shifted : (c : After-shift_past) → IsShifted c.args.block c.args.second (c.args.len.now - 2)
    c.args.rest.now c.shift_past.new.list
shifted c = record {
  within = omega (arith, c.requires.fits);
  after_is = c.shift_past.ensures.moved;
}

pub overflow_add-result : goal.overflow_add-result
overflow_add-result c = omega (
  arith,
  found_small (shifted (goal.at.overflow_add-result c).After-shift_past) c.requires.other
      c.in-Found.distance c.in-Found.ensures.shifted,
)

pub returns-in-Found-clause-moved : goal.returns-in-Found-clause-moved
returns-in-Found-clause-moved c =
    rest_found (shifted (goal.at.returns-in-Found-clause-moved c).After-shift_past)
    c.requires.other c.in-Found.distance c.in-Found.ensures.shifted

pub returns-then-held-rest-clause-moved : goal.returns-then-held-rest-clause-moved
returns-then-held-rest-clause-moved c =
    let at = (goal.at.returns-then-held-rest-clause-moved c).After-shift_past in
    let next : c.args.len.now + 1 - 2 ≡ suc (c.args.len.now - 2) = omega (arith, c.requires.two) in
    ap (λ n. take n (set (c.shift_past.new.list ++ drop (c.args.len.now - 2) c.args.rest.now)
    (c.args.len.now - 2) c.in-Out.last)) next
    ∙ rest_grown (shifted at) c.requires.other c.in-Out.last (omega (arith, c.if-held-rest.true))
    c.in-Out.ensures.shifted
