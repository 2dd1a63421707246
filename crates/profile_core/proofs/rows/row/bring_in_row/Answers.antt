-- A row whose list gets a block in front that was behind its second, or new.
use Rattle.std.proofs.Common.{◌≡◌, ◌∙◌, ◌+◌, ◌-◌, ◌∷◌, ◌++◌, suc, take, drop, set, ap, subst, arith}
use Rattle.profile_core.specs.internal.set_lists.Lists.{IsBroughtInRow}
use Rattle.profile_core.proofs.rows.Bringing.{IsShifted, brought_found, brought_grown}
use Rattle.profile_core.proofs.rows.row.bring_in_row.Goals as goal
use Rattle.profile_core.proofs.rows.row.bring_in_row.Goals.{After-shift_past}

-- the blocks behind the front, as the pass leaves them
shifted : (c : After-shift_past) → IsShifted c.args.block c.replace-first.result
    (c.args.len.now - 1) c.args.rest.now c.shift_past.new.list
shifted c = record {
  within = omega (arith, c.requires.row.fits);
  after_is =
      c.shift_past.ensures.moved;
}

-- the list that was brought into the row
list_is : (c : After-shift_past) → c.replace-first.result ∷ take (c.args.len.now - 1)
    c.args.rest.now ≡ take c.args.len.now (c.args.front.now ∷ c.args.rest.now)
list_is c =
    let one_more : suc (c.args.len.now - 1) ≡ c.args.len.now = omega (arith, c.requires.some) in
    ap (λ f. f ∷ take (c.args.len.now - 1) c.args.rest.now) c.replace-first.ensures.value
    ∙ ap (λ n. take n (c.args.front.now ∷ c.args.rest.now)) one_more

pub returns-in-Found-clause-moved : goal.returns-in-Found-clause-moved
returns-in-Found-clause-moved c =
    let at = (goal.at.returns-in-Found-clause-moved c).After-shift_past in
    let one_more : suc (c.args.len.now - 1) ≡ c.args.len.now = omega (arith, c.requires.some) in
    let after = c.shift_past.new.list ++ drop (c.args.len.now - 1) c.args.rest.now in
    subst (λ xs. IsBroughtInRow c.args.block xs c.replace-first.new.dest after c.args.len.now)
    (list_is at)
    (subst (λ n. IsBroughtInRow c.args.block (c.replace-first.result ∷ take (c.args.len.now - 1)
    c.args.rest.now) c.replace-first.new.dest after n) one_more
    (brought_found (shifted at) c.replace-first.new.dest c.in-Found.distance
    c.replace-first.ensures.after c.requires.row.small c.in-Found.ensures.shifted))

pub returns-then-held-rest-clause-moved : goal.returns-then-held-rest-clause-moved
returns-then-held-rest-clause-moved c =
    let at = (goal.at.returns-then-held-rest-clause-moved c).After-shift_past in
    let after = set (c.shift_past.new.list ++ drop (c.args.len.now - 1) c.args.rest.now)
    (c.args.len.now - 1) c.in-Out.last in
    subst (λ xs. IsBroughtInRow c.args.block xs c.replace-first.new.dest after (c.args.len.now + 1))
    (list_is at)
    (brought_grown (shifted at) c.replace-first.new.dest c.in-Out.last (c.args.len.now + 1)
    c.replace-first.ensures.after c.requires.row.small
    (omega (arith, c.if-held-rest.true, c.requires.some)) (omega (arith, c.requires.some))
    c.in-Out.ensures.shifted)
