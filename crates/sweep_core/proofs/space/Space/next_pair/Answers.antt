-- The pair either has no row, or begins those that are left.
use Rattle.std.proofs.Common.{◌∙◌, ◌<◌, ◌%◌, ◌^◌, arith, subst}
use Rattle.sweep_core.specs.Space.{Ranges}
use Rattle.sweep_core.proofs.Walk.{powers, rows-none, rows-begin, rows-beyond}
use Rattle.sweep_core.proofs.space.Space.next_pair.Goals as goal

pub rows_of_pair-requires : goal.rows_of_pair-requires
rows_of_pair-requires c =
    powers (omega (arith, c.loop-pair-test.true, c.last_pair-last.ensures.few))
    c.power-bsize.ensures c.power-sets.ensures

pub returns-in-Some-clause-rows : goal.returns-in-Some-clause-rows
returns-in-Some-clause-rows c =
    rw c.loop-pair.invariant
    (rows-begin (omega (arith, c.loop-pair-test.true, c.last_pair-last.ensures.few))
    c.power-bsize.ensures c.power-sets.ensures c.in-Some.ensures)

pub loop-pair-preserved : goal.loop-pair-preserved
loop-pair-preserved c =
    c.loop-pair.invariant ∙ rows-none
    (omega (arith, c.loop-pair-test.true, c.last_pair-last.ensures.few)) c.power-bsize.ensures
    c.power-sets.ensures
    c.args.self.now c.args.after c.in_default.ensures

pub returns-clause-rows : goal.returns-clause-rows
returns-clause-rows c =
    let end = c.last_pair-last.ensures.last c.args.after c.loop-pair.pair c.loop-pair-test.false in
    (c.loop-pair.invariant ∙ end, end)

pub loop-pair-preserved-then-sets-most_sets : goal.loop-pair-preserved-then-sets-most_sets
loop-pair-preserved-then-sets-most_sets c =
    c.loop-pair.invariant ∙ rows-beyond c.args.self.now c.args.after c.loop-pair.pair
    (subst (λ (r : Ranges). r.sets.1 < 2 ^ (c.loop-pair.pair % 21)) c.self.view_is
    (omega (arith, c.power-sets.ensures, c.if-sets-most_sets.true)))
