-- The configurations of all pairs before the first one are outside the ranges, or not greater than
-- the triple.
use Rattle.std.proofs.Common.{◌≡◌, ◌≤◌, ◌∙◌, true, sym, ap, arith, subst}
use Rattle.sweep_core.specs.declared.space.Config.{Config}
use Rattle.sweep_core.specs.Space.{Ranges}
use Rattle.sweep_core.specs.Table.{table, is_after}
use Rattle.sweep_core.specs.internal.Walk.{rows_from}
use Rattle.sweep_core.proofs.Orders.{less-block}
use Rattle.sweep_core.proofs.Walk.{rows-first}
use Rattle.sweep_core.proofs.space.Space.first_pair.Goals as goal
use Rattle.sweep_core.proofs.space.Space.first_pair.Goals.{After-pair_index, in-None, in-Some}

block : (c : After-pair_index) (d : Config) → c.self.inside.bsize.0 ≤ d.bsize →
    is_after c.args.after d ≡ true → c.match-after.least ≤ d.bsize
block c d low later =
    elim c.match-after.branch [
      | in-None w ↦ omega (arith, w.least-is, low)
      | in-Some w ↦ let more = less-block w.in-Some.config d
          (sym (ap (λ a. is_after a d) w.in-Some.is) ∙ later) in
          omega (arith, w.least-is, w.max-least.ensures, low, more)
    ]

pub returns-clause-rows : goal.returns-clause-rows
returns-clause-rows c =
    subst (λ (r : Ranges). rows_from r c.args.after c.pair_index.result ≡ table r c.args.after)
    c.self.view_is
    (rows-first _ c.args.after (block c) c.pair_index.ensures.least)
