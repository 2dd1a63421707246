-- What is left of a pair comes first, or else the next pair.
use Rattle.std.proofs.Common.{◌++◌, sym, ap, ◌∙◌, arith, rules}
use Rattle.sweep_core.specs.internal.Runs.{run_of}
use Rattle.sweep_core.specs.internal.Walk.{rows_from}
use Rattle.sweep_core.proofs.Walk.{Stands, powers-fit, step-fits, step-view}
use Rattle.sweep_core.proofs.space.configs.ConfigsIterator.next.Goals as goal
use Rattle.sweep_core.proofs.space.configs.ConfigsIterator.next.Goals.{Joined-self-eq0}
use Rattle.sweep_core.proofs.space.configs.ConfigsIterator.next.Goals.{then-self-eq0+in_ok-rows}
use Rattle.sweep_core.proofs.space.configs.ConfigsIterator.next.Goals.{else-self-eq0}

-- where the next configuration stands
here : (c : Joined-self-eq0) → let i = c.if-self-eq0.self-inside in
    Stands i.space i.after i.pair i.left i.next c.args.self.now
here c =
    let was = c.self.inside in
    elim c.if-self-eq0.branch [
      | then-self-eq0+in_ok-rows w ↦ rw w.self-inside-is (record {
        some = w.in_ok-rows.ensures.rows.some;
        whole = sym c.self.view_is ∙ ap (λ n. run_of was.space.powers was.next n ++
            rows_from was.space was.after was.pair) w.if-self-eq0.true
            ∙ w.in_ok-rows.ensures.rows.whole;
        fits = w.in_ok-rows.ensures.fits;
      })
      | else-self-eq0 w ↦ rw w.self-inside-is
          (record {
            some = omega (arith, w.if-self-eq0.false);
            whole = sym c.self.view_is;
            fits =
                c.self.invariant;
          })
    ]

pub next_ways-self-inside-requires : goal.next_ways-self-inside-requires
next_ways-self-inside-requires c =
    powers-fit (here (goal.at.next_ways-self-inside-requires c).Joined-self-eq0)

pub invariant_of-self-2 : goal.invariant_of-self-2
invariant_of-self-2 c = step-fits (here (goal.at.invariant_of-self-2 c).Joined-self-eq0)
    c.next_ways-self-inside.ensures

pub returns-clause-steps : goal.returns-clause-steps
returns-clause-steps c = step-view (here (goal.at.returns-clause-steps c).Joined-self-eq0)
    c.next_ways-self-inside.ensures

pub returns-clause-goes : goal.returns-clause-goes
returns-clause-goes c = rw (step-view (here (goal.at.returns-clause-goes c).Joined-self-eq0)
    c.next_ways-self-inside.ensures) (search rules)
