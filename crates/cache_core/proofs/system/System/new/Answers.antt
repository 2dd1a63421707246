-- A new system stands for no event.
use Rattle.std.proofs.Common.{refl, subst, arith}
use Rattle.cache_core.specs.internal.system.SystemSteps.{IsNewCache}
use Rattle.cache_core.proofs.system.SystemLaw.{new_law, none_counted}
use Rattle.cache_core.proofs.system.System.new.Goals as goal

pub invariant_of-result : goal.invariant_of-result
invariant_of-result c =
    let none = none_counted c.args.seed in
    record {
      steps = omega arith;
      first = omega (
        arith,
        none _ c.in_ok-i.i c.in_ok-i.ensures,
        none _ c.in_ok-d.d c.in_ok-d.ensures,
        none _ c.in_ok-u.u c.in_ok-u.ensures,
      );
      second = omega (arith, none _ c.in_ok-second.second c.in_ok-second.ensures);
      memory = omega arith;
    }

pub returns-clause-stands : goal.returns-clause-stands
returns-clause-stands c = new_law c.args.plan c.args.seed _
    (subst (λ p. IsNewCache c.args.seed p c.in_ok-i.i) c.first_i.ensures.value c.in_ok-i.ensures)
    (subst (λ p. IsNewCache c.args.seed p c.in_ok-d.d) c.first_d.ensures c.in_ok-d.ensures)
    (subst (λ p. IsNewCache c.args.seed p c.in_ok-u.u) c.first_u.ensures c.in_ok-u.ensures)
    (subst (λ p. IsNewCache c.args.seed p c.in_ok-second.second) c.second.ensures
    c.in_ok-second.ensures)
    refl refl refl
