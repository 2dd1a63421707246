-- The first power that gives the number is the exponent, and where none does there is none.
use Rattle.std.proofs.Common.{sym, arith}
use Rattle.cache_core.proofs.system.plan.Exponents.{exponent_some, exponent_none, no_overflow}
use Rattle.cache_core.proofs.system.plan.exponent_of.Goals as goal

found : goal.returns-then-unit-k-clause-found
found c = grind (arith, no_overflow)

pub returns-then-unit-k-clause-value : goal.returns-then-unit-k-clause-value
returns-then-unit-k-clause-value c =
    sym (exponent_some c.args.unit c.args.number c.loop-k.k (omega (arith, c.loop-k-test.true))
    c.loop-k.invariant (found c).1)

pub returns-then-unit-k-clause-found : goal.returns-then-unit-k-clause-found
returns-then-unit-k-clause-found c = found c

pub returns-clause-value : goal.returns-clause-value
returns-clause-value c = sym (exponent_none c.args.unit c.args.number
    (λ j l. c.loop-k.invariant j (omega (arith, c.loop-k-test.false))))
