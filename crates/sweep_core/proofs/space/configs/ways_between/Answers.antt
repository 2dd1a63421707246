-- From one power of two to another, as many follow one another as their exponents differ by, and
-- one more.
use Rattle.std.proofs.Common.{arith}
use Rattle.sweep_core.proofs.Ways.{ways-none, ways-powers, exponents}
use Rattle.sweep_core.proofs.space.configs.ways_between.Goals as goal

pub returns-then-last-first : goal.returns-then-last-first
returns-then-last-first c =
    ways-none c.args.powers c.args.lowest c.args.most _ c.ilog2.result c.if-not-powers.false
    c.next_power_of_two-first.ensures.power
    c.next_power_of_two-first.ensures.upper_bound c.ilog2.ensures.next_power_gt
    (omega (arith, c.power-last.ensures))

pub overflow_sub-result-2 : goal.overflow_sub-result-2
overflow_sub-result-2 c =
    let logs = exponents _ _ c.ilog2.result c.next_power_of_two-first.ensures.power
    c.power-last.ensures c.ilog2.ensures.bound c.if-last-first.false in
    omega (arith, c.bits_of.ensures, c.bits_of-2.ensures, logs.0, logs.1, logs.2)

pub returns : goal.returns
returns c =
    ways-powers c.args.powers c.args.lowest c.args.most _ _ _ c.ilog2.result c.if-not-powers.false
    c.requires.few
    c.next_power_of_two-first.ensures.power c.next_power_of_two-first.ensures.lower_bound
    c.next_power_of_two-first.ensures.upper_bound
    c.power-last.ensures c.ilog2.ensures.bound c.ilog2.ensures.power_le
    c.ilog2.ensures.next_power_gt c.if-last-first.false
    (omega (arith, c.bits_of.ensures, c.bits_of-2.ensures))
