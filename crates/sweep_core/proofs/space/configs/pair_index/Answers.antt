-- By the exponents of the greatest powers of two.
use Rattle.std.proofs.Common.{◌/◌, ◌%◌, arith}
use Rattle.std.proofs.lemmas.Nat.{pow_pos}
use Rattle.sweep_core.proofs.Walk.{exponent-le}
use Rattle.sweep_core.proofs.space.configs.pair_index.Goals as goal

pub returns-clause-least : goal.returns-clause-least
returns-clause-least c k block set =
    omega (
      arith,
      exponent-le c.ilog2.result (k / 21) c.ilog2.ensures.power_le
          (omega (arith, block, pow_pos (k / 21))),
      exponent-le c.ilog2-2.result (k % 21) c.ilog2-2.ensures.power_le
          (omega (arith, set, pow_pos (k % 21))),
    )

pub returns-clause-greatest : goal.returns-clause-greatest
returns-clause-greatest c k block set =
    omega (
      arith,
      exponent-le (k / 21) c.ilog2.result block c.ilog2.ensures.next_power_gt,
      exponent-le (k % 21) c.ilog2-2.result set c.ilog2-2.ensures.next_power_gt,
    )
