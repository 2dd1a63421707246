-- As many digits as may be read fit.
use Rattle.std.proofs.Common.{arith, length}
use Rattle.std.proofs.Math.Nat.{pow-le-pow_right}
use Rattle.trace_core.proofs.digits.read_digits.Goals as goal

pub more_digits-requires-clause-fits : goal.more_digits-requires-clause-fits
more_digits-requires-clause-fits c =
    let power = pow-le-pow_right c.requires.some {i = length c.args.text.now} {j = c.args.most}
    (omega arith) in
    omega (arith, power, c.requires.fits)
