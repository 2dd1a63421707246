-- Fewer than sixteen digits write a number of 64 bits.
use Rattle.std.proofs.Common.{arith, length}
use Rattle.std.proofs.Math.Nat.{pow-le-pow_right}
use Rattle.trace_core.proofs.digits.read_hexadecimal.Goals as goal

pub more_digits-requires-clause-fits : goal.more_digits-requires-clause-fits
more_digits-requires-clause-fits c = pow-le-pow_right (omega arith) {i = length c.args.text.now}
    {j = 16} (omega arith)
