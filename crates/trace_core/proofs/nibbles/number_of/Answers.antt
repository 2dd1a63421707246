use Rattle.trace_core.proofs.SixteenBytes.{number_is}
use Rattle.trace_core.proofs.nibbles.number_of.Goals as goal

pub returns : goal.returns
returns c = number_is c.args.digits c.fits-digits.0 c.requires
