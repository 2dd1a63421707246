-- The bytes of a number, taken apart into nibbles.
use Rattle.trace_core.proofs.HexadecimalDigits.{nibbles_from_number}
use Rattle.trace_core.proofs.nibbles.nibbles_of.Goals as goal

pub returns : goal.returns
returns c = nibbles_from_number c.args.number c.ranges.number.fits
