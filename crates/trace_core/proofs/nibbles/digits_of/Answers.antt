-- Each value is a place in the table of digits.
use Rattle.trace_core.proofs.HexadecimalDigits.{glyphs_are, lanes_ok}
use Rattle.trace_core.proofs.nibbles.digits_of.Goals as goal

pub swizzle : goal.swizzle
swizzle c = lanes_ok c.args.values c.requires.lanes c.requires.below

pub returns : goal.returns
returns c = glyphs_are c.args.values c.requires.lanes c.requires.below
