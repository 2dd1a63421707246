use Rattle.std.proofs.Common.{◌∙◌}
use Rattle.trace_core.proofs.SixteenBytes.{letters_are, lowered}
use Rattle.trace_core.proofs.nibbles.letters.Goals as goal

pub lanes_within-requires-clause-low : goal.lanes_within-requires-clause-low
lanes_within-requires-clause-low c = lowered c.args.ascii c.fits-ascii.0 c.requires.low

pub returns : goal.returns
returns c = c.lanes_within.ensures ∙ letters_are c.args.ascii c.fits-ascii.0
