use Rattle.trace_core.proofs.SixteenBytes.{within_is}
use Rattle.trace_core.proofs.nibbles.lanes_within.Goals as goal

pub returns : goal.returns
returns c = within_is c.args.ascii c.args.first c.args.more c.fits-ascii.0 c.fits-ascii.1
    c.requires.begins c.requires.ends
