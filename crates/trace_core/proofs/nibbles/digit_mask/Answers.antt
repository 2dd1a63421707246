use Rattle.trace_core.proofs.SixteenBytes.{mask_of_capped}
use Rattle.trace_core.proofs.nibbles.digit_mask.Goals as goal

pub returns : goal.returns
returns c =
    let ascii = c.ascii_lanes-ascii.ensures in
    rw (c.lanes_within.ensures, c.letters.ensures)
    (mask_of_capped c.args.bytes c.ascii_lanes-ascii.result ascii.lanes ascii.low ascii.values
    c.fits-bytes.1)
