-- A prefix turned right by one brings the element to the front.
use Rattle.cache_core.proofs.replacement.Lawful.{brought}
use Rattle.cache_core.proofs.replacement.put_first.Goals as goal

pub returns : goal.returns
returns c = brought c.args.slots.now c.args.at c.args.slot _ c.requires
    c.rotate_right.ensures.after
