use Rattle.profile_core.proofs.slots.SlotLemmas.{put_with_is}
use Rattle.profile_core.proofs.slots.turn_with.Goals as goal

pub returns : goal.returns
returns c =
    put_with_is c.args.first c.args.lanes.now c.args.place c.requires.within c.requires.all
