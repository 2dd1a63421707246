use Rattle.std.proofs.Common.{refl}
use Rattle.profile_core.specs.Slots.{mark_of}
use Rattle.profile_core.proofs.slots.mark_of.Goals as goal

pub returns : goal.returns
unfolding mark_of
returns c = refl
