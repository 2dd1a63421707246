-- A set without slots takes some.
use Rattle.std.proofs.Common.{◌∙◌, arith, refl}
use Rattle.profile_core.proofs.rests.SlottedRestLemmas.{ready_taken, room_left}
use Rattle.profile_core.proofs.rests.slotted.place_slots.Goals as goal

pub take_slots-place-requires-clause-room : goal.take_slots-place-requires-clause-room
take_slots-place-requires-clause-room c = omega (
  arith,
  room_left c.requires.sound c.requires.within c.requires.none,
  c.args.rests.now.ok.0,
)

pub returns-clause-sound : goal.returns-clause-sound
returns-clause-sound c =
    let taken = c.take_slots-place.ensures in
    (ready_taken c.requires.sound c.requires.within c.requires.none taken.room
    (taken.which ∙ c.args.rests.now.ok.0) refl taken.more).placed
