-- A number in front, in the slot of a place.
use Rattle.profile_core.proofs.slots.SlotLemmas.{put_order, put_numbers}
use Rattle.profile_core.proofs.slots.Slots.put.Goals as goal

pub returns-clause-sound : goal.returns-clause-sound
returns-clause-sound c =
    rw (c.turn_with.ensures, c.turn_with-2.ensures)
    (put_order c.args.place c.args.self.now.marks c.args.self.now.order
    c.args.self.now.numbers c.requires.sound c.requires.within c.args.number c.mark_of.result
    c.mark_of.ensures)

pub returns-clause-moved : goal.returns-clause-moved
returns-clause-moved c =
    rw c.turn_with-2.ensures
    (put_numbers c.args.place c.args.self.now.marks c.args.self.now.order
    c.args.self.now.numbers c.requires.sound c.requires.within c.args.number c.mark_of.result
    c.mark_of.ensures)
