-- A block and its clean depth in front, in the slot of a place.
use Rattle.std.proofs.Common.{◌∙◌, ◌∷◌, ℕ, List, get_or, set, ap, sym, arith, length-set}
use Rattle.std.specs.List.{remove}
use Rattle.profile_core.specs.Slots.{ordered_numbers}
use Rattle.profile_core.proofs.slots.SlotLemmas.{ordered_numbers_at, turned, put_entry}
use Rattle.full_profile.proofs.marked_lists.slotted.ListSlots.put.Goals as goal

pub bounds-self-slot : goal.bounds-self-slot
bounds-self-slot c = omega (
  arith,
  c.put-slot.ensures.slot,
  c.requires.sound.order.within c.args.place,
  c.requires.sound.cleans_len,
)

pub returns-clause-sound : goal.returns-clause-sound
returns-clause-sound c = record {
  order = c.put-slot.ensures.sound;
  cleans_len = length-set c.args.self.now.cleans c.put-slot.result _ ∙ c.requires.sound.cleans_len;
}

pub returns-clause-clean : goal.returns-clause-clean
returns-clause-clean c =
    let s = c.args.self.now in
    c.replace.ensures.value
    ∙ ap (λ i. get_or s.cleans i 0) c.put-slot.ensures.slot
    ∙ sym (ordered_numbers_at s.slots.order s.cleans 16 c.args.place
    (omega (arith, c.requires.sound.order.order_len)) c.requires.within)

pub returns-clause-cleans : goal.returns-clause-cleans
returns-clause-cleans c =
    let s = c.args.self.now in
    let place : ℕ = c.args.place in
    let written : List ℕ → ℕ → ℕ → List ℕ =
    λ order slot clean. ordered_numbers order (set s.cleans slot clean) 16 in
    ap (λ o. written o c.put-slot.result c.replace.new.dest)
    (c.put-slot.ensures.order ∙ ap (λ i. i ∷ remove s.slots.order place) c.put-slot.ensures.slot)
    ∙ ap (λ i. written (turned place s.slots.order) i c.replace.new.dest) c.put-slot.ensures.slot
    ∙ ap (λ v. written (turned place s.slots.order) (get_or s.slots.order place 0) v)
    c.replace.ensures.after
    ∙ put_entry place s.slots.marks s.slots.order s.slots.numbers c.requires.sound.order
    c.requires.within s.cleans c.requires.sound.cleans_len c.args.clean
