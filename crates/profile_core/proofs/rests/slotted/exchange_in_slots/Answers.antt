-- The block's slot, or one that is free, or else the last one's, gets the second block.
use Rattle.std.proofs.Common.{◌∙◌, ◌+◌, ◌-◌, ◌∷◌, ap, arith}
use Rattle.std.specs.List.{remove}
use Rattle.profile_core.specs.Slots.{ordered_numbers}
use Rattle.profile_core.proofs.rests.SlottedBehind.{found_small, found_list}
use Rattle.profile_core.proofs.rests.SlottedBehind.{new_held, new_list}
use Rattle.profile_core.proofs.rests.slotted.exchange_in_slots.Goals as goal

pub put-requires-clause-within : goal.put-requires-clause-within
put-requires-clause-within c =
    found_small c.args.block c.args.second c.args.len.now c.args.most c.args.slots.now
    c.args.slots.now c.requires.sound c.requires.some c.requires.most c.requires.two
    c.requires.fits c.in-Behind.place c.in-Behind.ensures

pub overflow_add-result : goal.overflow_add-result
overflow_add-result c = omega (
  arith,
  found_small c.args.block c.args.second c.args.len.now c.args.most c.args.slots.now
      c.args.slots.now c.requires.sound c.requires.some c.requires.most c.requires.two
      c.requires.fits c.in-Behind.place c.in-Behind.ensures,
)

pub overflow_add-result-in-New : goal.overflow_add-result-in-New
overflow_add-result-in-New c = omega (
  arith,
  new_held c.args.block c.args.second c.args.len.now c.args.most c.args.slots.now
      c.args.slots.now c.requires.sound c.requires.some c.requires.most c.requires.two
      c.requires.fits c.in-New.held c.in-New.ensures,
  c.requires.fits,
  c.requires.most,
)

pub returns-in-Behind-clause-moved : goal.returns-in-Behind-clause-moved
returns-in-Behind-clause-moved c =
    found_list c.args.block c.args.second c.args.len.now c.args.most c.args.slots.now
    c.put.new.self c.requires.sound c.requires.some c.requires.most c.requires.two
    c.requires.fits c.in-Behind.place c.in-Behind.ensures c.put.ensures.moved

pub returns-in-New-clause-moved : goal.returns-in-New-clause-moved
returns-in-New-clause-moved c =
    let after = c.put-in-New.new.self in
    let whole = ordered_numbers c.args.slots.now.order c.args.slots.now.numbers 16 in
    ap (λ n. ordered_numbers after.order after.numbers (n + 3 - 2)) c.min-place.ensures
    ∙ new_list c.args.block c.args.second c.args.len.now c.args.most c.args.slots.now
    after c.requires.sound c.requires.some c.requires.most c.requires.two
    c.requires.fits c.in-New.held c.in-New.ensures
    (c.put-in-New.ensures.moved ∙ ap (λ n. c.args.second ∷ remove whole n) c.min-place.ensures)
