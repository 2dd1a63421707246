-- The front goes to the slot of the block, or to one that is free, or else to that of the last one.
use Rattle.std.proofs.Common.{◌≡◌, ◌∙◌, ◌+◌, ◌-◌, ◌∷◌, cond, min, take, ap, refl, arith, get_or}
use Rattle.std.specs.List.{remove}
use Rattle.trace_core.specs.Events.{is_write}
use Rattle.profile_core.specs.Slots.{ordered_numbers}
use Rattle.profile_core.specs.internal.set_lists.Moves.{standing_of}
use Rattle.profile_core.proofs.slots.SlotLemmas.{ordered_numbers_take}
use Rattle.full_profile.specs.internal.Slotted.{blocks_behind, cleans_behind}
use Rattle.full_profile.proofs.marked_lists.ListsInSlots.{blocks_behind_long, cleans_behind_long}
use Rattle.full_profile.proofs.marked_lists.SlotMoves.{IsApart, place_lt, found_touch, found_moved}
use Rattle.full_profile.proofs.marked_lists.SlotMoves.{found_in_front, new_in_front, new_touch}
use Rattle.full_profile.proofs.marked_lists.SlotMoves.{new_moved, full_touch, full_moved, brought}
use Rattle.full_profile.proofs.marked_lists.slotted.ListSlots.bring.Goals as goal
use Rattle.full_profile.proofs.marked_lists.slotted.ListSlots.bring.Goals.{After-replace-second}

-- the list as it was
apart : (c : After-replace-second) → IsApart c.args.block c.args.front.now c.args.front_clean.now
    c.args.self.now.len c.args.depth (blocks_behind c.args.self.now) (cleans_behind c.args.self.now)
apart c = record {
  all = blocks_behind_long c.requires.sound;
  some = c.requires.some;
  fits = c.requires.fits;
  most = c.requires.most;
  two = c.requires.two;
  other = c.requires.behind;
}

-- where the block is among those that are looked at
looked : (c : After-replace-second) → let l = c.args.self.now in
    standing_of c.args.block (ordered_numbers l.slots.order l.slots.numbers (l.len - 1))
    ≡ standing_of c.args.block (take (l.len - 1) (blocks_behind l))
looked c =
    let l = c.args.self.now in
    ap (standing_of c.args.block) (ordered_numbers_take l.slots.order l.slots.numbers (l.len - 1)
    16 (omega (arith, c.requires.fits, c.requires.most)))

pub put-clean-requires-clause-within : goal.put-clean-requires-clause-within
put-clean-requires-clause-within c =
    let at = (goal.at.put-clean-requires-clause-within c).After-replace-second in
    let lt = place_lt (apart at) (c.in-Behind.ensures ∙ looked at) in
    omega (arith, lt, c.requires.fits, c.requires.most)

pub overflow_cast-place : goal.overflow_cast-place
overflow_cast-place c =
    let at = (goal.at.overflow_cast-place c).After-replace-second in
    let lt = place_lt (apart at) (c.in-Behind.ensures ∙ looked at) in
    omega (arith, lt, c.requires.fits, c.requires.most)

pub overflow_add-place : goal.overflow_add-place
overflow_add-place c =
    let at = (goal.at.overflow_add-place c).After-replace-second in
    let lt = place_lt (apart at) (c.in-Behind.ensures ∙ looked at) in
    omega (arith, lt, c.requires.fits, c.requires.most)

pub returns-in-Behind-clause-found : goal.returns-in-Behind-clause-found
returns-in-Behind-clause-found c =
    let at = (goal.at.returns-in-Behind-clause-found c).After-replace-second in
    found_touch (apart at) (c.in-Behind.ensures ∙ looked at) c.put-clean.ensures.clean

pub returns-in-Behind-clause-blocks : goal.returns-in-Behind-clause-blocks
returns-in-Behind-clause-blocks c =
    let at = (goal.at.returns-in-Behind-clause-blocks c).After-replace-second in
    brought c.in-Behind.place (blocks_behind c.args.self.now) c.put-clean.ensures.len
    c.replace-second.ensures.after c.put-clean.ensures.blocks c.replace-second.ensures.value
    ∙ found_moved (apart at) (c.in-Behind.ensures ∙ looked at)
    _ _ _ (blocks_behind_long c.requires.sound)

pub returns-in-Behind-clause-cleans : goal.returns-in-Behind-clause-cleans
returns-in-Behind-clause-cleans c =
    let at = (goal.at.returns-in-Behind-clause-cleans c).After-replace-second in
    let found = c.in-Behind.ensures ∙ looked at in
    brought c.in-Behind.place (cleans_behind c.args.self.now) c.put-clean.ensures.len
    (c.clean_if_read.ensures ∙ ap (cond (is_write c.args.access) 0) c.max.ensures
    ∙ found_in_front (apart at) found c.args.access c.put-clean.ensures.clean)
    c.put-clean.ensures.cleans refl
    ∙ found_moved (apart at) found _ _ _ (cleans_behind_long c.requires.sound)

pub returns-then-held-depth-clause-found : goal.returns-then-held-depth-clause-found
returns-then-held-depth-clause-found c =
    let at = (goal.at.returns-then-held-depth-clause-found c).After-replace-second in
    new_touch (apart at) (c.in-New.ensures ∙ looked at) (omega (arith, c.if-held-depth.true))

pub returns-then-held-depth-clause-blocks : goal.returns-then-held-depth-clause-blocks
returns-then-held-depth-clause-blocks c =
    let at = (goal.at.returns-then-held-depth-clause-blocks c).After-replace-second in
    let xs = blocks_behind c.args.self.now in
    brought (min c.in-New.behind (c.args.depth - 2)) xs (ap (λ n. n + 1) c.put-last.ensures.len)
    c.replace-second.ensures.after
    (c.put-last.ensures.blocks ∙ ap (λ q. c.replace-second.result ∷ remove xs q)
    c.min-place.ensures) c.replace-second.ensures.value
    ∙ new_moved (apart at) (c.in-New.ensures ∙ looked at) (omega (arith, c.if-held-depth.true))
    _ _ _ (blocks_behind_long c.requires.sound)

pub returns-then-held-depth-clause-cleans : goal.returns-then-held-depth-clause-cleans
returns-then-held-depth-clause-cleans c =
    let at = (goal.at.returns-then-held-depth-clause-cleans c).After-replace-second in
    let ms = cleans_behind c.args.self.now in
    let nowhere = c.in-New.ensures ∙ looked at in
    brought (min c.in-New.behind (c.args.depth - 2)) ms (ap (λ n. n + 1) c.put-last.ensures.len)
    (c.clean_if_read-in-New.ensures ∙ new_in_front (apart at) nowhere c.args.access)
    (c.put-last.ensures.cleans ∙ ap (λ q. c.args.front_clean.now ∷ remove ms q)
    c.min-place.ensures) refl
    ∙ new_moved (apart at) nowhere (omega (arith, c.if-held-depth.true))
    _ _ _ (cleans_behind_long c.requires.sound)

pub returns-else-held-depth-clause-found : goal.returns-else-held-depth-clause-found
returns-else-held-depth-clause-found c =
    let at = (goal.at.returns-else-held-depth-clause-found c).After-replace-second in
    full_touch (apart at) (c.in-New.ensures ∙ looked at) (omega (arith, c.if-held-depth.false))
    (c.put-last.ensures.clean ∙ ap (λ q. get_or (cleans_behind c.args.self.now) q 0)
    c.min-place.ensures)

pub returns-else-held-depth-clause-blocks : goal.returns-else-held-depth-clause-blocks
returns-else-held-depth-clause-blocks c =
    let at = (goal.at.returns-else-held-depth-clause-blocks c).After-replace-second in
    let xs = blocks_behind c.args.self.now in
    brought (min c.in-New.behind (c.args.depth - 2)) xs c.put-last.ensures.len
    c.replace-second.ensures.after
    (c.put-last.ensures.blocks ∙ ap (λ q. c.replace-second.result ∷ remove xs q)
    c.min-place.ensures) c.replace-second.ensures.value
    ∙ full_moved (apart at) (c.in-New.ensures ∙ looked at) (omega (arith, c.if-held-depth.false))
    _ _ _ (blocks_behind_long c.requires.sound)

pub returns-else-held-depth-clause-cleans : goal.returns-else-held-depth-clause-cleans
returns-else-held-depth-clause-cleans c =
    let at = (goal.at.returns-else-held-depth-clause-cleans c).After-replace-second in
    let ms = cleans_behind c.args.self.now in
    let nowhere = c.in-New.ensures ∙ looked at in
    brought (min c.in-New.behind (c.args.depth - 2)) ms c.put-last.ensures.len
    (c.clean_if_read-in-New.ensures ∙ new_in_front (apart at) nowhere c.args.access)
    (c.put-last.ensures.cleans ∙ ap (λ q. c.args.front_clean.now ∷ remove ms q)
    c.min-place.ensures) refl
    ∙ full_moved (apart at) nowhere (omega (arith, c.if-held-depth.false))
    _ _ _ (cleans_behind_long c.requires.sound)
