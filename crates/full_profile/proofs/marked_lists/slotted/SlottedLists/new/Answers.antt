-- All lists are empty.
use Rattle.full_profile.proofs.marked_lists.ListsInSlots.{new_sound, new_lists}
use Rattle.full_profile.proofs.marked_lists.slotted.SlottedLists.new.Goals as goal

pub invariant_of-result : goal.invariant_of-result
invariant_of-result c = new_sound c.args.depth c.args.sets c.in_ok-vec.field-0.items
    c.in_ok-vec-2.field-0.items c.in_ok-vec-3.field-0.items
    (c.in_ok-vec.ensures.items_if_clones_equal (λ y e. e))
    (c.in_ok-vec-2.ensures.items_if_clones_equal (λ y e. e))
    (c.in_ok-vec-3.ensures.items_if_clones_equal (λ y e. e)) c.requires.two c.requires.most
    c.requires.few

pub returns : goal.returns
returns c = new_lists c.args.depth c.args.sets c.in_ok-vec.field-0.items
    c.in_ok-vec-2.field-0.items c.in_ok-vec-3.field-0.items
    (c.in_ok-vec.ensures.items_if_clones_equal (λ y e. e))
    (c.in_ok-vec-2.ensures.items_if_clones_equal (λ y e. e))
    (c.in_ok-vec-3.ensures.items_if_clones_equal (λ y e. e))
