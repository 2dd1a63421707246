-- A set that gets its first block is listed.
use Rattle.std.proofs.Common.{◌<◌, length, ap, arith}
use Rattle.full_profile.proofs.marked_lists.Touching.{held_small, one_grown, none_grown}
use Rattle.full_profile.proofs.marked_lists.touched.TouchedListsMarkedLists.bring.Goals as goal
use
    Rattle.full_profile.proofs.marked_lists.touched.TouchedListsMarkedLists.bring.Goals.{After-bring-touch}
use Rattle.full_profile.proofs.marked_lists.touched.TouchedListsMarkedLists.bring.Given.{Over}

is_set : (g : Over) (c : After-bring-touch g) →
    c.args.set < length (g.S.ListStore.view c.self.inside.lists).blocks
is_set g c = omega (arith, c.requires.within, ap (λ m. length m.blocks) c.self.view_is)

pub overflow_cast-held : goal.overflow_cast-held
overflow_cast-held g c =
    let at = (goal.at.overflow_cast-held g c).After-bring-touch in
    omega (
      arith,
      held_small c.self.invariant c.args.set (is_set g at) c.args.block c.args.access
          c.in-New.ensures.found,
    )

pub overflow_cast-held-in-New : goal.overflow_cast-held-in-New
overflow_cast-held-in-New g c =
    let at = (goal.at.overflow_cast-held-in-New g c).After-bring-touch in
    omega (
      arith,
      held_small c.self.invariant c.args.set (is_set g at) c.args.block c.args.access
          c.in-New.ensures.found,
    )

pub overflow_add-held : goal.overflow_add-held
overflow_add-held g c =
    let at = (goal.at.overflow_add-held g c).After-bring-touch in
    omega (
      arith,
      held_small c.self.invariant c.args.set (is_set g at) c.args.block c.args.access
          c.in-New.ensures.found,
    )

pub invariant_of-self : goal.invariant_of-self
invariant_of-self g c =
    let at = (goal.at.invariant_of-self g c).After-bring-touch in
    one_grown c.self.invariant c.args.set (is_set g at) c.args.block c.args.access
    c.in-New.ensures.found (g.S.ListStore.view c.bring-touch.new.self) c.add_grown.new.self
    c.bring-touch.ensures.moved c.add_grown.ensures

pub invariant_of-self-in_default : goal.invariant_of-self-in_default
invariant_of-self-in_default g c =
    let at = (goal.at.invariant_of-self-in_default g c).After-bring-touch in
    none_grown c.self.invariant c.args.set (is_set g at) c.args.block c.args.access
    (g.S.ListStore.view c.bring-touch.new.self) c.bring-touch.result c.bring-touch.ensures.moved
    c.bring-touch.ensures.found c.in_default.not-New
