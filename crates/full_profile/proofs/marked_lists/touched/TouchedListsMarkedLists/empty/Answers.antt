-- No set has a block.
use Rattle.std.proofs.Common.{◌≡◌, ◌∙◌, length, ap}
use Rattle.full_profile.specs.internal.Marked.{emptied}
use Rattle.full_profile.proofs.marked_lists.Touching.{none_touched}
use Rattle.full_profile.proofs.marked_lists.touched.TouchedListsMarkedLists.empty.Goals as goal
use Rattle.full_profile.proofs.marked_lists.touched.TouchedListsMarkedLists.empty.Goals.{in-Some}
use Rattle.full_profile.proofs.marked_lists.touched.TouchedListsMarkedLists.empty.Goals.{in-None}
use Rattle.full_profile.proofs.marked_lists.touched.TouchedListsMarkedLists.empty.Goals.{After-clear}
use Rattle.full_profile.proofs.marked_lists.touched.TouchedListsMarkedLists.empty.Given.{Over}

lists_are : (g : Over) (c : After-clear g) →
    g.S.ListStore.view c.match-listed.self-inside.lists ≡
    emptied (g.S.ListStore.view c.self.inside.lists)
lists_are g c = elim c.match-listed.branch [
  | in-Some w ↦ ap (λ s. g.S.ListStore.view s.lists) w.self-inside-is
      ∙ w.empty_listed.ensures.lists
  | in-None w ↦ ap (λ s. g.S.ListStore.view s.lists) w.self-inside-is ∙ w.empty_all.ensures.lists
]

pub invariant_of-self : goal.invariant_of-self
invariant_of-self g c =
    let at = (goal.at.invariant_of-self g c).After-clear in
    let m = g.S.ListStore.view c.self.inside.lists in
    none_touched m.depth (length m.blocks) (length m.cleans) c.clear.new.self
    c.match-listed.self-inside.touched.capacity
    (g.S.ListStore.view c.match-listed.self-inside.lists) (lists_are g at)
    c.self.invariant.alike.set_count c.self.invariant.few c.self.invariant.small c.clear.ensures
