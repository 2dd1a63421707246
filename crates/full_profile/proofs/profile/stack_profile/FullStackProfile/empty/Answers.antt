-- The lists are empty, and their copybacks are counted.
use Rattle.std.proofs.Common.{◌∙◌, ap}
use Rattle.full_profile.specs.State.{FullState, after_emptying}
use Rattle.full_profile.specs.internal.Copies.{up_to_of}
use Rattle.full_profile.proofs.profile.Sounds.{room, emptied_after, emptied_sound}
use Rattle.full_profile.proofs.profile.stack_profile.FullStackProfile.empty.Goals as goal

pub empty-requires : goal.empty-requires
empty-requires g c = room c.self.invariant

pub invariant_of-self : goal.invariant_of-self
invariant_of-self g c = emptied_sound c.self.invariant c.args.emptying
    (g.L.MarkedLists.view c.empty.new.self) c.empty.new.copies c.empty.ensures.lists
    c.empty.ensures.copies

pub returns : goal.returns
returns g c = emptied_after c.self.invariant c.args.emptying
    (g.L.MarkedLists.view c.empty.new.self) c.empty.new.copies c.empty.ensures.lists
    c.empty.ensures.copies
    ∙ ap (λ (v : FullState). after_emptying (up_to_of c.args.emptying v.plain.geometry.e) v)
    c.self.view_is
