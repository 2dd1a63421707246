-- A reference that is found second: what lists and histograms stand for after it.
use Rattle.std.proofs.Common.{◌∙◌, ap}
use Rattle.profile_core.specs.profile.State.{list_of}
use Rattle.profile_core.specs.internal.set_lists.Moves.{is_second}
use Rattle.profile_core.proofs.profile.Feeding.{found_second}
use Rattle.profile_core.proofs.profile.Fed.{moved_of, other, found_sound, found_after}
use Rattle.profile_core.proofs.profile.stack_profile.StackProfile.feed_second.Goals as goal

pub invariant_of-self : goal.invariant_of-self
invariant_of-self g c =
    let moved = moved_of c.self.inside.histograms c.self.invariant c.self.view_is c.requires.next
    c.bring_second.ensures in
    let second = ap (λ v. is_second c.args.block (list_of v c.args.set)) c.self.view_is ∙
    c.requires.second in
    found_sound moved (found_second c.args.block _ (other moved) second) c.index_mut.ensures.value

pub returns : goal.returns
returns g c =
    let moved = moved_of c.self.inside.histograms c.self.invariant c.self.view_is c.requires.next
    c.bring_second.ensures in
    let second = ap (λ v. is_second c.args.block (list_of v c.args.set)) c.self.view_is ∙
    c.requires.second in
    found_after moved (found_second c.args.block _ (other moved) second) c.index_mut.ensures.value
