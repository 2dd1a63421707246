-- The numbers of a new profile are all 0.
use Rattle.std.proofs.Common.{◌+◌, ◌∙◌, ap}
use Rattle.std.specs.Prelude.{replicate}
use Rattle.profile_core.proofs.profile.Feeding.{new_sound, new_is}
use Rattle.profile_core.proofs.profile.stack_profile.StackProfile.new.Goals as goal

pub invariant_of-result : goal.invariant_of-result
invariant_of-result g c =
    let ways = c.e-depth.ensures.value in
    new_sound c.args.geometry (g.L.SetLists.view c.args.lists) c.in_ok-vec.field-0.items
    c.in_ok-vec-2.field-0.items c.e-depth.ensures.limits (ap (λ l. l.depth) c.requires)
    (ap (λ l. l.lists) c.requires)
    (c.in_ok-vec.ensures.items_if_clones_equal (λ y e. e) ∙ ap (λ n. replicate n 0) ways)
    (c.in_ok-vec-2.ensures.items_if_clones_equal (λ y e. e) ∙ ap (λ n. replicate (n + 1) 0) ways)

pub returns : goal.returns
returns g c =
    let ways = c.e-depth.ensures.value in
    new_is c.args.geometry (g.L.SetLists.view c.args.lists) c.in_ok-vec.field-0.items
    c.in_ok-vec-2.field-0.items (ap (λ l. l.lists) c.requires)
    (c.in_ok-vec.ensures.items_if_clones_equal (λ y e. e) ∙ ap (λ n. replicate n 0) ways)
    (c.in_ok-vec-2.ensures.items_if_clones_equal (λ y e. e) ∙ ap (λ n. replicate (n + 1) 0) ways)
