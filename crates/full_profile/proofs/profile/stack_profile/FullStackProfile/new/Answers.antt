-- The numbers of a new profile are all 0.
use Rattle.std.proofs.Common.{◌+◌, ◌∙◌, ap}
use Rattle.std.specs.Prelude.{replicate}
use Rattle.full_profile.specs.State.{KindState}
use Rattle.full_profile.specs.internal.Copies.{no_copies}
use Rattle.full_profile.proofs.profile.Sounds.{new_full, new_full_sound}
use Rattle.full_profile.proofs.profile.stack_profile.FullStackProfile.new.Goals as goal

pub invariant_of-result : goal.invariant_of-result
invariant_of-result g c =
    let ways = c.e-depth.ensures.value in
    new_full_sound c.args.geometry (g.L.MarkedLists.view c.args.lists) c.in_ok-vec.field-0.items
    c.in_ok-vec-2.field-0.items c.in_ok-kinds.field-0.items c.in_ok-new.field-0
    c.e-depth.ensures.limits c.requires
    (c.in_ok-vec.ensures.items_if_clones_equal (λ y e. e) ∙ ap (λ n. replicate n 0) ways)
    (c.in_ok-vec-2.ensures.items_if_clones_equal (λ y e. e) ∙ ap (λ n. replicate (n + 1) 0) ways)
    (c.in_ok-kinds.ensures ∙ ap (λ n. replicate {A = KindState} 3 (record {
      behind = replicate n 0;
      missed = 0;
    })) ways)
    (c.in_ok-new.ensures ∙ ap no_copies ways)

pub returns : goal.returns
returns g c =
    let ways = c.e-depth.ensures.value in
    new_full c.args.geometry (g.L.MarkedLists.view c.args.lists) c.in_ok-vec.field-0.items
    c.in_ok-vec-2.field-0.items c.in_ok-kinds.field-0.items c.in_ok-new.field-0
    c.e-depth.ensures.limits c.requires
    (c.in_ok-vec.ensures.items_if_clones_equal (λ y e. e) ∙ ap (λ n. replicate n 0) ways)
    (c.in_ok-vec-2.ensures.items_if_clones_equal (λ y e. e) ∙ ap (λ n. replicate (n + 1) 0) ways)
    (c.in_ok-kinds.ensures ∙ ap (λ n. replicate {A = KindState} 3 (record {
      behind = replicate n 0;
      missed = 0;
    })) ways)
    (c.in_ok-new.ensures ∙ ap no_copies ways)
