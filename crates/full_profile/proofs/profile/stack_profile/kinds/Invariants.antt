-- As many kinds as were made, all with nothing counted.
use Rattle.std.proofs.Common.{◌≡◌}
use Rattle.std.specs.Prelude.{replicate}
use Rattle.full_profile.proofs.profile.stack_profile.kinds.Given as goal

abbrev pub invariant-loop-made : goal.invariant-loop-made
invariant-loop-made l =
    l.kinds.items ≡ replicate l.made (record { behind = replicate l.depth 0; missed = 0 })
