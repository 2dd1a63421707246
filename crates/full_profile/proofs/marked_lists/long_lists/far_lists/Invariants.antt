use Rattle.std.proofs.Common.{◌≡◌, []}
use Rattle.std.specs.Prelude.{replicate}
use Rattle.full_profile.proofs.marked_lists.long_lists.far_lists.Given as goal

abbrev pub invariant-loop-made : goal.invariant-loop-made
invariant-loop-made l = l.far.items ≡ replicate l.made (record {
  cap = l.beyond;
  blocks = [];
  values = [];
})
