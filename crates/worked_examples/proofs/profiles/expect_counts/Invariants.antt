use Rattle.std.proofs.Common.{◌≡◌}
use Rattle.profile_core.specs.profile.State.{hit_sums_at}
use Rattle.worked_examples.proofs.profiles.expect_counts.Given as goal

abbrev pub invariant-loop-i : goal.invariant-loop-i
invariant-loop-i g l = record {
  sums : l.sums ≡ hit_sums_at l.profile l.i;
}
