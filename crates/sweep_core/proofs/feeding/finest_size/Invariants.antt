-- The bits of the smallest block of the profiles so far, at most 20.
use Rattle.std.proofs.Common.{◌≡◌, ◌≤◌, take}
use Rattle.sweep_core.specs.internal.Waiting.{finest_bits}
use Rattle.sweep_core.proofs.feeding.finest_size.Given as goal

abbrev pub invariant-loop-pair : goal.invariant-loop-pair
invariant-loop-pair l = (l.bits ≡ finest_bits (take l.pair-index l.profiles)) × (l.bits ≤ 20)
