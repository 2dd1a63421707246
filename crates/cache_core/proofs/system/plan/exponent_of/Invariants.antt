-- No smaller power gives the number.
use Rattle.std.proofs.Common.{◌≢◌, ℕ, ◌*◌, ◌<◌, ◌^◌}
use Rattle.cache_core.proofs.system.plan.exponent_of.Given as goal

abbrev pub invariant-loop-k : goal.invariant-loop-k
invariant-loop-k l = (j : ℕ) → j < l.k → l.unit * 2 ^ j ≢ l.number
