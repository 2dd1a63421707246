-- The sum so far, which fits since each comparison count does.
use Rattle.std.proofs.Common.{◌≡◌, ◌*◌, ◌^◌, ◌≤◌, take}
use Rattle.std.specs.Prelude.{sum_by}
use Rattle.sweep_core.proofs.full.profiles.total_full_probes.Given as goal

abbrev pub invariant-loop-pair : goal.invariant-loop-pair
invariant-loop-pair l =
    (l.total ≡ sum_by (λ x. x.profile.plain.probes) (take l.pair-index l.profiles)) ×
    (l.total ≤ l.pair-index * 2 ^ 64)
