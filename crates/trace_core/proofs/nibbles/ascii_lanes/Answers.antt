use Rattle.std.proofs.Common.{◌∙◌, ap, length, subst, sym}
use Rattle.std.specs.Simd.Lanes.{Each1}
use Rattle.std.proofs.Common.{◌≤◌}
use Rattle.std.proofs.lemmas.List.{length-map}
use Rattle.trace_core.proofs.SixteenBytes.{capped_are, all_low, capped}
use Rattle.trace_core.proofs.nibbles.ascii_lanes.Goals as goal

pub returns-clause-lanes : goal.returns-clause-lanes
returns-clause-lanes c = ap length (capped_are c.args.bytes c.fits-bytes.0) ∙
    length-map c.args.bytes capped ∙ c.fits-bytes.0

pub returns-clause-low : goal.returns-clause-low
returns-clause-low c = subst (Each1 (λ c. c ≤ 127))
    (sym (capped_are c.args.bytes c.fits-bytes.0)) (all_low c.args.bytes)

pub returns-clause-values : goal.returns-clause-values
returns-clause-values c = capped_are c.args.bytes c.fits-bytes.0
