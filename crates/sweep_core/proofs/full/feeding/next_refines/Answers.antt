-- Where the index is the last, no profile follows.
use Rattle.std.proofs.Common.{rules, arith}
use Rattle.sweep_core.proofs.FullFeeding.{none_refines}
use Rattle.sweep_core.proofs.full.feeding.next_refines.Goals as goal

pub returns-else-at-profiles : goal.returns-else-at-profiles
returns-else-at-profiles c =
    rw (none_refines c.args.profiles.now c.args.at (omega (arith, c.if-at-profiles.false)))
    (search rules)
