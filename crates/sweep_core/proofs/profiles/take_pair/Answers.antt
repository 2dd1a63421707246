-- The next pair has its rows, or so many of them as are wanted.
use Rattle.std.proofs.Common.{arith}
use Rattle.sweep_core.proofs.Runs.{begins-some}
use Rattle.sweep_core.proofs.profiles.take_pair.Goals as goal

pub returns-clause-rows : goal.returns-clause-rows
returns-clause-rows c = rw (c.in-Some.is, c.min-count.ensures)
    (begins-some c.in_ok-rows.ensures.rows c.in-Some.limit (omega arith))
