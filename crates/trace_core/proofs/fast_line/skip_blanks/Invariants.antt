-- What was passed over is blank.
use Rattle.std.proofs.Common.{◌≡◌, ℕ, true, List, ◌++◌, length}
use Rattle.std.specs.List.{list_all}
use Rattle.trace_core.specs.Fields.{is_blank}
use Rattle.trace_core.proofs.fast_line.skip_blanks.Given as goal

abbrev pub invariant-loop-rest : goal.invariant-loop-rest
invariant-loop-rest l = (blanks : List ℕ) × (l.bytes ≡ blanks ++ l.rest) ×
    (list_all is_blank blanks ≡ true)

abbrev pub decreases-loop-rest : goal.decreases-loop-rest
decreases-loop-rest l = length l.rest
