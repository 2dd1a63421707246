-- The value of the digits so far.
use Rattle.trace_core.specs.Fields.{WritesNumber}
use Rattle.trace_core.proofs.digits.more_digits.Given as goal

abbrev pub invariant-loop-at : goal.invariant-loop-at
invariant-loop-at l = WritesNumber l.radix l.text (l.value, l.at)
