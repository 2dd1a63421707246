-- Nibbles are below sixteen.
use Rattle.std.proofs.Common.{sym, subst}
use Rattle.std.specs.Int.Digits.{AllBelowBase}
use Rattle.trace_core.proofs.HexadecimalDigits.{nibbles_small}
use Rattle.trace_core.proofs.nibbles.sixteen_digits.Goals as goal

pub digits_of-requires-clause-below : goal.digits_of-requires-clause-below
digits_of-requires-clause-below c = subst (AllBelowBase 16) (sym c.nibbles_of.ensures)
    (nibbles_small 16 c.args.number)
