-- The lines of a text are the pieces between its LFs.
use Rattle.trace_core.proofs.Judging.{lines-pieces}
use Rattle.trace_core.proofs.laws.lines_are_pieces.Goals as goal

pub returns : goal.returns
returns c = lines-pieces
