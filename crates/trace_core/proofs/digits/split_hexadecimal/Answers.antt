-- The digits in front of a text write their number, and the rest follows.
use Rattle.std.proofs.Common.{arith}
use Rattle.trace_core.proofs.Numbers.{number-front}
use Rattle.trace_core.proofs.digits.split_hexadecimal.Goals as goal

pub returns-clause-parts : goal.returns-clause-parts
returns-clause-parts c =
    let read = c.read_hexadecimal-value in
    number-front 16 16 (omega arith) c.args.text.now read.result.1 read.result.0 _
    read.ensures.value (omega arith) read.ensures.most c.split_at.ensures.back
