-- Random takes the next free way, or the way that its next random number names.
use Rattle.std.proofs.Common.{arith}
use Rattle.cache_core.proofs.replacement.Lawful.{exchange_full}
use Rattle.cache_core.proofs.replacement.RandomReplacement.place.Goals as goal

pub returns-clause-order : goal.returns-clause-order
returns-clause-order c =
    exchange_full c.args.set.now c.args.filled c.next_number.result _ c.args.new _ (omega arith)
    c.requires.some c.next_number.ensures.number
