use Rattle.std.proofs.Common.{◌+◌, arith}
use Rattle.cache_core.proofs.replacement.Lawful.{written}
use Rattle.worked_examples.proofs.Fronts.{front_exchanged}
use Rattle.worked_examples.proofs.policies.MruReplacement.place.Goals as goal

pub returns-clause-order : goal.returns-clause-order
returns-clause-order c = front_exchanged c.args.set.now c.args.filled c.args.new _ (omega arith)
    c.requires.some

pub returns-clause-index : goal.returns-clause-index
returns-clause-index c = written (c.args.filled + 1) _ 0 _ c.requires.some (omega arith)
