use Rattle.std.proofs.Common.{◌+◌, Some, None, arith, length-take}
use Rattle.std.proofs.lemmas.List.{take_more_set}
use Rattle.cache_core.specs.declared.design.Repl.TheVariants.{Random}
use Rattle.callers.proofs.Lasts.{last_exchanged, written}
use Rattle.callers.proofs.policies.LruInsertionReplacement.place.Goals as goal

-- a free slot is taken in order, as random does
pub returns-then-filled-set-clause-order : goal.returns-then-filled-set-clause-order
returns-then-filled-set-clause-order c =
    c.slots_are_kept.ensures.place (Some Random) 0 _ _ _ None _ c.requires.some (
      omega (arith, length-take c.args.filled c.args.set.now),
      take_more_set c.args.set.now c.args.filled _ c.if-filled-set.true,
    )

pub returns-then-filled-set-clause-index : goal.returns-then-filled-set-clause-index
returns-then-filled-set-clause-index c = written (c.args.filled + 1) _ _ _ c.if-filled-set.true
    (omega arith)

pub returns-clause-order : goal.returns-clause-order
returns-clause-order c = last_exchanged c.args.set.now c.args.filled c.args.new _ (omega arith)
    c.requires.some

pub returns-clause-index : goal.returns-clause-index
returns-clause-index c = written (c.args.filled + 1) _ _ _ (omega arith) (omega arith)
