-- A touch that keeps LRU's order keeps the slots.
use Rattle.std.proofs.Common.{Some}
use Rattle.cache_core.specs.declared.design.Repl.TheVariants.{Lru}
use Rattle.cache_core.proofs.replacement.Lawful.{lawful_touch}
use Rattle.worked_examples.proofs.policies.MruReplacement.touch.Goals as goal

pub returns-clause-order : goal.returns-clause-order
returns-clause-order c = lawful_touch (Some Lru) c.args.set.now c.args.at _ c.requires
    c.touch.ensures.order
