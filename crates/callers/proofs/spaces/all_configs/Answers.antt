use Rattle.std.proofs.Common.{None}
use Rattle.std.proofs.lemmas.Iterator.{items_from_collect}
use Rattle.std.proofs.lemmas.Iterator.Consumers.{YieldsList-from_first}
use Rattle.sweep_core.specs.Table.{table}
use Rattle.callers.proofs.spaces.all_configs.Goals as goal

pub returns : goal.returns
returns c = record {
  table = items_from_collect c.collect.result c.collect.ensures.ran
      (YieldsList-from_first (λ x. x) (λ x. x) (table c.args.space.now None)
      c.configs.ensures.table);
}
