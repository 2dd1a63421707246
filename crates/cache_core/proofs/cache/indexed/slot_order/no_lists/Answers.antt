-- No slot is filled, whatever lists there are.
use Rattle.cache_core.proofs.cache.indexed.SlotOrderDeeds.{if_ok, made_kept, made_sets, random_made}
use Rattle.cache_core.proofs.cache.indexed.SlotOrderDeeds.{random_sets}
use Rattle.cache_core.proofs.cache.indexed.slot_order.no_lists.Goals as goal

pub returns-in-Lru : goal.returns-in-Lru
returns-in-Lru c = record {
  kept = if_ok c.new.result _ _ (λ lists e. made_kept c.args.policy c.args.ways c.args.sets lists
      c.requires.few e) c.new.ensures;
  empty = if_ok c.new.result _ _ (λ lists e. made_sets c.args.policy c.args.ways c.args.sets lists
      e) c.new.ensures;
}

pub returns-in-Random-clause-kept : goal.returns-in-Random-clause-kept
returns-in-Random-clause-kept c = if_ok c.new-in-Random.result _ _
    (λ lists e. random_made c.args.policy c.args.ways c.args.sets lists c.in-Random.is
    c.requires.few) c.new-in-Random.ensures

pub returns-in-Random-clause-empty : goal.returns-in-Random-clause-empty
returns-in-Random-clause-empty c = if_ok c.new-in-Random.result _ _
    (λ lists e. random_sets c.args.policy c.args.ways c.args.sets lists c.in-Random.is)
    c.new-in-Random.ensures
