-- No slot is filled, and no set is listed.
use Rattle.std.proofs.Common.{length}
use Rattle.cache_core.specs.internal.cache.Indexed.{counts_of}
use Rattle.cache_core.proofs.TouchedSets.{covers_none}
use Rattle.cache_core.proofs.cache.indexed.IndexedEmpty.{flushed_indexed, flushed_counts}
use Rattle.cache_core.proofs.cache.indexed.emptying.empty_sets.Goals.{in-Some, in-None}
use Rattle.cache_core.proofs.cache.indexed.emptying.empty_sets.Goals as goal

pub returns-clause-indexed : goal.returns-clause-indexed
returns-clause-indexed c = elim c.match-listed.branch [
  | in-Some w ↦ rw (w.index-is, w.order-is)
      (flushed_indexed c.args.design c.args.index.now c.args.dirty.now c.args.order.now
      w.empty_listed-count.new.index w.empty_listed-count.new.order c.requires.indexed
      w.empty_listed-count.ensures.empty w.empty_listed-count.ensures.held
      w.empty_listed-count.ensures.slots)
  | in-None w ↦ rw (w.index-is, w.order-is)
      (flushed_indexed c.args.design c.args.index.now c.args.dirty.now c.args.order.now
      w.empty_all-count.new.index w.empty_all-count.new.order c.requires.indexed
      w.empty_all-count.ensures.empty w.empty_all-count.ensures.held
      w.empty_all-count.ensures.slots)
]

pub returns-clause-touched : goal.returns-clause-touched
returns-clause-touched c = elim c.match-listed.branch [
  | in-Some w ↦ covers_none c.clear.new.self _
      (length c.args.order.now.sets) (counts_of c.match-listed.order.sets) c.clear.ensures
      (rw w.order-is
      (flushed_counts c.args.order.now w.empty_listed-count.new.order
      w.empty_listed-count.ensures.empty))
  | in-None w ↦ covers_none c.clear.new.self _
      (length c.args.order.now.sets) (counts_of c.match-listed.order.sets) c.clear.ensures
      (rw w.order-is
      (flushed_counts c.args.order.now w.empty_all-count.new.order
      w.empty_all-count.ensures.empty))
]
