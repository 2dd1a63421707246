-- How far the dirty slots of a slab are counted, set by set.
use Rattle.std.proofs.Common.{◌≡◌, ◌+◌, ◌*◌, ◌≤◌, drop}
use Rattle.cache_core.specs.cache.Order.{dirty_slots}
use Rattle.cache_core.specs.internal.cache.Slab.{sets_of}
use Rattle.cache_core.proofs.cache.walked.emptying.count_dirty.Given as goal

abbrev pub invariant-loop-count : goal.invariant-loop-count
invariant-loop-count l = record {
  rest : l.rest ≡ drop (l.count-index * l.ways) l.slots;
  counted : l.dirty + dirty_slots
      (sets_of l.ways l.rest (drop l.count-index l.filled)) ≡ dirty_slots
      (sets_of l.ways l.slots l.filled);
  bound : l.dirty ≤ l.count-index * l.ways;
}
