-- No slot is filled after a flush.
use Rattle.std.proofs.Common.{refl, ◌∙◌}
use Rattle.cache_core.proofs.cache.indexed.IndexedEmpty.{flushed_views}
use Rattle.cache_core.proofs.cache.indexed.IndexedCache.flush.Goals as goal

pub returns : goal.returns
returns g c =
    let i = c.self.inside in
    rw (← c.self.view_is) record {
      empty = flushed_views i.index c.empty_sets.new.index i.dirty.items i.order
          c.empty_sets.new.order c.empty_sets.ensures.empty;
      random_numbers = refl;
      counted = c.empty_sets.ensures.counted ∙ rw c.deref.ensures.value refl;
      design = refl;
      policy = refl;
    }
