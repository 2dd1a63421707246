-- No slot is filled, and no set is listed.
use Rattle.std.proofs.Common.{Some, ap, sym, ◌∙◌, arith, replicate, []}
use Rattle.cache_core.specs.internal.cache.SlotOrder.{OrderValue}
use Rattle.cache_core.specs.internal.cache.Indexed.{counts_of}
use Rattle.cache_core.proofs.TouchedSets.{covers_none}
use Rattle.cache_core.proofs.cache.indexed.IndexedEmpty.{new_indexed, new_counts, new_views}
use Rattle.cache_core.proofs.cache.indexed.IndexedEmpty.{made_ways}
use Rattle.cache_core.proofs.cache.indexed.IndexedCache.new.Goals as goal

pub invariant_of-result : goal.invariant_of-result
invariant_of-result g c =
    let made = made_ways c.in_ok-order.order c.name.result c.e.result c.args.geometry.e
    c.sets-sets.result c.in_ok-order.ensures c.e.ensures.value in (
      new_indexed (record {
        geometry = c.args.geometry;
        write = c.args.write;
        allocate = c.args.allocate;
      }) c.in_ok-index.index c.in_ok-dirty.dirty.items c.in_ok-order.order c.name.result
          c.sets-sets.result c.lines-lines.result c.lines-lines.ensures.limits c.sets-sets.ensures
          c.lines-lines.ensures.value c.in_ok-index.ensures (omega
          (arith, c.in_ok-dirty.ensures.len))
          made,
      covers_none c.in_ok-touched.touched _ c.sets-sets.result (counts_of c.in_ok-order.order.sets)
          c.in_ok-touched.ensures (new_counts c.in_ok-order.order c.name.result c.args.geometry.e
          c.sets-sets.result made),
      c.name.ensures ∙ ap (λ p. Some p) (sym (ap (λ (o : OrderValue). o.policy) made)),
    )

pub returns-clause-empty : goal.returns-clause-empty
returns-clause-empty g c =
    new_views c.in_ok-index.index c.in_ok-dirty.dirty.items c.in_ok-order.order c.name.result
    c.args.geometry.e c.sets-sets.result (made_ways c.in_ok-order.order c.name.result c.e.result
    c.args.geometry.e c.sets-sets.result c.in_ok-order.ensures c.e.ensures.value)
    ∙ ap (λ n. replicate n []) c.sets-sets.ensures
