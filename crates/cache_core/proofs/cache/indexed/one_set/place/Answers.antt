-- A set that is not full gets a slot more, and a full one gives one up.
use Rattle.std.proofs.Common.{◌<◌, ◌+◌, sym, ◌∙◌, length, arith}
use Rattle.std.proofs.lemmas.List.{length-map}
use Rattle.cache_core.specs.internal.cache.Indexed.{counts_of}
use Rattle.cache_core.proofs.cache.indexed.IndexedDeeds.{in_sets, count_is}
use Rattle.cache_core.proofs.TouchedSets.{covers_change}
use Rattle.cache_core.proofs.cache.indexed.one_set.place.Goals as goal

pub returns-then-count-e-clause-touched : goal.returns-then-count-e-clause-touched
returns-then-count-e-clause-touched g c =
    let lt : c.set_of_block-set.result < length (counts_of c.args.order.now.sets) = omega (
      arith,
      length-map c.args.order.now.sets (λ order. length order),
      in_sets c.args.design c.args.index.now c.args.dirty.now c.args.order.now
          c.set_of_block-set.result c.requires.indexed c.set_of_block-set.ensures.within,
    ) in
    rw (c.add_grown.ensures, c.fill.ensures.counts, ← c.count-count.ensures.count)
    (covers_change c.args.touched.now (counts_of c.args.order.now.sets) c.set_of_block-set.result
    c.count-count.result (c.count-count.result + 1) lt
    (c.count-count.ensures.count ∙ sym (count_is c.args.design c.args.index.now c.args.dirty.now
    c.args.order.now c.set_of_block-set.result c.requires.indexed
    c.set_of_block-set.ensures.within)) c.requires.touched)

pub returns-then-count-e-clause-taken : goal.returns-then-count-e-clause-taken
returns-then-count-e-clause-taken g c =
    rw (← c.set_of_block-set.ensures.value) (c.fill.ensures.taken 0)

pub returns-clause-numbers : goal.returns-clause-numbers
returns-clause-numbers g c = c.draw-number.ensures.rest c.replace.result
