-- A set is read from its segment, and the segment is written back.
use Rattle.std.proofs.Common.{arith, ◌∙◌, ap, ◌<◌, length}
use Rattle.cache_core.specs.Geometry.{block_of, set_of}
use Rattle.cache_core.specs.cache.Order.{position_of}
use Rattle.cache_core.proofs.TouchedSets.{covers_change}
use Rattle.cache_core.proofs.cache.Slabs.{IsWritten, slab_read, slab_kept, slab_access}
use Rattle.cache_core.proofs.cache.Slabs.{length-sets_of}
use Rattle.cache_core.proofs.cache.DirtyLaw.{slab_dirty}
use Rattle.cache_core.proofs.cache.walked.SearchLaw.{not_held}
use Rattle.cache_core.proofs.cache.walked.miss_slab.Goals as goal
use Rattle.cache_core.proofs.cache.walked.miss_slab.Given.{Over}

pub miss-count-requires-clause-addresses : goal.miss-count-requires-clause-addresses
miss-count-requires-clause-addresses g c = grind (arith, slab_read, length-sets_of)

pub miss-count-requires-clause-none : goal.miss-count-requires-clause-none
miss-count-requires-clause-none g c =
    let lt : c.set_of-number.result < length c.args.filled.now =
    omega (arith, c.set_of-number.ensures.within, c.requires.slab.sets) in
    ap (position_of (block_of c.args.design.geometry c.args.reference.addr))
    (rw (c.e-ways.ensures.value, c.set_of-number.ensures.value)
    (slab_read c.args.design.geometry.e c.args.filled.now
    (set_of c.args.design.geometry c.args.reference.addr) c.args.slots.now
    (rw (← c.set_of-number.ensures.value) lt) c.requires.slab.within))
    ∙ not_held _ c.requires.none

written : (g : Over) (c : goal.After-add_grown g) →
    IsWritten c.args.design c.set_of-number.result c.miss-count.result.1 c.e-ways.result
    c.miss-count.new.set
written g c = record {
  ways_are = c.e-ways.ensures.value;
  within =
      c.set_of-number.ensures.within;
  long = omega arith;
  few = c.miss-count.ensures.within;
}

pub returns-clause-slab : goal.returns-clause-slab
returns-clause-slab g c = slab_kept c.args.design _ _ _ _ _ _ c.requires.slab (written g c)
    c.miss-count.ensures.addresses

pub returns-clause-access : goal.returns-clause-access
returns-clause-access g c =
    slab_access c.args.design _ _ _ _ _ _ c.requires.slab (written g c) _ _ _ _ _ _
    c.set_of-number.ensures.value c.miss-count.ensures.policy
    c.miss-count.ensures.visit

pub returns-clause-dirty : goal.returns-clause-dirty
returns-clause-dirty g c = slab_dirty c.args.design _ _ _ _ _ _ c.requires.slab (written g c) _ _ _
    _ _ c.miss-count.ensures.visit

pub returns-clause-touched : goal.returns-clause-touched
returns-clause-touched g c = grind (arith, covers_change)
