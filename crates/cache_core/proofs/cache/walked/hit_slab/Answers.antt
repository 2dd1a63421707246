-- A set is read from its segment, and the segment is written back. As many slots are filled.
use Rattle.std.proofs.Common.{arith, ◌∙◌, ap, ◌<◌, length}
use Rattle.cache_core.specs.Geometry.{block_of, set_of}
use Rattle.cache_core.specs.cache.Order.{position_of}
use Rattle.cache_core.proofs.cache.Slabs.{slab_read, length-sets_of}
use Rattle.cache_core.proofs.cache.walked.SlabHit.{hit_kept, hit_access, hit_dirty}
use Rattle.cache_core.proofs.cache.walked.hit_slab.Goals as goal

pub hit-requires-clause-addresses : goal.hit-requires-clause-addresses
hit-requires-clause-addresses g c = grind (arith, slab_read, length-sets_of)

pub hit-requires-clause-at : goal.hit-requires-clause-at
hit-requires-clause-at g c =
    let lt : c.set_of-number.result < length c.args.filled.now =
    omega (arith, c.set_of-number.ensures.within, c.requires.slab.sets) in
    ap (position_of (block_of c.args.design.geometry c.args.reference.addr))
    (rw (c.e-ways.ensures.value, c.set_of-number.ensures.value)
    (slab_read c.args.design.geometry.e c.args.filled.now
    (set_of c.args.design.geometry c.args.reference.addr) c.args.slots.now
    (rw (← c.set_of-number.ensures.value) lt) c.requires.slab.within))
    ∙ c.requires.at

pub returns-clause-slab : goal.returns-clause-slab
returns-clause-slab g c =
    hit_kept c.args.design c.args.filled.now c.set_of-number.result c.e-ways.result
    c.args.slots.now c.hit.new.set c.requires.slab c.e-ways.ensures.value
    c.set_of-number.ensures.within (omega arith) c.hit.ensures.addresses

pub returns-clause-access : goal.returns-clause-access
returns-clause-access g c =
    hit_access c.args.design c.args.filled.now c.set_of-number.result c.e-ways.result
    c.args.slots.now c.hit.new.set c.requires.slab c.e-ways.ensures.value
    c.set_of-number.ensures.within (omega arith) _ _ _ _ c.args.reference c.hit.result
    c.hit.ensures.visit
    c.set_of-number.ensures.value c.hit.ensures.policy

pub returns-clause-dirty : goal.returns-clause-dirty
returns-clause-dirty g c =
    hit_dirty c.args.design c.args.filled.now c.set_of-number.result c.e-ways.result
    c.args.slots.now c.hit.new.set c.requires.slab c.e-ways.ensures.value
    c.set_of-number.ensures.within (omega arith) _ (g.P.Replacement.policy c.args.policy.now) _ _
    c.args.reference c.hit.result c.hit.ensures.visit
