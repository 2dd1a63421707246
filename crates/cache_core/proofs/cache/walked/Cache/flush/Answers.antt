-- A flushed cache has no filled slot, and lists no set.
use Rattle.std.proofs.Common.{◌≡◌, ◌++◌, ◌^◌, ◌∙◌, arith, sym, refl, ap, [], length, take, drop}
use Rattle.std.proofs.Common.{replicate}
use Rattle.cache_core.proofs.cache.Slabs.{slab_made, sets_of-empty, length-sets_of, none_filled}
use Rattle.cache_core.proofs.TouchedSets.{covers_none}
use Rattle.cache_core.proofs.cache.walked.Cache.flush.Goals as goal
use Rattle.cache_core.proofs.cache.walked.Cache.flush.Given.{Over}

none_left : (g : Over) (c : goal.After-self-1 g) →
    take c.self.inside.filled.len (c.empty_slab.new.filled ++ drop (length c.empty_slab.new.filled)
    c.self.inside.filled.items)
    ≡ replicate (2 ^ c.self.inside.design.geometry.s) 0
none_left g c = grind (arith, none_filled)

pub invariant_of-self : goal.invariant_of-self
invariant_of-self g c =
    let known = c.self.invariant.0 in (
      slab_made _ _ _ known.geometry known.segments (none_left g c),
      covers_none c.empty_slab.new.touched _ _ _ c.empty_slab.ensures.touched (none_left g c),
    )

pub returns : goal.returns
returns g c =
    let i = c.self.inside in
    let n = i.design.geometry.e in
    rw (none_left g c, ← c.self.view_is) record {
      empty = sets_of-empty n _ i.slots.items ∙ ap (λ m. replicate m [])
          (sym (length-sets_of n i.filled.items i.slots.items ∙ c.self.invariant.0.sets));
      random_numbers = refl;
      counted = c.empty_slab.ensures.counted ∙ rw (
        c.e-ways.ensures.value,
        c.deref.ensures.value,
        c.deref_mut.ensures.value,
      ) refl;
      design = refl;
      policy = refl;
    }
