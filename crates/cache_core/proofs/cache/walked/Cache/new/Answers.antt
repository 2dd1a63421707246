-- A new cache has no filled slot, and lists no set.
use Rattle.std.proofs.Common.{replicate, ◌^◌, ◌∙◌, ap, ◌≡◌, arith}
use Rattle.cache_core.proofs.cache.Slabs.{slab_made, sets_of-empty}
use Rattle.cache_core.proofs.TouchedSets.{covers_none}
use Rattle.cache_core.proofs.cache.walked.Cache.new.Goals as goal
use Rattle.cache_core.proofs.cache.walked.Cache.new.Given.{Over}

none_filled : (g : Over) (c : goal.In_ok-touched g) → c.in_ok-filled.filled.items ≡ replicate
    (2 ^ c.args.geometry.s) 0
none_filled g c = c.in_ok-filled.ensures ∙ ap (λ n. replicate n 0) c.sets.ensures

pub invariant_of-result : goal.invariant_of-result
invariant_of-result g c =
    let l = c.in_ok-slots.ensures in (
      slab_made _ _ _ c.lines.ensures.limits (omega (arith, l.len)) (none_filled g c),
      covers_none c.in_ok-touched.touched _ _ _ c.in_ok-touched.ensures (none_filled g c),
    )

pub returns-clause-empty : goal.returns-clause-empty
returns-clause-empty g c = rw (none_filled g c)
    (sets_of-empty c.args.geometry.e _ c.in_ok-slots.slots.items)
