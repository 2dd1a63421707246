-- A cache under a named policy, whose sets are walked over or whose blocks are found by an index.
use Rattle.cache_core.specs.declared.cache.chosen.Kept.{Kept}
use Rattle.cache_core.specs.declared.cache.chosen.Kept.TheVariants.{Walked, Indexed}
use Rattle.cache_core.specs.cache.Slab.{CacheValue}

-- the cache, whichever it is
abbrev pub cache_kept : {P : Type 0} → Kept P → CacheValue P
cache_kept (Walked cache) = cache
cache_kept (Indexed cache) = cache
