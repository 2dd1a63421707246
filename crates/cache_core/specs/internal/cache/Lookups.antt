-- How an access of a cache went, for callers that count hits, misses and evictions alone.
use Rattle.std.specs.Prelude.{◌≡◌, ℕ, Option, is_some, if◌then◌else◌}
use Rattle.trace_core.specs.declared.events.Ref.{Ref}
use Rattle.cache_core.specs.declared.design.Repl.{Repl}
use Rattle.cache_core.specs.declared.outcome.Outcome.{Outcome}
use Rattle.cache_core.specs.declared.simulation.Lookup.{Lookup}
use Rattle.cache_core.specs.declared.simulation.Lookup.TheVariants.{Hit, Miss, MissEviction}
use Rattle.cache_core.specs.cache.Order.{Accesses}
use Rattle.cache_core.specs.cache.Slab.{CacheValue, contents_of}

-- how an access with this outcome went
abbrev pub lookup_of : Outcome → Lookup
lookup_of outcome =
    if outcome.hit then Hit else if is_some outcome.evicted then MissEviction else Miss

-- one access, and how it went
pub record LooksUp {P : Type 0} (policy : P → Option Repl) (numbers : P → ℕ → ℕ)
    (old : CacheValue P) (ref : Ref) (lookup : Lookup) (new : CacheValue P) : Type 0 where
  pub outcome : Outcome
  pub access : Accesses (contents_of policy numbers old) ref outcome
      (contents_of policy numbers new)
  pub told : lookup ≡ lookup_of outcome
