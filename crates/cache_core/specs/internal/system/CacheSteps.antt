-- One reference or one flush at a cache of a system. Only the proofs need these definitions.
use Rattle.std.specs.Prelude.{◌≡◌, ℕ}
use Rattle.std.specs.Option.{option_map}
use Rattle.trace_core.specs.declared.events.Ref.{Ref}
use Rattle.cache_core.specs.declared.outcome.Outcome.{Outcome}
use Rattle.cache_core.specs.declared.system.system_cache.SystemCache.{SystemCache}
use Rattle.cache_core.specs.cache.Order.{Accesses, FlushesCache}
use Rattle.cache_core.specs.system.CacheStats.{stats_after_access, stats_after_flush}
use Rattle.cache_core.specs.system.SystemStands.{system_cache_contents}

-- one reference at a cache of a system
pub record Enters (old : SystemCache) (ref : Ref) (outcome : Outcome)
    (new : SystemCache) : Type 0 where
  pub access : Accesses (system_cache_contents old) ref outcome (system_cache_contents new)
  pub counts : new.stats ≡ stats_after_access ref.access outcome.hit
      (option_map (λ slot. slot.dirty) outcome.evicted) old.stats

-- one flush of it: its dirty lines are copybacks
pub record Empties (old : SystemCache) (dirty : ℕ) (new : SystemCache) : Type 0 where
  pub flush : FlushesCache (system_cache_contents old) dirty (system_cache_contents new)
  pub counts : new.stats ≡ stats_after_flush dirty old.stats
