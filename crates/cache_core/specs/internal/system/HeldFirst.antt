-- Which block the first level holds. Only the proofs need these definitions.
use Rattle.std.specs.Prelude.{Bool, false, Option, Some, None, if◌then◌else◌, is_some}
use Rattle.trace_core.specs.declared.events.Ref.{Ref}
use Rattle.trace_core.specs.Events.{is_fetch}
use Rattle.cache_core.specs.declared.system.system_cache.SystemCache.{SystemCache}
use Rattle.cache_core.specs.internal.cache.Held.{holds_block}

-- whether a first-level cache is there, and holds the block of a reference
abbrev pub first_holds : Option SystemCache → Ref → Bool
first_holds None ref = false
first_holds (Some cache) ref = holds_block cache.cache.design cache.cache.sets ref

-- whether the cache that takes a reference holds its block
abbrev pub first_level_holds :
    Option SystemCache → Option SystemCache → Option SystemCache → Ref → Bool
first_level_holds i d u ref =
    if is_some u then first_holds u ref
    else if is_fetch ref.access then first_holds i ref
    else first_holds d ref
