-- Worked logs of systems of caches, computed.
use Rattle.std.proofs.Common.{[], ◌∷◌, Some, None, ◌≡◌, refl, true, false}
use Rattle.trace_core.specs.declared.events.Event.TheVariants as event
use Rattle.trace_core.specs.declared.events.Access.TheVariants.{Fetch, Read, Write}
use Rattle.trace_core.specs.Events.{at}
use Rattle.cache_core.specs.declared.system.arrival.Arrival.TheVariants.{Cache, Memory, Bypassed}
use Rattle.cache_core.specs.declared.system.arrival.Arrival.TheVariants.{Flush}
use Rattle.cache_core.specs.declared.design.Repl.TheVariants.{Lru}
use Rattle.cache_core.specs.declared.design.WriteMode.TheVariants.{Back}
use Rattle.cache_core.specs.declared.design.AllocMode.TheVariants.{Always}
use Rattle.cache_core.specs.declared.system.plan.CacheName.TheVariants.{L1D, L1U, L2U}
use Rattle.cache_core.specs.system.Arrivals.{arrivals}
use Rattle.cache_core.proofs.cache.MachineRows.{read, write, fetch}
use Rattle.cache_core.proofs.system.SystemRows.{planned, one, unified}

-- a written block is evicted, and copied back before the other block is loaded
written_block_is_evicted : arrivals (unified one None) 42 (write 0 ∷ read 0x10 ∷ [])
    ≡ Cache L1U (at Write 0) false None ∷ Memory (at Read 0)
    ∷ Cache L1U (at Read 0x10) false (Some (record { addr = 0; dirty = true })) ∷ Memory
    (at Write 0) ∷ Memory (at Read 0x10) ∷ []
written_block_is_evicted = refl

-- a fetch that no cache takes, a second level, and a flush
two_levels : arrivals (record {
  i = None;
  d = Some one;
  u = None;
  second =
      Some (planned 2 Lru Back Always);
}) 42
    (fetch 0 ∷ write 0x24 ∷ read 0x10 ∷ event.Flush ∷ [])
    ≡ Bypassed (at Fetch 0)
    ∷ Cache L1D (at Write 0x24) false None ∷ Cache L2U (at Read 0x20) false None ∷ Memory
    (at Read 0x20)
    ∷ Cache L1D (at Read 0x10) false (Some (record { addr = 0x20; dirty = true }))
    ∷ Cache L2U (at Write 0x20) true None ∷ Cache L2U (at Read 0x10) false None ∷ Memory
    (at Read 0x10)
    ∷ Flush L1D 0 ∷ Flush L2U 1 ∷ []
two_levels = refl
