-- What the law on the lines of the log allows, and what it refuses, computed.
use Rattle.std.proofs.Common.{ℕ, [], ◌∷◌, List, Some, None, ◌≡◌, refl, ap, arith, true, false}
use Rattle.trace_core.specs.declared.events.Ref.{Ref}
use Rattle.trace_core.specs.declared.events.Event.TheVariants as event
use Rattle.trace_core.specs.declared.events.Access.TheVariants.{Fetch, Read, Write}
use Rattle.trace_core.specs.Events.{at}
use Rattle.cache_core.specs.declared.system.arrival.Victim.{Victim}
use Rattle.cache_core.specs.declared.system.arrival.Arrival.{Arrival}
use Rattle.cache_core.specs.declared.system.arrival.Arrival.TheVariants.{Cache, Memory, Bypassed}
use Rattle.cache_core.specs.declared.system.arrival.Arrival.TheVariants.{Flush}
use Rattle.cache_core.specs.declared.design.Repl.TheVariants.{Lru}
use Rattle.cache_core.specs.declared.design.WriteMode.TheVariants.{Back}
use Rattle.cache_core.specs.declared.design.AllocMode.TheVariants.{Always}
use Rattle.cache_core.specs.declared.system.plan.PlannedCache.{PlannedCache}
use Rattle.cache_core.specs.declared.system.plan.CacheName.TheVariants.{L1D, L1U, L2U}
use Rattle.cache_core.specs.system.Plans.{PlannedCaches}
use Rattle.cache_core.specs.system.Arrivals.{arrivals}
use Rattle.cache_core.specs.system.LogLaws.{Follow}
use Rattle.cache_core.proofs.cache.MachineRows.{read, write, fetch}
use Rattle.cache_core.proofs.system.SystemRows.{one, unified}

-- a cache of this geometry
abbrev cache : ℕ → ℕ → ℕ → PlannedCache
cache s e b = record {
  design = record {
    geometry = record { s = s; e = e; b = b };
    write =
        Back;
    allocate = Always;
  };
  policy = Lru;
}

-- two sets of a line of 16 bytes above one set of two lines of 32 bytes
abbrev two_sets : PlannedCaches
two_sets = record { i = None; d = Some (cache 1 1 4); u = None; second = Some (cache 0 2 5) }

-- the victims of both levels by their addresses, and a copyback that makes a line of the second
-- level dirty
victims_of_two_levels : arrivals two_sets 42
    (write 0x48 ∷ fetch 0x401136 ∷ read 0x6c ∷ read 0x9f ∷ read 0x2c ∷ write
    0x9a ∷ event.Flush ∷ [])
    ≡ Cache L1D (at Write 0x48) false None ∷ Cache L2U (at Read 0x40) false None ∷ Memory
    (at Read 0x40)
    ∷ Bypassed (at Fetch 0x401136)
    ∷ Cache L1D (at Read 0x6c) false (Some (record { addr = 0x40; dirty = true }))
    ∷ Cache L2U (at Write 0x40) true None ∷ Cache L2U (at Read 0x60) false None ∷ Memory
    (at Read 0x60)
    ∷ Cache L1D (at Read 0x9f) false None
    ∷ Cache L2U (at Read 0x90) false (Some (record { addr = 0x40; dirty = true })) ∷ Memory
    (at Write 0x40) ∷ Memory (at Read 0x80)
    ∷ Cache L1D (at Read 0x2c) false (Some (record { addr = 0x60; dirty = false }))
    ∷ Cache L2U (at Read 0x20) false (Some (record { addr = 0x60; dirty = false })) ∷ Memory
    (at Read 0x20)
    ∷ Cache L1D (at Write 0x9a) true None
    ∷ Flush L1D 1 ∷ Flush L2U 0 ∷ []
victims_of_two_levels = refl

-- the lines of a write and a read at one line of 16 bytes, with this victim and these lines of
-- memory
abbrev lines : Victim → List Arrival → List Arrival
lines victim memory =
    Cache L1U (at Write 0x48) false None ∷ Memory (at Read 0x40) ∷ Cache L1U (at Read 0x6c) false
    (Some victim) ∷ memory

abbrev LinesFollow : Victim → List Arrival → Type 0
LinesFollow victim memory = Follow (unified one None) [] [] (lines victim memory)

right_lines_follow : LinesFollow (record { addr = 0x40; dirty = true })
    (Memory (at Write 0x40) ∷ Memory (at Read 0x60) ∷ [])
right_lines_follow = (refl, (refl, (refl, tt)))

-- with the number of the victim's block in the place of its address
block_number_is_refused : LinesFollow (record { addr = 4; dirty = true })
    (Memory (at Write 0x40) ∷ Memory (at Read 0x60) ∷ []) → ⊥
block_number_is_refused f = omega (arith, ap (λ (r : Ref). r.addr) f.1.0)

-- with two lines exchanged
exchanged_lines_are_refused : LinesFollow (record { addr = 0x40; dirty = true })
    (Memory (at Read 0x60) ∷ Memory (at Write 0x40) ∷ []) → ⊥
exchanged_lines_are_refused f = omega (arith, ap (λ (r : Ref). r.addr) f.1.0)

-- with another address at memory
other_address_is_refused : LinesFollow (record { addr = 0x40; dirty = true })
    (Memory (at Write 0x40) ∷ Memory (at Read 0x6c) ∷ []) → ⊥
other_address_is_refused f = omega (arith, ap (λ (r : Ref). r.addr) f.1.1.0)

-- with a line left out
missing_line_is_refused : LinesFollow (record { addr = 0x40; dirty = true })
    (Memory (at Write 0x40) ∷ []) → ⊥
missing_line_is_refused f = f.1.1
