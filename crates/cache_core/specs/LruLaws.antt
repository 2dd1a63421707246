-- The LRU machine with write-allocate, and what look-back windows say of it.
use Rattle.std.specs.Prelude.{ℕ, ◌≡◌, ◌≤◌, ◌+◌, Bool, List, map, is_some, IsTrue}
use Rattle.std.specs.List.{list_any}
use Rattle.trace_core.specs.declared.events.Ref.{Ref}
use Rattle.trace_core.specs.declared.events.Event.{Event}
use Rattle.cache_core.specs.declared.design.WriteMode.{WriteMode}
use Rattle.cache_core.specs.declared.design.AllocMode.TheVariants.{Always}
use Rattle.cache_core.specs.declared.design.Repl.TheVariants.{Lru}
use Rattle.cache_core.specs.Geometry.{GeometryValue, block_of}
use Rattle.cache_core.specs.cache.Machine.{Machine, MachineState, run, step, effects, counts_in}
use Rattle.cache_core.specs.cache.Machine.{is_block}
use Rattle.cache_core.specs.Windows.{Occurrence, window, occurrences, is_hit, is_evict, counts}

-- the machine of an LRU cache with write-allocate
abbrev pub lru_machine : GeometryValue → WriteMode → Machine
lru_machine g write = record {
  design = record { geometry = g; write = write; allocate = Always };
  policy = Lru;
  random_numbers = λ n. 0;
}

-- whether a block is held
abbrev pub is_held : MachineState → ℕ → Bool
is_held st block = list_any (is_block block) st.lines

-- one more reference, as it occurs after the list
abbrev pub occurrence_after : GeometryValue → List Event → Ref → Occurrence
occurrence_after g events ref = record { block = block_of g ref.addr; window = window g events }

-- the effect of one more reference is what the windows say
abbrev pub NextLaw : Type 0
NextLaw = (g : GeometryValue) (write : WriteMode) (events : List Event) (ref : Ref) → 1 ≤ g.e →
    let m = lru_machine g write in
    ((step m (run m events) ref).effect.hit ≡ is_hit g (occurrence_after g events ref))
    × (is_some (step m (run m events) ref).effect.evicted ≡ is_evict g
    (occurrence_after g events ref))

-- the machine hits exactly if the windows say so
abbrev pub HitLaw : Type 0
HitLaw = (g : GeometryValue) (write : WriteMode) (events : List Event) → 1 ≤ g.e
    → map (λ a. a.hit) (effects (lru_machine g write) events) ≡ map (is_hit g)
    (occurrences g events)

-- a block is evicted exactly if the windows say so
abbrev pub VictimLaw : Type 0
VictimLaw = (g : GeometryValue) (write : WriteMode) (events : List Event) → 1 ≤ g.e
    → map (λ a. is_some a.evicted) (effects (lru_machine g write) events) ≡ map (is_evict g)
    (occurrences g events)

-- so the counts are equal
abbrev pub CountLaw : Type 0
CountLaw = (g : GeometryValue) (write : WriteMode) (events : List Event) → 1 ≤ g.e
    → counts_in (effects (lru_machine g write) events) ≡ counts g events

-- a cache hits all that one with a line less in each set hits
abbrev pub HitInclusion : Type 0
HitInclusion = (g : GeometryValue) (p : Occurrence) → IsTrue (is_hit g p) →
    IsTrue (is_hit (record g { e = g.e + 1 }) p)

-- a cache holds, after a list of events, all that one with a line less in each set holds (Mattson
-- and others 1970)
abbrev pub HeldInclusion : Type 0
HeldInclusion = (g : GeometryValue) (write : WriteMode) (events : List Event) (block : ℕ) → 1 ≤ g.e
    → IsTrue (is_held (run (lru_machine g write) events) block)
    → IsTrue (is_held (run (lru_machine (record g { e = g.e + 1 }) write) events) block)
