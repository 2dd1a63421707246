-- Worked rows: what a profile holds after some short lists of events, computed.
use Rattle.std.specs.Prelude.{ℕ, ◌≡◌, List, [], ◌∷◌, ◌++◌, fold, map}
use Rattle.std.proofs.Common.{refl}
use Rattle.trace_core.specs.declared.events.Access.TheVariants as access
use Rattle.trace_core.specs.declared.events.Event.{Event}
use Rattle.trace_core.specs.declared.events.Event.TheVariants as event
use Rattle.cache_core.specs.Geometry.{geometry_value}
use Rattle.cache_core.specs.declared.outcome.Counts.{Counts}
use Rattle.profile_core.specs.profile.State.{ProfileState, empty, after_event, fed_of, held_of}
use Rattle.profile_core.specs.profile.State.{counts_at}

abbrev reads : List ℕ → List Event
reads addrs = map (λ addr. event.Reference (record { access = access.Read; addr = addr })) addrs

-- one set of `depth` lines of 16 bytes, after some events
abbrev fed_with : ℕ → List Event → ProfileState
fed_with depth es = fold after_event (empty (geometry_value 0 depth 4)) es

abbrev hits_misses_evictions : ℕ → ℕ → ℕ → Counts
hits_misses_evictions h m e = record { hits = h; misses = m; evictions = e }

-- what the caches of one to three lines count over these, and the references fed, the blocks held
-- and the comparisons
abbrev nearby : ProfileState
nearby = fed_with 3 (reads (16 ∷ 32 ∷ 32 ∷ 34 ∷ 24 ∷ 272 ∷ 528 ∷ 18 ∷ 18 ∷ []))

nearby-row :
    (counts_at nearby 1 ≡ hits_misses_evictions 3 6 5)
    × (counts_at nearby 2 ≡ hits_misses_evictions 4 5 3)
    × (counts_at nearby 3 ≡ hits_misses_evictions 5 4 1)
    × (fed_of nearby ≡ 9) × (held_of nearby ≡ 3) × (nearby.probes ≡ 14)
nearby-row = (refl, refl, refl, refl, refl, refl)

abbrev cyclic : ProfileState
cyclic = fed_with 5 (reads (16 ∷ 32 ∷ 48 ∷ 64 ∷ 16 ∷ 32 ∷ 80 ∷ 16 ∷ 32 ∷ 48 ∷ 64 ∷ 80 ∷ []))

cyclic-row :
    (counts_at cyclic 1 ≡ hits_misses_evictions 0 12 11)
    × (counts_at cyclic 2 ≡ hits_misses_evictions 0 12 10)
    × (counts_at cyclic 3 ≡ hits_misses_evictions 2 10 7)
    × (counts_at cyclic 4 ≡ hits_misses_evictions 4 8 4)
    × (counts_at cyclic 5 ≡ hits_misses_evictions 7 5 0)
    × (held_of cyclic ≡ 5) × (cyclic.probes ≡ 39)
cyclic-row = (refl, refl, refl, refl, refl, refl, refl)

abbrev flushed : ProfileState
flushed = fed_with 3 (reads (16 ∷ 32 ∷ []) ++ event.Flush ∷ reads (16 ∷ []))

flushed-row :
    (counts_at flushed 1 ≡ hits_misses_evictions 0 3 1)
    × (counts_at flushed 2 ≡ hits_misses_evictions 0 3 0)
    × (fed_of flushed ≡ 3) × (held_of flushed ≡ 1) × (flushed.probes ≡ 1)
flushed-row = (refl, refl, refl, refl, refl)
