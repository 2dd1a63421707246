-- Worked traces: what the look-back windows say of them, and the LRU machine beside them, computed.
use Rattle.std.proofs.Common.{ℕ, ◌≡◌, ◌*◌, List, [], ◌∷◌, map, refl, Some, None, cond}
use Rattle.trace_core.specs.declared.events.Access.TheVariants.{Read}
use Rattle.trace_core.specs.declared.events.Event.{Event}
use Rattle.trace_core.specs.declared.events.Event.TheVariants as event
use Rattle.cache_core.specs.declared.outcome.Counts.{Counts}
use Rattle.cache_core.specs.declared.design.WriteMode.TheVariants.{Back}
use Rattle.cache_core.specs.Geometry.{GeometryValue, geometry_value}
use Rattle.cache_core.specs.Windows.{window, occurrences, occurrences_after, distinct}
use Rattle.cache_core.specs.Windows.{distinct_of_set, has_last, distance, blocks_seen, counts}
use Rattle.cache_core.specs.Windows.{probes, held}
use Rattle.cache_core.specs.cache.Machine.{effects, counts_in}
use Rattle.cache_core.specs.LruLaws.{lru_machine}

abbrev read : ℕ → Event
read a = event.Reference (record { access = Read; addr = a })

abbrev counts_are : ℕ → ℕ → ℕ → Counts
counts_are h m e = record { hits = h; misses = m; evictions = e }

-- 2^s sets of e lines of 16 bytes
abbrev sets_of_lines : ℕ → ℕ → GeometryValue
sets_of_lines s e = geometry_value s e 4

-- the counts of the machine
abbrev machine : ℕ → ℕ → List Event → Counts
machine s e es = counts_in (effects (lru_machine (sets_of_lines s e) Back) es)

-- nine references, at hexadecimal addresses
abbrev nine : List Event
nine = map read (0x10 ∷ 0x20 ∷ 0x20 ∷ 0x22 ∷ 0x18 ∷ 0x110 ∷ 0x210 ∷ 0x12 ∷ 0x12 ∷ [])

nine_distances : map (λ p. cond (has_last p) (Some (distance (sets_of_lines 0 1) p)) None)
    (occurrences (sets_of_lines 0 1) nine)
    ≡ None ∷ None ∷ Some 0 ∷ Some 0 ∷ Some 1 ∷ None ∷ None ∷ Some 2 ∷ Some 0 ∷ []
unfolding window occurrences_after distinct distinct_of_set
nine_distances = refl

nine_seen : map (blocks_seen (sets_of_lines 0 1))
    (occurrences (sets_of_lines 0 1) nine) ≡ 0 ∷ 1 ∷ 2 ∷ 2 ∷ 2 ∷ 2 ∷ 3 ∷ 4 ∷ 4 ∷ []
unfolding window occurrences_after distinct distinct_of_set
nine_seen = refl

nine_in_one_set : map (λ e. counts (sets_of_lines 0 e) nine) (1 ∷ 2 ∷ 3 ∷ 4 ∷ [])
    ≡ counts_are 3 6 5 ∷ counts_are 4 5 3 ∷ counts_are 5 4 1 ∷ counts_are 5 4 0 ∷ []
unfolding counts window occurrences_after distinct distinct_of_set
nine_in_one_set = refl

nine_in_two_sets : map (λ e. counts (sets_of_lines 1 e) nine) (1 ∷ 2 ∷ []) ≡ counts_are 4 5
    3 ∷ counts_are 4 5 2 ∷ []
unfolding counts window occurrences_after distinct distinct_of_set
nine_in_two_sets = refl

nine_by_machine : map (λ e. machine 0 e nine) (1 ∷ 2 ∷ 3 ∷ 4 ∷ [])
    ≡ counts_are 3 6 5 ∷ counts_are 4 5 3 ∷ counts_are 5 4 1 ∷ counts_are 5 4 0 ∷ []
nine_by_machine = refl

nine_by_machine_in_two_sets : map (λ e. machine 1 e nine) (1 ∷ 2 ∷ []) ≡ counts_are 4 5
    3 ∷ counts_are 4 5 2 ∷ []
nine_by_machine_in_two_sets = refl

nine_probes : map (λ e. probes (sets_of_lines 0 e) nine) (1 ∷ 2 ∷ 3 ∷ []) ≡ 8 ∷ 12 ∷ 14 ∷ []
unfolding probes window occurrences_after distinct distinct_of_set
nine_probes = refl

nine_held : map (λ e. held (sets_of_lines 0 e) nine) (1 ∷ 3 ∷ 5 ∷ []) ≡ 1 ∷ 3 ∷ 4 ∷ []
unfolding held window distinct distinct_of_set
nine_held = refl

-- blocks 1, 17 and 33 in one set, and block 2 in the other
nine_held_in_two_sets : map (λ e. held (sets_of_lines 1 e) nine) (1 ∷ 2 ∷ 4 ∷ []) ≡ 2 ∷ 3 ∷ 4 ∷ []
unfolding held window distinct distinct_of_set
nine_held_in_two_sets = refl

-- twelve references to five blocks, by which FIFO misses more with four lines than with three
-- (Belady and others 1969)
abbrev pub twelve : List Event
twelve = map (λ a. read (16 * a)) (1 ∷ 2 ∷ 3 ∷ 4 ∷ 1 ∷ 2 ∷ 5 ∷ 1 ∷ 2 ∷ 3 ∷ 4 ∷ 5 ∷ [])

twelve_counts : map (λ e. counts (sets_of_lines 0 e) twelve) (1 ∷ 2 ∷ 3 ∷ 4 ∷ 5 ∷ [])
    ≡ counts_are 0 12 11 ∷ counts_are 0 12 10 ∷ counts_are 2 10 7 ∷ counts_are 4 8
    4 ∷ counts_are 7 5 0 ∷ []
unfolding counts window occurrences_after distinct distinct_of_set
twelve_counts = refl

twelve_by_machine : map (λ e. machine 0 e twelve) (3 ∷ 4 ∷ 5 ∷ []) ≡ counts_are 2 10 7 ∷ counts_are
    4 8 4 ∷ counts_are 7 5 0 ∷ []
twelve_by_machine = refl

twelve_probes : probes (sets_of_lines 0 5) twelve ≡ 39
unfolding probes window occurrences_after distinct distinct_of_set
twelve_probes = refl

twelve_held : held (sets_of_lines 0 5) twelve ≡ 5
unfolding held window distinct distinct_of_set
twelve_held = refl

-- blocks from before a flush are neither seen nor held
abbrev with_a_flush : List Event
with_a_flush = read 0x10 ∷ read 0x20 ∷ event.Flush ∷ read 0x10 ∷ []

flushed_counts : map (λ e. counts (sets_of_lines 0 e) with_a_flush) (1 ∷ 2 ∷ []) ≡ counts_are 0 3
    1 ∷ counts_are 0 3 0 ∷ []
unfolding counts window occurrences_after distinct distinct_of_set
flushed_counts = refl

flushed_by_machine : map (λ e. machine 0 e with_a_flush) (1 ∷ 2 ∷ []) ≡ counts_are 0 3
    1 ∷ counts_are 0 3 0 ∷ []
flushed_by_machine = refl

flushed_probes : probes (sets_of_lines 0 3) with_a_flush ≡ 1
unfolding probes window occurrences_after distinct distinct_of_set
flushed_probes = refl

flushed_held : held (sets_of_lines 0 3) with_a_flush ≡ 1
unfolding held window distinct distinct_of_set
flushed_held = refl
