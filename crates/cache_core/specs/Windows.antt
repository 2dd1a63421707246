-- LRU stack distances (Mattson, Gecsei, Slutz and Traiger 1970): what each reference of a list of
-- events finds before it.
use Rattle.std.specs.Prelude.{ℕ, ◌+◌, ◌^◌, min, Bool, true, false, not, ◌&&◌, ◌==◌, nat_lt, nat_le}
use Rattle.std.specs.Prelude.{if◌then◌else◌, Option, Some, None, List, [], ◌∷◌, ◌++◌, length}
use Rattle.std.specs.Prelude.{filter, reverse, sum_by, count_by, filter_map}
use Rattle.std.specs.List.{before_first, list_any, range_with_len}
use Rattle.trace_core.specs.declared.events.Event.{Event}
use Rattle.trace_core.specs.declared.events.Event.TheVariants as event
use Rattle.cache_core.specs.declared.outcome.Counts.{Counts}
use Rattle.cache_core.specs.Geometry.{GeometryValue, block_of, set_of_block}

-- whether an event is a flush
abbrev pub is_flush : Event → Bool
is_flush (event.Reference r) = false
is_flush event.Flush = true

-- the block of a reference
abbrev pub block_in : GeometryValue → Event → Option ℕ
block_in g (event.Reference r) = Some (block_of g r.addr)
block_in g event.Flush = None

-- the blocks referenced since the last flush, the most recent first
unfoldable pub window : GeometryValue → List Event → List ℕ
window g es = filter_map (block_in g) (before_first is_flush (reverse es))

-- a reference where it occurs in a list of events: its block, and the window before it
pub record Occurrence : Type 0 where
  pub block : ℕ
  pub window : List ℕ

-- the occurrences in a list of events that comes after another one, in order
unfoldable pub occurrences_after : GeometryValue → List Event → List Event → List Occurrence
occurrences_after g before [] = []
occurrences_after g before (event.Reference r ∷ es) =
    record { block = block_of g r.addr; window = window g before } ∷ occurrences_after g (before ++
    event.Reference r ∷ []) es
occurrences_after g before (event.Flush ∷ es) = occurrences_after g (before ++ event.Flush ∷ []) es

-- the occurrences in a list of events, in order: one for each reference
abbrev pub occurrences : GeometryValue → List Event → List Occurrence
occurrences g es = occurrences_after g [] es

-- the different numbers of a list, each where it is first
unfoldable pub distinct : List ℕ → List ℕ
distinct [] = []
distinct (x ∷ xs) = x ∷ filter (λ y. not (y == x)) (distinct xs)

-- the different blocks of set k in a window, the most recent first
unfoldable pub distinct_of_set : GeometryValue → ℕ → List ℕ → List ℕ
distinct_of_set g k w = filter (λ block. set_of_block g block == k) (distinct w)

-- whether the block was referenced before, since the last flush
abbrev pub has_last : Occurrence → Bool
has_last p = list_any (λ block. block == p.block) p.window

-- the stack distance: how many different blocks of its set were referenced since the last reference
-- to the block
abbrev pub distance : GeometryValue → Occurrence → ℕ
distance g p = length (distinct_of_set g (set_of_block g p.block)
    (before_first (λ block. block == p.block) p.window))

-- how many different blocks of its set were referenced before, since the last flush
abbrev pub blocks_seen : GeometryValue → Occurrence → ℕ
blocks_seen g p = length (distinct_of_set g (set_of_block g p.block) p.window)

-- an LRU cache of this geometry hits there
abbrev pub is_hit : GeometryValue → Occurrence → Bool
is_hit g p = has_last p && nat_lt (distance g p) g.e

-- an LRU cache of this geometry evicts a block there
abbrev pub is_evict : GeometryValue → Occurrence → Bool
is_evict g p = not (is_hit g p) && nat_le g.e (blocks_seen g p)

-- the counts of an LRU cache of this geometry
unfoldable pub counts : GeometryValue → List Event → Counts
counts g es = record {
  hits = count_by (is_hit g) (occurrences g es);
  misses = count_by (λ p. not (is_hit g p)) (occurrences g es);
  evictions = count_by (is_evict g) (occurrences g es);
}

-- the comparisons that look for each block among the g.e most recent blocks of its set, from the
-- most recent on
unfoldable pub probes : GeometryValue → List Event → ℕ
probes g es = sum_by (λ p. if is_hit g p then distance g p + 1 else min (blocks_seen g p) g.e)
    (occurrences g es)

-- how many blocks are in all sets, at most g.e in each
unfoldable pub held : GeometryValue → List Event → ℕ
held g es = sum_by (λ k. min (length (distinct_of_set g k (window g es))) g.e)
    (range_with_len 0 (2 ^ g.s))

-- the window after one more event
abbrev pub window_after : GeometryValue → List ℕ → Event → List ℕ
window_after g w (event.Reference r) = block_of g r.addr ∷ w
window_after g w event.Flush = []
