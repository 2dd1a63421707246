-- The state of a profile, and how a reference and a flush change it.
use Rattle.std.specs.Prelude.{ℕ, ◌+◌, ◌^◌, min, if◌then◌else◌, List, [], length, take, drop}
use Rattle.std.specs.Prelude.{sum, sum_by, replicate, slice_set, slice_index, slice_index_or}
use Rattle.trace_core.specs.declared.events.Event.{Event}
use Rattle.trace_core.specs.declared.events.Event.TheVariants as event
use Rattle.cache_core.specs.declared.outcome.Counts.{Counts}
use Rattle.cache_core.specs.Geometry.{GeometryValue, block_of, set_of_block}
use Rattle.profile_core.specs.profile.RecencyList.{index_of, is_in, move_to_front}

-- For each set a list of at most geometry.e blocks, the most recent first; how many references
-- found their block at each stack distance, which is its index in the list; how many did not find
-- it, by the length of the list; and how many comparisons are counted.
pub record ProfileState : Type 0 where
  pub geometry : GeometryValue
  pub lists : List (List ℕ)
  pub distances : List ℕ
  pub misses_by_occupancy : List ℕ
  pub probes : ℕ

-- a profile to which nothing was fed
abbrev pub empty : GeometryValue → ProfileState
empty g = record {
  geometry = g;
  lists = replicate (2 ^ g.s) [];
  distances = replicate g.e 0;
  misses_by_occupancy = replicate (g.e + 1) 0;
  probes = 0;
}

-- the list of a set
abbrev pub list_of : ProfileState → ℕ → List ℕ
list_of v k = slice_index_or v.lists k []

-- with one more counted at an index
abbrev pub one_more_at : List ℕ → ℕ → List ℕ
one_more_at ns i = slice_set ns i (slice_index ns i + 1)

-- after a reference to block x, whose set has the list xs
abbrev pub after_reference_in_list : ProfileState → ℕ → List ℕ → ProfileState
after_reference_in_list v x xs = record v {
  lists = slice_set v.lists (set_of_block v.geometry x) (take v.geometry.e (move_to_front x xs));
  distances = if is_in x xs then one_more_at v.distances (index_of x xs) else v.distances;
  misses_by_occupancy = if is_in x xs then v.misses_by_occupancy else one_more_at
      v.misses_by_occupancy (length xs);
  probes = v.probes + min (index_of x xs + 1) (length xs);
}

-- after a reference to a block
abbrev pub after_reference : ProfileState → ℕ → ProfileState
after_reference v x = after_reference_in_list v x (list_of v (set_of_block v.geometry x))

-- after a flush
abbrev pub after_flush : ProfileState → ProfileState
after_flush v = record v { lists = replicate (2 ^ v.geometry.s) [] }

-- after an event
abbrev pub after_event : ProfileState → Event → ProfileState
after_event v (event.Reference r) = after_reference v (block_of v.geometry r.addr)
after_event v event.Flush = after_flush v

-- the references fed
abbrev pub fed_of : ProfileState → ℕ
fed_of v = sum v.distances + sum v.misses_by_occupancy

-- the blocks in all lists
abbrev pub held_of : ProfileState → ℕ
held_of v = sum_by length v.lists

-- The counts of an LRU cache of e lines per set (Mattson 1970). A reference found at a distance
-- below e hits, and any other misses. A miss evicts if e blocks or more had been seen.
abbrev pub counts_at : ProfileState → ℕ → Counts
counts_at v e = record {
  hits = sum (take e v.distances);
  misses = sum (drop e v.distances) + sum v.misses_by_occupancy;
  evictions = sum (drop e v.distances) + sum (drop e v.misses_by_occupancy);
}

-- the sums of both histograms up to an associativity, and the references fed
pub record HitSumsState : Type 0 where
  pub ways : ℕ
  pub hits : ℕ
  pub free_misses : ℕ
  pub fed : ℕ

-- the sums of a profile's histograms up to an associativity
abbrev pub hit_sums_at : ProfileState → ℕ → HitSumsState
hit_sums_at v e = record {
  ways = e;
  hits = sum (take e v.distances);
  free_misses =
      sum (take e v.misses_by_occupancy);
  fed = fed_of v;
}
