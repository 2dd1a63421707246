-- The lists of events that a profile stands for.
use Rattle.std.specs.Prelude.{ℕ, ◌≡◌, ◌≤◌, ◌<◌, ◌^◌, ◌+◌, ◌==◌, ◌&&◌, not, min, List, length, take}
use Rattle.std.specs.Prelude.{count_by, slice_index}
use Rattle.trace_core.specs.declared.events.Event.{Event}
use Rattle.cache_core.specs.Geometry.{GeometryValue, IsGeometry}
use Rattle.cache_core.specs.Windows.{window, occurrences, distinct_of_set, has_last, distance}
use Rattle.cache_core.specs.Windows.{blocks_seen, is_hit, probes}
use Rattle.profile_core.specs.profile.State.{ProfileState, list_of}

-- how many references found their block at stack distance d
abbrev pub found_at : GeometryValue → List Event → ℕ → ℕ
found_at g es d = count_by (λ p. has_last p && (distance g p == d)) (occurrences g es)

-- how many did not find it in a list of n blocks: those seen, at most g.e
abbrev pub not_found_at : GeometryValue → List Event → ℕ → ℕ
not_found_at g es n = count_by (λ p. not (is_hit g p) && (min (blocks_seen g p) g.e == n))
    (occurrences g es)

-- each list is the first geometry.e of its set's different blocks since the last flush, the most
-- recent first (an LRU stack of Mattson 1970), and the numbers count the references of the events
pub record ProfileStandsFor (es : List Event) (v : ProfileState) : Type 0 where
  pub geometry : IsGeometry v.geometry
  pub set_count : length v.lists ≡ 2 ^ v.geometry.s
  pub lists : (k : ℕ) → k < 2 ^ v.geometry.s →
      list_of v k ≡ take v.geometry.e (distinct_of_set v.geometry k (window v.geometry es))
  pub distance_count : length v.distances ≡ v.geometry.e
  pub distances : (d : ℕ) → d < v.geometry.e → slice_index v.distances d ≡ found_at v.geometry es d
  pub occupancy_count : length v.misses_by_occupancy ≡ v.geometry.e + 1
  pub misses_by_occupancy : (n : ℕ) → n ≤ v.geometry.e →
      slice_index v.misses_by_occupancy n ≡ not_found_at v.geometry es n
  pub comparisons : v.probes ≡ probes v.geometry es
