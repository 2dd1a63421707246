-- A profile as its lists and histograms stand for it.
use Rattle.std.specs.Prelude.{ℕ, ◌≡◌, ◌≤◌, ◌<◌, ◌+◌, ◌*◌, ◌^◌, false, List, [], ◌∷◌, length, sum}
use Rattle.std.specs.Prelude.{slice_index_or}
use Rattle.cache_core.specs.Geometry.{GeometryValue, IsGeometry, set_of_block}
use Rattle.profile_core.specs.declared.profile.histograms.Histograms.{Histograms}
use Rattle.profile_core.specs.profile.RecencyList.{is_front}
use Rattle.profile_core.specs.profile.State.{ProfileState, list_of, fed_of}
use Rattle.profile_core.specs.internal.set_lists.Lists.{Lists}

-- the sum of a histogram's numbers, each times its index, counted from n
unfoldable pub weighed : ℕ → List ℕ → ℕ
weighed n [] = 0
weighed n (x ∷ xs) = x * n + weighed (n + 1) xs

-- the comparisons of all references: d + 1 if a block was found at distance d, and n if it was not
-- found in a list of n blocks
abbrev pub compared : List ℕ → List ℕ → ℕ
compared distances missed = weighed 1 distances + weighed 0 missed

-- the most references that a profile may be fed: two for each line of the longest trace, which has
-- 2^40
abbrev pub most_references : ℕ
most_references = 2 ^ 41

-- the invariant of a profile
pub record IsSound (g : GeometryValue) (lists : Lists) (distances missed : List ℕ) : Type 0 where
  pub geometry : IsGeometry g
  pub depth : lists.depth ≡ g.e
  pub set_count : length lists.lists ≡ 2 ^ g.s
  pub short : (k : ℕ) → length (slice_index_or lists.lists k []) ≤ g.e
  pub distance_count : length distances ≡ g.e
  pub occupancy_count : length missed ≡ g.e + 1
  pub fed : sum distances + sum missed ≤ most_references

-- A profile that may be fed one more reference, to block x, which is not the front of its set k's
-- list.
pub record IsNext (v : ProfileState) (k x : ℕ) : Type 0 where
  pub few : fed_of v < most_references
  pub of_set : k ≡ set_of_block v.geometry x
  pub behind : is_front x (list_of v k) ≡ false

-- the profile that lists and histograms stand for
abbrev pub profile_of : GeometryValue → Lists → Histograms → ProfileState
profile_of g lists h = record {
  geometry = g;
  lists = lists.lists;
  distances = h.distances.items;
  misses_by_occupancy = h.misses_by_occupancy.items;
  probes = compared h.distances.items h.misses_by_occupancy.items;
}

-- lists and histograms that stand for a profile
abbrev pub AreSound : GeometryValue → Lists → Histograms → Type 0
AreSound g lists h = IsSound g lists h.distances.items h.misses_by_occupancy.items

-- the histograms of a profile: with some lists they stand for it
pub record AreHistogramsOf (h : Histograms) (v : ProfileState) : Type 0 where
  pub lists : Lists
  pub sound : AreSound v.geometry lists h
  pub whole : profile_of v.geometry lists h ≡ v

-- the lengths of a profile's lists and histograms
pub record IsFit (v : ProfileState) : Type 0 where
  pub some : 1 ≤ v.geometry.e
  pub set_count : length v.lists ≡ 2 ^ v.geometry.s
  pub short : (k : ℕ) → length (list_of v k) ≤ v.geometry.e
  pub distance_count : length v.distances ≡ v.geometry.e
  pub occupancy_count : length v.misses_by_occupancy ≡ v.geometry.e + 1
