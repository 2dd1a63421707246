-- The rows of a pair: configurations of one block size and set count, whose associativities follow
-- one another.
use Rattle.std.specs.Prelude.{◌≡◌, ℕ, zero, suc, ◌+◌, ◌*◌, ◌^◌, ◌≤◌, if◌then◌else◌, Bool, false}
use Rattle.std.specs.Prelude.{List, [], ◌∷◌, ◌++◌, Option, None, Some, IfSome, map, flat_map}
use Rattle.std.specs.List.{AllByRecursion}
use Rattle.cache_core.specs.declared.outcome.Counts.{Counts}
use Rattle.profile_core.specs.profile.State.{ProfileState, counts_at, hit_sums_at}
use Rattle.sweep_core.specs.declared.space.Config.{Config}
use Rattle.sweep_core.specs.declared.profiles.PairProfile.{PairProfile}
use Rattle.sweep_core.specs.declared.rows.PairWalk.{PairWalk}
use Rattle.sweep_core.specs.Space.{HasSize, most_ways}
use Rattle.sweep_core.specs.Work.{pair_of, has_pair}

-- the associativity after another: the next number, or, if only powers of two count, the next of
-- these
abbrev pub next_ways : Bool → ℕ → ℕ
next_ways powers ways = if powers then ways * 2 else ways + 1

-- the associativity n steps after another
abbrev pub ways_after : Bool → ℕ → ℕ → ℕ
ways_after powers ways n = if powers then ways * 2 ^ n else ways + n

-- n configurations from one on, each with the next associativity
abbrev pub run_of : Bool → Config → ℕ → List Config
run_of powers c zero = []
run_of powers c (suc n) = c ∷ run_of powers (record c { assoc = next_ways powers c.assoc }) n

-- the rows of a profile
abbrev pub rows_of_profile : Bool → PairProfile → List Config
rows_of_profile powers x = run_of powers x.first x.row_count

-- Some rows begin with a run of a pair, of at least one row, and none of the others is of that
-- pair.
pub record BeginsWith (powers : Bool) (rows : List Config) (run : Config × ℕ)
    (left : List Config) : Type 0 where
  pub some : 1 ≤ run.1
  pub whole : rows ≡ run_of powers run.0 run.1 ++ left
  pub apart : AllByRecursion (λ d. has_pair (pair_of d) run.0 ≡ false) left

-- n configurations from one on, each with what a profile counts for it
abbrev pub counted_run : Bool → ProfileState → Config → ℕ → List (Config × Counts)
counted_run powers v c n = map (λ d. (d, counts_at v d.assoc)) (run_of powers c n)

-- the rows of some profiles, each with its counts
abbrev pub counted_profiles : Bool → List PairProfile → List (Config × Counts)
counted_profiles powers xs = flat_map (λ x. counted_run powers x.profile x.first x.row_count) xs

-- the rows of some profiles, each with its counts, in one list for each profile
abbrev pub rows_by_pair : Bool → List PairProfile → List (List (Config × Counts))
rows_by_pair powers xs = map (λ x. counted_run powers x.profile x.first x.row_count) xs

-- a profile has the counts of a row, whose size fits
pub record Serves (v : ProfileState) (c : Config) : Type 0 where
  pub some : 1 ≤ c.assoc
  pub deep : c.assoc ≤ v.geometry.e
  pub few : c.assoc ≤ most_ways
  pub fits : HasSize c

-- a profile serves its rows, of which there is one at least
pub record ServesRows (powers : Bool) (x : PairProfile) : Type 0 where
  pub some : 1 ≤ x.row_count
  pub rows : AllByRecursion (Serves x.profile) (rows_of_profile powers x)

-- a walk over the rows of a pair serves those that are left, from the associativity to which its
-- sums came
pub record IsWalk (powers : Bool) (w : PairWalk) : Type 0 where
  pub summed : w.sums ≡ hit_sums_at w.profile.now w.sums.ways
  pub rising : w.sums.ways ≤ w.next.assoc
  pub serves : AllByRecursion (Serves w.profile.now) (run_of powers w.next w.left)

-- the rows that are left: those of a pair that is walked, and then those of other pairs
abbrev pub rows_to_come : Bool → Option PairWalk → List PairProfile → List (Config × Counts)
rows_to_come powers None later = counted_profiles powers later
rows_to_come powers (Some w) later = counted_run powers w.profile.now w.next w.left ++
    counted_profiles powers later

-- the rows that are left have their counts
pub record MayCome (powers : Bool) (pair : Option PairWalk)
    (later : List PairProfile) : Type 0 where
  pub walks : IfSome pair (λ w. (1 ≤ w.left) × IsWalk powers w)
  pub serve : AllByRecursion (ServesRows powers) later
