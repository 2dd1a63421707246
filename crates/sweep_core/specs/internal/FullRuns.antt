-- The rows of the profiles of a full sweep.
use Rattle.std.specs.Prelude.{◌≡◌, ℕ, ◌≤◌, Bool, List, ◌++◌, Option, None, Some, IfSome, map}
use Rattle.std.specs.Prelude.{flat_map}
use Rattle.std.specs.List.{AllByRecursion}
use Rattle.full_profile.specs.declared.counts.FullCounts.{FullCounts}
use Rattle.full_profile.specs.State.{FullState, full_counts_at}
use Rattle.full_profile.specs.Sums.{full_sums_at}
use Rattle.sweep_core.specs.declared.space.Config.{Config}
use Rattle.sweep_core.specs.declared.full.profiles.FullPair.{FullPair}
use Rattle.sweep_core.specs.declared.full.rows.FullWalk.{FullWalk}
use Rattle.sweep_core.specs.declared.profiles.PairProfile.{PairProfile}
use Rattle.sweep_core.specs.internal.Runs.{run_of, Serves, ServesRows}

-- the plain part of the profile of a pair, and its rows
abbrev pub plain_pair : FullPair → PairProfile
plain_pair x = record {
  first = x.first;
  row_count = x.row_count;
  followers = 0;
  profile = x.profile.plain;
}

-- n configurations from one on, each with what a profile counts for it
abbrev pub full_counted_run : Bool → FullState → Config → ℕ → List (Config × FullCounts)
full_counted_run powers v c n = map (λ d. (d, full_counts_at v d.assoc)) (run_of powers c n)

-- the rows of some profiles, each with its counts
abbrev pub full_counted_profiles : Bool → List FullPair → List (Config × FullCounts)
full_counted_profiles powers xs =
    flat_map (λ x. full_counted_run powers x.profile x.first x.row_count) xs

-- a profile serves its rows, of which there is one at least
abbrev pub ServesFull : Bool → FullPair → Type 0
ServesFull powers x = ServesRows powers (plain_pair x)

-- a walk over the rows of a pair serves those that are left, from the associativity to which its
-- sums came
pub record IsFullWalk (powers : Bool) (w : FullWalk) : Type 0 where
  pub summed : w.sums ≡ full_sums_at w.profile.now w.sums.ways
  pub rising : w.sums.ways ≤ w.next.assoc
  pub serves : AllByRecursion (Serves w.profile.now.plain) (run_of powers w.next w.left)

-- the rows that are left: those of a pair that is walked, and then those of other pairs
abbrev pub full_rows_to_come : Bool → Option FullWalk → List FullPair → List (Config × FullCounts)
full_rows_to_come powers None later = full_counted_profiles powers later
full_rows_to_come powers (Some w) later = full_counted_run powers w.profile.now w.next w.left ++
    full_counted_profiles powers later

-- the rows that are left have their counts
pub record MayComeFull (powers : Bool) (pair : Option FullWalk)
    (later : List FullPair) : Type 0 where
  pub walks : IfSome pair (λ w. (1 ≤ w.left) × IsFullWalk powers w)
  pub serve : AllByRecursion (ServesFull powers) later
