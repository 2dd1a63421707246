-- The histograms that are left for more lines are shorter.
use Rattle.std.proofs.Common.{arith}
use Rattle.profile_core.proofs.HitSums.{sum-more, sum-split}
use Rattle.profile_core.proofs.laws.more_ways_miss_no_more.Goals as goal

pub returns-clause-hits : goal.returns-clause-hits
returns-clause-hits c = λ v few many le. omega (arith, sum-more v.distances few many le)

pub returns-clause-misses : goal.returns-clause-misses
returns-clause-misses c = λ v few many le.
    omega (
      arith,
      sum-more v.distances few many le,
      sum-split v.distances few,
      sum-split v.distances many,
    )

pub returns-clause-evictions : goal.returns-clause-evictions
returns-clause-evictions c = λ v few many le.
    let missed = v.misses_by_occupancy in
    omega (
      arith,
      sum-more v.distances few many le,
      sum-split v.distances few,
      sum-split v.distances many,
      sum-more missed few many le,
      sum-split missed few,
      sum-split missed many,
    )

pub returns-clause-references : goal.returns-clause-references
returns-clause-references c = λ v ways. omega (arith, sum-split v.distances ways)
