-- How many comparisons a profile's histograms tell.
use Rattle.std.proofs.Common.{ℕ, ◌+◌, ◌*◌, ◌^◌, ◌≤◌, ◌<◌, List, sum, arith}
use Rattle.std.proofs.Math.Nat.{add-mul, mul-le-mul}
use Rattle.cache_core.specs.Geometry.{GeometryValue}
use Rattle.profile_core.specs.internal.set_lists.Lists.{Lists}
use Rattle.profile_core.specs.internal.profile.StackProfile.{IsSound, compared}
use Rattle.profile_core.proofs.profile.Weighing.{weighed-at_most}

module _ {g : GeometryValue} {lists : Lists} {distances missed : List ℕ}
    (h : IsSound g lists distances missed) where
  -- at most as many for each reference as a list has blocks
  pub at_most : compared distances missed ≤ (sum distances + sum missed) * g.e
  at_most = omega (
    arith,
    weighed-at_most 1 distances g.e (omega (arith, h.distance_count)),
    weighed-at_most 0 missed g.e (omega (arith, h.occupancy_count)),
    add-mul (sum distances) (sum missed) g.e,
  )

  -- no sum wraps
  pub few : compared distances missed < 2 ^ 64
  few =
      let all : (sum distances + sum missed) * g.e ≤ 2 ^ 41 * 65536 =
      mul-le-mul h.fed h.geometry.ways in
      omega (arith, at_most, all)
