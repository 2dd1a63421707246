-- The profiles so far refine the one.
use Rattle.std.proofs.Common.{◌≡◌, ◌<◌, ℕ, true, get_or}
use Rattle.profile_core.specs.profile.Fronts.{is_refined}
use Rattle.sweep_core.specs.declared.profiles.PairProfile.{PairProfile}
use Rattle.sweep_core.proofs.feeding.count_followers.Given as goal

abbrev pub invariant-loop-other : goal.invariant-loop-other
invariant-loop-other l =
    (l.count ≡ l.other-index)
    × ((k : ℕ) (d : PairProfile) → k < l.other-index →
    is_refined l.profile.geometry (get_or l.others k d).profile.geometry ≡ true)
