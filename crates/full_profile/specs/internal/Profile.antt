-- The profile that lists and numbers stand for.
use Rattle.cache_core.specs.Geometry.{GeometryValue}
use Rattle.full_profile.specs.declared.profile.numbers.Numbers.{Numbers}
use Rattle.full_profile.specs.State.{FullState}
use Rattle.full_profile.specs.internal.Marked.{Marked}
use Rattle.full_profile.specs.internal.Sound.{full_state_of, IsFullSound}

abbrev pub full_profile_of : GeometryValue → Marked → Numbers → FullState
full_profile_of g m n =
    full_state_of g m n.distances.items n.misses_by_occupancy.items n.kinds.items n.copies

-- lists and numbers that stand for a profile
abbrev pub AreFullSound : GeometryValue → Marked → Numbers → Type 0
AreFullSound g m n =
    IsFullSound g m n.distances.items n.misses_by_occupancy.items n.kinds.items n.copies
