-- Profiles that are not fed the references that find their block in front: these are counted later.
use Rattle.std.specs.Prelude.{ℕ, ◌≡◌, ◌-◌, true}
use Rattle.cache_core.specs.Geometry.{block_of}
use Rattle.profile_core.specs.profile.State.{ProfileState, fed_of}
use Rattle.profile_core.specs.profile.Fronts.{is_front_of, after_fronts}

-- A profile was fed n references, except some that found their block in front: the profile after
-- these are counted, too.
abbrev pub profile_with_fronts : ℕ → ProfileState → ProfileState
profile_with_fronts n v = after_fronts (n - fed_of v) v

-- a block in front in one profile is also in front in another
abbrev pub Leads : ProfileState → ProfileState → Type 0
Leads v w = (addr : ℕ) → is_front_of v (block_of v.geometry addr) ≡ true →
    is_front_of w (block_of w.geometry addr) ≡ true
