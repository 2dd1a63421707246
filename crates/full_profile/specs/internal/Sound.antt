-- The invariant of a full profile.
use Rattle.std.specs.Prelude.{ℕ, ◌≡◌, ◌≤◌, ◌+◌, List, length, take, sum, sum_by}
use Rattle.trace_core.specs.declared.events.Access.{Access}
use Rattle.cache_core.specs.Geometry.{GeometryValue}
use Rattle.profile_core.specs.internal.profile.StackProfile.{IsSound, compared}
use Rattle.profile_core.specs.profile.State.{list_of, fed_of}
use Rattle.profile_core.specs.internal.set_lists.Lists.{Lists}
use Rattle.full_profile.specs.State.{FullState, KindState, cleans_of, kind_of}
use Rattle.full_profile.specs.internal.Copies.{CopiesValue}
use Rattle.full_profile.specs.internal.Marked.{Marked}

-- Each list has as many clean depths as blocks. A reference counts at most one miss of its kind. A
-- reference counts a copyback, or one block more is in the lists, or neither: so the copybacks and
-- the blocks in the lists are as many as the references or fewer.
pub record IsFullFit (v : FullState) : Type 0 where
  pub set_count : length v.cleans ≡ length v.plain.lists
  pub same_lengths : (set : ℕ) → length (cleans_of v set) ≡ length (list_of v.plain set)
  pub kind_count : length v.kinds ≡ 3
  pub kinds_long : (access : Access) → length (kind_of v access).behind ≡ v.plain.geometry.e
  pub kinds_few : (access : Access) →
      sum (kind_of v access).behind + (kind_of v access).missed ≤ fed_of v.plain
  pub above_long : length v.copied_above ≡ v.plain.geometry.e + 1
  pub up_to_long : length v.copied_up_to ≡ v.plain.geometry.e + 1
  pub copies_few : sum v.copied_above + sum_by length v.cleans ≤ fed_of v.plain
  pub in_order : (ways : ℕ) → sum (take ways v.copied_up_to) ≤ sum (take ways v.copied_above)

-- the lists without their clean depths
abbrev pub plain_lists : Marked → Lists
plain_lists m = record { depth = m.depth; lists = m.blocks }

-- the profile that lists and numbers stand for
abbrev pub full_state_of : GeometryValue → Marked → List ℕ → List ℕ → List KindState →
    CopiesValue → FullState
full_state_of g m distances missed kinds copies = record {
  plain = record {
    geometry = g;
    lists = m.blocks;
    distances = distances;
    misses_by_occupancy = missed;
    probes = compared distances missed;
  };
  cleans = m.cleans;
  kinds = kinds;
  copied_above = copies.above;
  copied_up_to = copies.up_to;
}

-- the invariant of a profile
pub record IsFullSound (g : GeometryValue) (m : Marked) (distances missed : List ℕ)
    (kinds : List KindState) (copies : CopiesValue) : Type 0 where
  pub plain : IsSound g (plain_lists m) distances missed
  pub fit : IsFullFit (full_state_of g m distances missed kinds copies)
