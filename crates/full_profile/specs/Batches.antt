-- References that change nothing but the number of those found in front. Such a reference changes
-- nothing in each profile that refines this one, either (set refinement: Hill and Smith 1989).
use Rattle.std.specs.Prelude.{ℕ, ◌≡◌, ◌≤◌, ◌+◌, ◌-◌, ◌^◌, ◌==◌, ◌&&◌, ◌||◌, not, true, Bool}
use Rattle.std.specs.Prelude.{if◌then◌else◌, List, [], ◌∷◌, length, slice_index, fold}
use Rattle.trace_core.specs.declared.events.Access.{Access}
use Rattle.trace_core.specs.declared.events.Ref.{Ref}
use Rattle.trace_core.specs.Events.{is_write}
use Rattle.cache_core.specs.Geometry.{GeometryValue, IsGeometry, block_of, set_of}
use Rattle.trace_core.specs.declared.events.Event.{Event}
use Rattle.profile_core.specs.profile.State.{list_of, fed_of}
use Rattle.profile_core.specs.profile.Fronts.{is_front_of, after_fronts, is_refined}
use Rattle.profile_core.specs.internal.profile.StackProfile.{IsFit}
use Rattle.full_profile.specs.State.{FullState, after_full_reference, cleans_of, kind_of}
use Rattle.full_profile.specs.State.{full_after}

-- whether a reference finds its block in front, and does not write it, or finds it dirty in all
-- caches
abbrev pub is_settled : FullState → Ref → Bool
is_settled v r = is_front_of v.plain (block_of v.plain.geometry r.addr)
    && (not (is_write r.access)
    || slice_index (cleans_of v (set_of v.plain.geometry r.addr)) 0 == 0)

-- after a reference, or the same profile if the reference is settled
abbrev pub after_unless_settled : FullState → Ref → FullState
after_unless_settled v r = if is_settled v r then v else after_full_reference v r

-- after some references, except those that are settled
abbrev pub after_full_batch : FullState → List Ref → FullState
after_full_batch v refs = fold after_unless_settled v refs

-- those of some references that are not settled
abbrev pub unsettled : FullState → List Ref → List Ref
unsettled v [] = []
unsettled v (r ∷ refs) =
    let later = unsettled (after_unless_settled v r) refs in
    if is_settled v r then later else r ∷ later

-- after n references that were settled
abbrev pub after_settled : ℕ → FullState → FullState
after_settled n v = record v { plain = after_fronts n v.plain }

-- A profile was fed n references, except some that were settled: the profile after these are
-- counted, too.
abbrev pub with_settled : ℕ → FullState → FullState
with_settled n v = after_settled (n - fed_of v.plain) v

-- a profile that was fed some events, with n references in all, except some that were settled
pub record LagsBehind (n : ℕ) (g : GeometryValue) (es : List Event) (v : FullState) : Type 0 where
  pub few : fed_of v.plain ≤ n
  pub caught : with_settled n v ≡ full_after g es

-- what is settled in one profile is settled in each that refines it, if both were fed the same
abbrev pub SettledLaw : Type 0
SettledLaw = (g h : GeometryValue) (es : List Event) (r : Ref) → IsGeometry g → IsGeometry h →
    is_refined g h ≡ true → is_settled (full_after g es) r ≡ true →
    is_settled (full_after h es) r ≡ true

-- the lengths of a full profile's lists and histograms: each list of clean depths is as long as its
-- list of blocks
pub record IsFitFull (v : FullState) : Type 0 where
  pub plain : IsFit v.plain
  pub set_count : length v.cleans ≡ 2 ^ v.plain.geometry.s
  pub alike : (k : ℕ) → length (cleans_of v k) ≡ length (list_of v.plain k)
  pub kind_count : length v.kinds ≡ 3
  pub behind_count : (access : Access) → length (kind_of v access).behind ≡ v.plain.geometry.e
  pub above_count : length v.copied_above ≡ v.plain.geometry.e + 1
  pub up_to_count : length v.copied_up_to ≡ v.plain.geometry.e + 1

-- a profile that was fed n references of some events, except some of those that were settled
pub record IsLagging (n : ℕ) (es : List Event) (v : FullState) : Type 0 where
  pub geometry : IsGeometry v.plain.geometry
  pub lags : LagsBehind n v.plain.geometry es v
