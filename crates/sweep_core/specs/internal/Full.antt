-- The profiles of a full sweep, and the references that wait to be fed to them.
use Rattle.std.specs.Prelude.{◌≡◌, ℕ, ◌≤◌, ◌+◌, ◌-◌, ◌/◌, ◌^◌, ◌==◌, ◌&&◌, ◌||◌, not, nat_lt, min}
use Rattle.std.specs.Prelude.{Bool, if◌then◌else◌, List, [], ◌∷◌, ◌++◌, length, map, flat_map, fold}
use Rattle.std.specs.Prelude.{slice_index_or, slice_set, false}
use Rattle.std.specs.List.{AllByRecursion}
use Rattle.trace_core.specs.declared.events.Access.TheVariants.{Read}
use Rattle.trace_core.specs.declared.events.Event.{Event}
use Rattle.trace_core.specs.declared.events.Kind.{Kind}
use Rattle.trace_core.specs.declared.events.Ref.{Ref}
use Rattle.trace_core.specs.declared.line.Format.{Format}
use Rattle.trace_core.specs.Device.{SourceView}
use Rattle.trace_core.specs.Events.{events_of, is_write, at}
use Rattle.trace_core.specs.Reader.{Progress}
use Rattle.trace_core.specs.Task.{HasRead}
use Rattle.cache_core.specs.Geometry.{IsGeometry}
use Rattle.profile_core.specs.profile.State.{fed_of}
use Rattle.full_profile.specs.State.{empty_full, after_full_event, after_full_flush, after_end}
use Rattle.full_profile.specs.State.{full_after}
use Rattle.profile_core.specs.profile.Fronts.{is_refined}
use Rattle.full_profile.specs.Batches.{after_full_batch, with_settled, IsLagging, unsettled}
use Rattle.sweep_core.specs.declared.space.Config.{Config}
use Rattle.sweep_core.specs.declared.request.Request.{Request}
use Rattle.sweep_core.specs.declared.full.profiles.FullPair.{FullPair}
use Rattle.sweep_core.specs.SweepText.{configs_of}
use Rattle.sweep_core.specs.Work.{pair_of, geometry_of_pair}
use Rattle.sweep_core.specs.internal.Pass.{SweepStandsFor}
use Rattle.sweep_core.specs.internal.FullRuns.{plain_pair}

-- the profile of a pair after some references, except those that are settled
abbrev pub full_pair_fed : List Ref → FullPair → FullPair
full_pair_fed refs x = record x { profile = after_full_batch x.profile refs }

abbrev pub full_pairs_fed : List Ref → List FullPair → List FullPair
full_pairs_fed refs xs = map (full_pair_fed refs) xs

-- whether the second of some profiles refines the first
abbrev pub second_refines_first : List FullPair → Bool
second_refines_first [] = false
second_refines_first (x ∷ []) = false
second_refines_first (x ∷ y ∷ xs) =
    is_refined x.profile.plain.geometry y.profile.plain.geometry

-- The profile at an index was fed some references, and the next one those that were not settled in
-- the first; `left` are those that were settled in neither.
pub record AreTwoFed (at : ℕ) (refs : List Ref) (old now : List FullPair) (left : List Ref) :
    Type 0 where
  pub first : FullPair
  pub second : FullPair
  pub first_is : first ≡ slice_index_or old at first
  pub second_is : second ≡ slice_index_or old (at + 1) second
  pub fed : now ≡ slice_set (slice_set old at (full_pair_fed refs first)) (at + 1)
      (full_pair_fed (unsettled first.profile refs) second)
  pub left_are : left ≡ unsettled second.profile (unsettled first.profile refs)

-- The profile of a pair was fed n references, except some that were settled: the pair after these
-- are counted, too.
abbrev pub full_pair_caught : ℕ → FullPair → FullPair
full_pair_caught n x = record x { profile = with_settled n x.profile }

abbrev pub full_pairs_caught : ℕ → List FullPair → List FullPair
full_pairs_caught n xs = map (full_pair_caught n) xs

-- the same after the last event
abbrev pub full_pair_ended : ℕ → FullPair → FullPair
full_pair_ended n x = record x { profile = after_end (with_settled n x.profile) }

abbrev pub full_pairs_ended : ℕ → List FullPair → List FullPair
full_pairs_ended n xs = map (full_pair_ended n) xs

-- the profile of a pair after a flush
abbrev pub full_pair_flushed : FullPair → FullPair
full_pair_flushed x = record x { profile = after_full_flush x.profile }

-- the profile of a pair after some events
abbrev pub full_pair_after : List Event → FullPair → FullPair
full_pair_after es x = record x { profile = fold after_full_event x.profile es }

abbrev pub full_pairs_after : List Event → List FullPair → List FullPair
full_pairs_after es xs = map (full_pair_after es) xs

-- the profile of a pair after some events, which are all
abbrev pub full_pair_after_all : List Event → FullPair → FullPair
full_pair_after_all es x = record x { profile = after_end (fold after_full_event x.profile es) }

abbrev pub full_pairs_after_all : List Event → List FullPair → List FullPair
full_pairs_after_all es xs = map (full_pair_after_all es) xs

-- profiles that were fed at most n references
abbrev pub FedFullAtMost : ℕ → List FullPair → Type 0
FedFullAtMost n xs = AllByRecursion (λ x. fed_of x.profile.plain ≤ n) xs

-- a profile to which nothing was fed
pub record IsNewPair (x : FullPair) : Type 0 where
  pub geometry : IsGeometry x.profile.plain.geometry
  pub is : x.profile ≡ empty_full x.profile.plain.geometry

-- profiles that were fed n references of the same events, except some that were settled
abbrev pub AreFedFull : ℕ → List Event → List FullPair → Type 0
AreFedFull n es xs = AllByRecursion (λ x. IsLagging n es x.profile) xs

-- profiles that were fed the same
pub record WereFedAlike (xs : List FullPair) : Type 0 where
  pub count : ℕ
  pub events : List Event
  pub fed : AreFedFull count events xs

-- whether a reference lies in the same block of 2^bits bytes as the one before, and does not write
-- unless that one did
abbrev pub is_repeated : ℕ → Ref → Ref → Bool
is_repeated bits before r = before.addr / 2 ^ bits == r.addr / 2 ^ bits
    && (not (is_write r.access) || is_write before.access)

-- whether a reference repeats the last of some others
abbrev pub repeats_last : ℕ → List Ref → Ref → Bool
repeats_last bits refs r = nat_lt 0 (length refs)
    && is_repeated bits (slice_index_or refs (length refs - 1) (at Read 0)) r

-- the references that wait, and one more, unless it repeats the last
abbrev pub with_waiting_ref : ℕ → List Ref → Ref → List Ref
with_waiting_ref bits refs r = if repeats_last bits refs r then refs else refs ++ r ∷ []

-- no block of some profiles is smaller than 2^bits bytes
abbrev pub AreNoFinerFull : ℕ → List FullPair → Type 0
AreNoFinerFull bits xs = AllByRecursion (λ x. bits ≤ x.profile.plain.geometry.b) xs

-- no block of some profiles is smaller than this size, a power of two
abbrev pub AreNoSmallerFull : ℕ → List FullPair → Type 0
AreNoSmallerFull size xs = (bits : ℕ) × (size ≡ 2 ^ bits) × AreNoFinerFull bits xs

-- the block bits of the smallest blocks that some profiles have
abbrev pub finest_full_bits : List FullPair → ℕ
finest_full_bits xs = fold (λ bits x. min bits x.profile.plain.geometry.b) 20 xs

-- Of n references the last ones wait. All others were fed, except some that were settled.
pub record FullWaiting (n : ℕ) (refs : List Ref) (xs : List FullPair) : Type 0 where
  pub before : ℕ
  pub events : List Event
  pub fed : AreFedFull before events xs
  pub within : before + length refs ≤ n

-- a profile was made for the rows of its pair, within the limits and as deep as the greatest
-- associativity of the pair in all, and was fed some events
pub record IsFedFor (all : List Config) (es : List Event) (x : FullPair) : Type 0 where
  pub sound : IsGeometry (geometry_of_pair all (pair_of x.first))
  pub is : x.profile ≡ full_after (geometry_of_pair all (pair_of x.first)) es

-- the profiles of a full sweep after some events
pub record FullStandsFor (r : Request) (es : List Event) (xs : List FullPair) : Type 0 where
  pub plain : SweepStandsFor r es (map plain_pair xs)
  pub full : AllByRecursion (IsFedFor (configs_of r) es) xs

-- entries were read from a source, and their events were fed to each profile
abbrev pub FeedsFull : Kind → Format → ℕ → SourceView → SourceView → Progress → List FullPair →
    List FullPair → Type 0
FeedsFull kind format limit start now p old new = HasRead format limit start now p
    (λ es. new ≡ full_pairs_after (flat_map (events_of kind) es) old)

-- entries were read from a source, and their events were all that was fed to each profile
abbrev pub EndsFull : Kind → Format → ℕ → SourceView → SourceView → Progress → List FullPair →
    List FullPair → Type 0
EndsFull kind format limit start now p old new = HasRead format limit start now p
    (λ es. new ≡ full_pairs_after_all (flat_map (events_of kind) es) old)
