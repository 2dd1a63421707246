-- Where a reference finds its block in front in a profile, it does so too in those that refine it.
-- So it is not fed to its followers, the profiles right behind it that refine it, and is counted
-- later.
use Rattle.std.specs.Prelude.{◌≡◌, ⊤, ℕ, Bool, true, false, not, ◌==◌, ◌≤◌, ◌<◌, ◌+◌, min}
use Rattle.std.specs.Prelude.{List, [], ◌∷◌, length, take, map, slice_index_or, slice_set}
use Rattle.std.specs.List.{AllByRecursion, position_or_len}
use Rattle.cache_core.specs.Geometry.{GeometryValue, IsGeometry}
use Rattle.profile_core.specs.profile.State.{ProfileState, empty, fed_of}
use Rattle.profile_core.specs.profile.Fronts.{after_batch, fed_of_batch, is_refined}
use Rattle.profile_core.specs.internal.profile.StackProfile.{IsFit}
use Rattle.profile_core.specs.internal.profile.CountedFronts.{profile_with_fronts, Leads}
use Rattle.sweep_core.specs.declared.profiles.PairProfile.{PairProfile}

-- how many of some profiles refine a geometry, counted from the first up to one that doesn't
abbrev pub follower_count : GeometryValue → List PairProfile → ℕ
follower_count g xs = position_or_len (λ y. not (is_refined g y.profile.geometry)) xs

-- profiles with `followers` set in each: how many of the next ones refine it
unfoldable pub with_followers : List PairProfile → List PairProfile
with_followers [] = []
with_followers (x ∷ xs) = record x { followers = follower_count x.profile.geometry xs } ∷
    with_followers xs

-- each profile is refined by its followers
abbrev pub HaveFollowers : List PairProfile → Type 0
HaveFollowers [] = ⊤
HaveFollowers (x ∷ xs) = (x.followers ≤ length xs) ×
    AllByRecursion (λ y. is_refined x.profile.geometry y.profile.geometry ≡ true)
    (take x.followers xs) × HaveFollowers xs

-- whether all profiles behind the first of some are its followers
abbrev pub first_leads_rest : List PairProfile → Bool
first_leads_rest [] = false
first_leads_rest (x ∷ xs) = x.followers == length xs

-- a profile to which nothing was fed
pub record IsFresh (x : PairProfile) : Type 0 where
  pub geometry : IsGeometry x.profile.geometry
  pub is : x.profile ≡ empty x.profile.geometry

-- the profile of a pair after references to some addresses, except those that find their block in
-- front
abbrev pub pair_after_batch : List ℕ → PairProfile → PairProfile
pair_after_batch addrs x = record x { profile = after_batch x.profile addrs }

abbrev pub profiles_after_batch : List ℕ → List PairProfile → List PairProfile
profiles_after_batch addrs xs = map (pair_after_batch addrs) xs

-- The profile of a pair was fed n references, except some that found their block in front: the pair
-- after these are counted, too.
abbrev pub pair_with_fronts : ℕ → PairProfile → PairProfile
pair_with_fronts n x = record x { profile = profile_with_fronts n x.profile }

abbrev pub profiles_with_fronts : ℕ → List PairProfile → List PairProfile
profiles_with_fronts n xs = map (pair_with_fronts n) xs

-- profiles that were fed at most n references
abbrev pub FedAtMost : ℕ → List PairProfile → Type 0
FedAtMost n xs = AllByRecursion (λ x. fed_of x.profile ≤ n) xs

-- a block in front in a profile is also in front in its followers
abbrev pub AreLed : List PairProfile → Type 0
AreLed [] = ⊤
AreLed (x ∷ xs) = (x.followers ≤ length xs) × AllByRecursion (λ y. Leads x.profile y.profile)
    (take x.followers xs) × AreLed xs

-- a block in front in one profile is also in front in another, whatever references both are fed
abbrev pub AlwaysLeads : ProfileState → ProfileState → Type 0
AlwaysLeads v w = (addrs : List ℕ) → Leads (after_batch v addrs) (after_batch w addrs)

-- a block in front in a profile is also in front in its followers, whatever they are fed
abbrev pub AreAlwaysLed : List PairProfile → Type 0
AreAlwaysLed [] = ⊤
AreAlwaysLed (x ∷ xs) = (x.followers ≤ length xs) × AllByRecursion
    (λ y. AlwaysLeads x.profile y.profile) (take x.followers xs) × AreAlwaysLed xs

-- Profiles that may have been fed n references, except some that found their block in front.
pub record AreBehind (n : ℕ) (xs : List PairProfile) : Type 0 where
  pub fed : FedAtMost n xs
  pub fit : AllByRecursion (λ x. IsFit x.profile) xs
  pub led : AreLed xs

-- Profiles that were fed n references, except some that found their block in front; and this stays
-- so, whatever references they are fed later.
abbrev pub AreAlwaysBehind : ℕ → List PairProfile → Type 0
AreAlwaysBehind n xs =
    (later : List ℕ) → AreBehind (n + length later) (profiles_after_batch later xs)

-- A profile at an index with so many followers is given some addresses: before the profile `end`
-- the first `led_count` of `led`, and from there on all of `addrs`.
pub record IsGiven (at followers led_count end : ℕ) (addrs led led' : List ℕ)
    (given until : ℕ) : Type 0 where
  pub kept : at < end → (given ≡ led_count) × (until ≡ min end (at + 1 + followers)) × (led' ≡ led)
  pub all : end ≤ at → (given ≡ length addrs) × (until ≡ at + 1 + followers) ×
      (take given led' ≡ addrs)
  pub same_length : length led' ≡ length led

-- The profile at an index was fed some references, and the next one those that did not find their
-- block in front in the first; `left` are those that found it in front in neither.
pub record IsFedToTwo (at : ℕ) (addrs : List ℕ) (old now : List PairProfile)
    (left : List ℕ) : Type 0 where
  pub first : PairProfile
  pub second : PairProfile
  pub first_is : first ≡ slice_index_or old at first
  pub second_is : second ≡ slice_index_or old (at + 1) second
  pub fed : now ≡ slice_set (slice_set old at (pair_after_batch addrs first)) (at + 1)
      (pair_after_batch (fed_of_batch first.profile addrs) second)
  pub left_are : left ≡ fed_of_batch second.profile (fed_of_batch first.profile addrs)
