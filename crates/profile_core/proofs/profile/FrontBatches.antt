-- A batch of references that is fed to a profile, which passes over those that find their block in
-- front.
use Rattle.std.proofs.Common.{◌≡◌, ℕ, Bool, true, false, cond, List, [], ◌∷◌, ◌++◌, refl, ap}
use Rattle.cache_core.specs.Geometry.{block_of}
use Rattle.profile_core.specs.profile.State.{ProfileState, fed_of}
use Rattle.profile_core.specs.profile.Fronts.{is_front_of, after_unless_front, after_batch}
use Rattle.profile_core.specs.profile.Fronts.{fed_of_batch}
use Rattle.profile_core.proofs.profile.Batches.{Passing}

abbrev is_in_front : ProfileState → ℕ → Bool
is_in_front v a = is_front_of v (block_of v.geometry a)

abbrev after : ProfileState → ℕ → ProfileState
after v a = after_unless_front v (block_of v.geometry a)

pub fed_snoc : (v : ProfileState) (addrs : List ℕ) (a : ℕ) → fed_of_batch v (addrs ++ a ∷ []) ≡
    fed_of_batch v addrs ++ cond (is_in_front (after_batch v addrs) a) [] (a ∷ [])
fed_snoc v [] a = refl
fed_snoc v (b ∷ addrs) a =
    let w = after v b in
    let more = fed_snoc w addrs a in
    elim (is_in_front v b) as (λ front. cond front (fed_of_batch w (addrs ++ a ∷ []))
    (b ∷ fed_of_batch w (addrs ++ a ∷ []))
    ≡ cond front (fed_of_batch w addrs) (b ∷ fed_of_batch w addrs) ++
    cond (is_in_front (after_batch w addrs) a) [] (a ∷ []))
    [ true ↦ more | false ↦ ap (λ l. b ∷ l) more ]

abbrev pub fronts : Passing ProfileState ℕ
fronts = record {
  is_passed = is_in_front;
  after = after;
  fed = fed_of;
  left = fed_of_batch;
  left_more = fed_snoc;
}
