-- A batch of references that is fed to a full profile, which passes over those that are settled.
use Rattle.std.proofs.Common.{◌≡◌, true, false, cond, List, [], ◌∷◌, ◌++◌, refl, ap}
use Rattle.trace_core.specs.declared.events.Ref.{Ref}
use Rattle.profile_core.specs.profile.State.{fed_of}
use Rattle.profile_core.proofs.profile.Batches.{Passing}
use Rattle.full_profile.specs.State.{FullState}
use Rattle.full_profile.specs.Batches.{is_settled, after_unless_settled, after_full_batch}
use Rattle.full_profile.specs.Batches.{unsettled}

pub unsettled_snoc : (v : FullState) (refs : List Ref) (r : Ref) →
    unsettled v (refs ++ r ∷ [])
    ≡ unsettled v refs ++ cond (is_settled (after_full_batch v refs) r) [] (r ∷ [])
unsettled_snoc v [] r = refl
unsettled_snoc v (b ∷ refs) r =
    let w = after_unless_settled v b in
    let more = unsettled_snoc w refs r in
    elim (is_settled v b) as (λ s. cond s (unsettled w (refs ++ r ∷ []))
    (b ∷ unsettled w (refs ++ r ∷ []))
    ≡ cond s (unsettled w refs) (b ∷ unsettled w refs) ++
    cond (is_settled (after_full_batch w refs) r) [] (r ∷ []))
    [ true ↦ more | false ↦ ap (λ l. b ∷ l) more ]

abbrev pub settled : Passing FullState Ref
settled = record {
  is_passed = is_settled;
  after = after_unless_settled;
  fed = λ v. fed_of v.plain;
  left = unsettled;
  left_more = unsettled_snoc;
}
