-- A reference that waits alone is fed to each profile as it is.
use Rattle.std.proofs.Common.{◌≡◌, ℕ, zero, suc, ◌+◌, ◌<◌, ◌≤◌, true, cond, List, [], ◌∷◌, ◌++◌}
use Rattle.std.proofs.Common.{map, take, drop, length, get_or, refl, sym, ap, ◌∙◌, arith}
use Rattle.std.specs.List.{AllByRecursion as Each}
use Rattle.std.proofs.Math.ListN.{set}
use Rattle.std.proofs.lemmas.List.Edits.{map_over_more}
use Rattle.cache_core.specs.Geometry.{block_of}
use Rattle.profile_core.specs.profile.State.{ProfileState, after_reference}
use Rattle.profile_core.specs.profile.Fronts.{after_unless_front, is_front_of}
use Rattle.sweep_core.specs.declared.profiles.PairProfile.{PairProfile}
use Rattle.sweep_core.specs.internal.Feeding.{pair_after_batch, AlwaysLeads, AreAlwaysLed}
use Rattle.sweep_core.proofs.Lists.{Each-weaker}
use Rattle.sweep_core.proofs.Passes.{unreached}
use Rattle.sweep_core.proofs.FeedingEach.{led-at}

-- The profiles that are skipped stay.
skip-first : (f : PairProfile → PairProfile) (m : ℕ) (xs : List PairProfile) →
    Each (λ y. f y ≡ y) (take m xs) → map f (take m xs) ++ drop m xs ≡ xs
skip-first f zero xs h = refl
skip-first f (suc m) [] h = refl
skip-first f (suc m) (x ∷ xs) h = ap (λ y. y ∷ (map f (take m xs) ++ drop m xs)) h.0 ∙
    ap (λ l. x ∷ l) (skip-first f m xs h.1)

skip : (f : PairProfile → PairProfile) (i m k : ℕ) (xs : List PairProfile) → k ≡ i + m →
    Each (λ y. f y ≡ y) (take m (drop i xs))
    → map f (take i xs) ++ drop i xs ≡ map f (take k xs) ++ drop k xs
skip f zero m k xs is h = sym (skip-first f m xs h) ∙ ap (λ n. map f (take n xs) ++ drop n xs) {x =
    m} {y = k} (omega (arith, is))
skip f (suc i) m zero xs is h = absurd (omega (arith, is))
skip f (suc i) m (suc k) [] is h = refl
skip f (suc i) m (suc k) (x ∷ xs) is h = ap (λ l. f x ∷ l) (skip f i m k xs (omega (arith, is)) h)

stays : (addr : ℕ) (x : PairProfile) →
    is_front_of x.profile (block_of x.profile.geometry addr) ≡ true →
    pair_after_batch (addr ∷ []) x ≡ x
stays addr x front = ap (λ b. record x {
  profile =
      cond b x.profile (after_reference x.profile (block_of x.profile.geometry addr));
}) front

-- the profiles before an index were fed a reference, where they do not find its block in front
abbrev pub FedSoFar : ℕ → ℕ → List PairProfile → List PairProfile → Type 0
FedSoFar addr i old now =
    now ≡ map (pair_after_batch (addr ∷ [])) (take i old) ++ drop i old

module _ (addr i : ℕ) (old now : List PairProfile) (x : PairProfile)
    (so_far : FedSoFar addr i old now) (inside : i < length old) where
  at-index : get_or now i x ≡ get_or old i x
  at-index = ap (λ ys. get_or ys i x) so_far ∙
      unreached (pair_after_batch (addr ∷ [])) old i x inside

  -- one of them more
  pub fed-next : (p : ProfileState) → x ≡ get_or now i x
      → p ≡ after_unless_front (get_or now i x).profile
      (block_of (get_or now i x).profile.geometry addr)
      → FedSoFar addr (i + 1) old (set now i (record (get_or now i x) { profile = p }))
  fed-next p is fed =
      let after = pair_after_batch (addr ∷ []) in
      ap (λ v. set now i (record (get_or now i x) { profile = v })) fed ∙
      ap (λ y. set now i (after y)) (sym is)
      ∙ map_over_more after old now i x inside so_far is

  -- and its followers
  module _ (led : AreAlwaysLed old) where
    pub followers-within : i + 1 + (get_or now i x).followers ≤ length old
    followers-within = omega (arith, (led-at old i x inside led).0, ap (λ y. y.followers) at-index)

    pub skip-next : (p : ProfileState) → x ≡ get_or now i x
        → p ≡ after_unless_front (get_or now i x).profile
        (block_of (get_or now i x).profile.geometry addr)
        → is_front_of (get_or now i x).profile
        (block_of (get_or now i x).profile.geometry addr) ≡ true
        → FedSoFar addr (i + 1 + (get_or now i x).followers) old
        (set now i (record (get_or now i x) { profile = p }))
    skip-next p is fed front =
        let after = pair_after_batch (addr ∷ []) in
        let here = sym (ap (λ y. is_front_of y.profile (block_of y.profile.geometry addr))
        at-index) ∙ front in
        fed-next p is fed
        ∙ skip after (i + 1) (get_or old i x).followers (i + 1 + (get_or now i x).followers) old
        (omega (arith, ap (λ y. y.followers) at-index))
        (Each-weaker (λ y. AlwaysLeads (get_or old i x).profile y.profile) (λ y. after y ≡ y)
        (λ y leads. stays addr y (leads [] addr here))
        (take (get_or old i x).followers (drop (i + 1) old)) (led-at old i x inside led).1)
