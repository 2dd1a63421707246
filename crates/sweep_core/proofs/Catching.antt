-- Profiles that are not fed what they find in front, and catch up.
use Rattle.std.proofs.Common.{◌≡◌, ℕ, zero, suc, ◌+◌, ◌-◌, ◌≤◌, true, cond, List, [], ◌∷◌}
use Rattle.std.proofs.Common.{map, take, fold, refl, sym, ap, ◌∙◌, subst, arith}
use Rattle.std.specs.List.{AllByRecursion as Each}
use Rattle.std.proofs.lemmas.List.{length-map}
use Rattle.trace_core.specs.declared.events.Ref.{Ref}
use Rattle.trace_core.specs.declared.events.Event.{Event}
use Rattle.trace_core.specs.declared.events.Event.TheVariants as event
use Rattle.trace_core.specs.declared.events.Kind.{Kind}
use Rattle.trace_core.specs.Events.{is_kept}
use Rattle.cache_core.specs.Geometry.{IsGeometry, block_of}
use Rattle.profile_core.specs.profile.State.{empty, fed_of, after_event, after_reference}
use Rattle.profile_core.specs.profile.Fronts.{after_fronts, is_refined, after_unless_front}
use Rattle.profile_core.specs.internal.profile.StackProfile.{IsFit}
use Rattle.profile_core.specs.internal.profile.CountedFronts.{profile_with_fronts, Leads}
use Rattle.profile_core.proofs.profile.Fronts.{fronts_none, fit_of, fit_behind, leads_after}
use Rattle.profile_core.proofs.profile.Fronts.{caught_more, fed_more as profile-fed_more}
use Rattle.profile_core.proofs.profile.Runs.{stands_after}
use Rattle.sweep_core.specs.declared.profiles.PairProfile.{PairProfile}
use Rattle.sweep_core.specs.declared.request.Request.{Request}
use Rattle.sweep_core.specs.internal.Pass.{pair_after_flush, profiles_after, kept_events, WasFed}
use Rattle.sweep_core.specs.internal.Feeding.{HaveFollowers, AreLed, IsFresh, pair_with_fronts}
use Rattle.sweep_core.specs.internal.Feeding.{profiles_with_fronts, FedAtMost, AreBehind}
use Rattle.sweep_core.specs.SweepText.{configs_of}
use Rattle.sweep_core.proofs.Sweeping.{empty-fed}

-- the profile of a pair after a reference to an address
abbrev pub pair_after_reference : ℕ → PairProfile → PairProfile
pair_after_reference addr x = record x {
  profile =
      after_reference x.profile (block_of x.profile.geometry addr);
}

-- the profile of a pair after a reference to an address, unless it finds its block in front
abbrev pub pair_unless_front : ℕ → PairProfile → PairProfile
pair_unless_front addr x = record x {
  profile =
      after_unless_front x.profile (block_of x.profile.geometry addr);
}

-- new profiles
pub fresh-few : (xs : List PairProfile) → Each IsFresh xs → FedAtMost 0 xs
fresh-few [] h = tt
fresh-few (x ∷ xs) h = (
  omega (arith, ap fed_of h.0.is, empty-fed x.profile.geometry),
  fresh-few xs h.1,
)

pub caught-none : (xs : List PairProfile) → profiles_with_fronts 0 xs ≡ xs
caught-none [] = refl
caught-none (x ∷ xs) =
    ap (λ n. record x { profile = after_fronts n x.profile } ∷ profiles_with_fronts 0 xs) {x =
    0 - fed_of x.profile} {y = 0} (omega arith)
    ∙ ap (λ v. record x { profile = v } ∷ profiles_with_fronts 0 xs) (fronts_none x.profile) ∙
    ap (λ l. x ∷ l) (caught-none xs)

-- after some events what is in front in a profile is so in those that refine it
led-each : (es : List Event) (x : PairProfile) (m : ℕ) (xs : List PairProfile) → IsFresh x →
    Each IsFresh xs
    → Each (λ y. is_refined x.profile.geometry y.profile.geometry ≡ true) (take m xs)
    → Each (λ y. Leads (fold after_event x.profile es) y.profile) (take m (profiles_after es xs))
led-each es x zero xs one others refined = tt
led-each es x (suc m) [] one others refined = tt
led-each es x (suc m) (y ∷ ys) one others refined =
    let g = x.profile.geometry in let h = y.profile.geometry in
    let fresh : Leads (fold after_event (empty g) es) (fold after_event (empty h) es) =
    leads_after g h es one.geometry others.0.geometry refined.0 in
    let this : Leads (fold after_event x.profile es) (fold after_event (empty h) es) =
    subst (λ v. Leads (fold after_event v es) (fold after_event (empty h) es)) {x = empty g} {y =
    x.profile} (sym one.is) fresh in
    let both : Leads (fold after_event x.profile es) (fold after_event y.profile es) =
    subst (λ w. Leads (fold after_event x.profile es) (fold after_event w es)) {x = empty h} {y =
    y.profile} (sym others.0.is) this in
    (both, led-each es x m ys one others.1 refined.1)

led-after : (es : List Event) (xs : List PairProfile) → Each IsFresh xs → HaveFollowers xs →
    AreLed (profiles_after es xs)
led-after es [] fresh refined = tt
led-after es (x ∷ xs) fresh refined = (
  subst (λ (n : ℕ). x.followers ≤ n) (sym (length-map xs _)) refined.0,
  led-each es x x.followers xs fresh.0 fresh.1 refined.1,
  led-after es xs fresh.1 refined.2,
)

fit-after : (es : List Event) (xs : List PairProfile) → Each IsFresh xs →
    Each (λ x. IsFit x.profile) (profiles_after es xs)
fit-after es [] fresh = tt
fit-after es (x ∷ xs) fresh = (
  subst (λ v. IsFit (fold after_event v es)) {x = empty x.profile.geometry} {y = x.profile}
      (sym fresh.0.is)
      (fit_of (stands_after x.profile.geometry es fresh.0.geometry)),
  fit-after es xs fresh.1,
)

-- the same of profiles that are still behind
fit-behind : (n : ℕ) (xs : List PairProfile) →
    Each (λ x. IsFit x.profile) (profiles_with_fronts n xs) → Each (λ x. IsFit x.profile) xs
fit-behind n [] h = tt
fit-behind n (x ∷ xs) h = (fit_behind (n - fed_of x.profile) x.profile h.0, fit-behind n xs h.1)

led-some : (n m : ℕ) (x : PairProfile) (xs : List PairProfile) →
    Each (λ y. Leads (profile_with_fronts n x.profile) y.profile)
    (take m (profiles_with_fronts n xs))
    → Each (λ y. Leads x.profile y.profile) (take m xs)
led-some n zero x xs h = tt
led-some n (suc m) x [] h = tt
led-some n (suc m) x (y ∷ ys) h = (h.0, led-some n m x ys h.1)

led-behind : (n : ℕ) (xs : List PairProfile) → AreLed (profiles_with_fronts n xs) → AreLed xs
led-behind n [] h = tt
led-behind n (x ∷ xs) h = (
  subst (λ (k : ℕ). x.followers ≤ k) (length-map xs (pair_with_fronts n)) h.0,
  led-some n x.followers x xs h.1,
  led-behind n xs h.2,
)

pub behind-after : (n : ℕ) (es : List Event) (old xs : List PairProfile) → Each IsFresh old →
    HaveFollowers old → profiles_with_fronts n xs ≡ profiles_after es old
    → FedAtMost n xs → AreBehind n xs
behind-after n es old xs fresh refined caught fed = record {
  fed = fed;
  fit = fit-behind n xs (subst (Each (λ x. IsFit x.profile)) (sym caught) (fit-after es old fresh));
  led = led-behind n xs (subst AreLed (sym caught) (led-after es old fresh refined));
}

-- one reference more
pub caught-reference : (n addr : ℕ) (xs : List PairProfile) → FedAtMost n xs →
    Each (λ x. IsFit x.profile) xs
    → profiles_with_fronts (n + 1) (map (pair_unless_front addr) xs) ≡ map
    (pair_after_reference addr) (profiles_with_fronts n xs)
caught-reference n addr [] fed fit = refl
caught-reference n addr (x ∷ xs) fed fit =
    ap (λ v. record x { profile = v } ∷ profiles_with_fronts (n + 1)
    (map (pair_unless_front addr) xs))
    (caught_more n x.profile (block_of x.profile.geometry addr) fit.0 fed.0)
    ∙ ap (λ l. pair_after_reference addr (pair_with_fronts n x) ∷ l)
    (caught-reference n addr xs fed.1 fit.1)

pub few-reference : (n addr : ℕ) (xs : List PairProfile) → FedAtMost n xs →
    Each (λ x. IsFit x.profile) xs
    → FedAtMost (n + 1) (map (pair_unless_front addr) xs)
few-reference n addr [] fed fit = tt
few-reference n addr (x ∷ xs) fed fit = (
  profile-fed_more n x.profile (block_of x.profile.geometry addr) fit.0 fed.0,
  few-reference n addr xs fed.1 fit.1,
)

pub kept-caught : (n : ℕ) (kind : Kind) (r : Ref) (xs ys : List PairProfile) → AreBehind n xs →
    is_kept kind r.access ≡ true
    → ys ≡ map (pair_unless_front r.addr) xs
    → (profiles_with_fronts (n + 1) ys ≡ profiles_after (kept_events kind (r ∷ []))
    (profiles_with_fronts n xs)) × FedAtMost (n + 1) ys
kept-caught n kind r xs ys behind kept fed = (
  ap (profiles_with_fronts (n + 1)) fed ∙ caught-reference n r.addr xs behind.fed behind.fit
      ∙ ap (λ b. profiles_after (map (λ x. event.Reference x) (cond b (r ∷ []) []))
      (profiles_with_fronts n xs)) (sym kept),
  subst (FedAtMost (n + 1)) (sym fed) (few-reference n r.addr xs behind.fed behind.fit),
)

-- a flush
pub caught-flush : (n : ℕ) (xs : List PairProfile) →
    profiles_with_fronts n (map pair_after_flush xs) ≡ map pair_after_flush
    (profiles_with_fronts n xs)
caught-flush n [] = refl
caught-flush n (x ∷ xs) = ap (λ l. pair_with_fronts n (pair_after_flush x) ∷ l) (caught-flush n xs)

pub few-flush : (n : ℕ) (xs : List PairProfile) → FedAtMost n xs →
    FedAtMost n (map pair_after_flush xs)
few-flush n [] h = tt
few-flush n (x ∷ xs) h = (h.0, few-flush n xs h.1)

pub fresh-sweep : (r : Request) (xs : List PairProfile) → Each (WasFed (configs_of r) []) xs →
    Each IsFresh xs
fresh-sweep r [] h = tt
fresh-sweep r (x ∷ xs) h =
    let g = ap (λ v. v.geometry) h.0.is in (
      record { geometry = subst IsGeometry (sym g) h.0.sound; is = h.0.is ∙ ap empty (sym g) },
      fresh-sweep r xs h.1,
    )
