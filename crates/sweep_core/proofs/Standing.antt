-- Profiles stand for the trace that they were fed.
use Rattle.std.proofs.Common.{◌≡◌, ℕ, ◌+◌, List, [], ◌∷◌, map, fold, refl, sym, ap, ◌∙◌, subst}
use Rattle.std.specs.Prelude.{sum_by}
use Rattle.std.specs.List.{AllByRecursion as Each}
use Rattle.trace_core.specs.declared.events.Event.{Event}
use Rattle.cache_core.specs.Windows.{probes}
use Rattle.profile_core.specs.profile.State.{empty, after_event}
use Rattle.profile_core.specs.profile.ProfileStandsFor.{ProfileStandsFor}
use Rattle.profile_core.proofs.profile.Runs.{stands_after, geometry_after}
use Rattle.sweep_core.specs.declared.space.Config.{Config}
use Rattle.sweep_core.specs.declared.profiles.PairProfile.{PairProfile}
use Rattle.sweep_core.specs.Work.{pair_of, pairs, work, geometry_of_pair}
use Rattle.sweep_core.specs.internal.Pass.{profiles_after, WasFed}

module _ (all : List Config) (es : List Event) (x : PairProfile) (fed : WasFed all es x) where
  pub geometry-kept : x.profile.geometry ≡ geometry_of_pair all (pair_of x.first)
  geometry-kept = ap (λ p. p.geometry) fed.is ∙
      geometry_after es (empty (geometry_of_pair all (pair_of x.first)))

  -- what a profile of a sweep holds after a trace
  pub stands : ProfileStandsFor es x.profile
  stands = subst (ProfileStandsFor es) (sym fed.is)
      (stands_after (geometry_of_pair all (pair_of x.first)) es fed.sound)

  probes-after : x.profile.probes ≡ probes (geometry_of_pair all (pair_of x.first)) es
  probes-after = stands.comparisons ∙ ap (λ g. probes g es) geometry-kept

-- the comparisons of all profiles are those of their pairs
pub work-is : (all rows : List Config) (es : List Event) (xs : List PairProfile) →
    map (λ x. pair_of x.first) xs ≡ pairs rows → Each (WasFed all es) xs
    → sum_by (λ x. x.profile.probes) xs ≡ work es all rows
unfolding work
work-is all rows es xs are fed = sum-same 0 xs fed ∙
    ap (sum_by (λ p. probes (geometry_of_pair all p) es)) are
  where
    sum-same : (a : ℕ) (ys : List PairProfile) → Each (WasFed all es) ys
        → fold (λ t x. t + x.profile.probes) a ys ≡ fold
        (λ t p. t + probes (geometry_of_pair all p) es) a (map (λ x. pair_of x.first) ys)
    sum-same a [] h = refl
    sum-same a (y ∷ ys) h =
        ap (λ n. fold (λ t x. t + x.profile.probes) (a + n) ys) (probes-after all es y h.0)
        ∙ sum-same (a + probes (geometry_of_pair all (pair_of y.first)) es) ys h.1

-- new profiles, after some events
pub fed-after : (all : List Config) (es : List Event) (xs : List PairProfile) →
    Each (WasFed all []) xs → Each (WasFed all es) (profiles_after es xs)
fed-after all es [] h = tt
fed-after all es (x ∷ xs) h = (
  record {
    some = h.0.some;
    sound = h.0.sound;
    is =
        ap (λ p. fold after_event p es) h.0.is;
  },
  fed-after all es xs h.1,
)
