-- The profiles of a full sweep have the counts of their rows.
use Rattle.std.proofs.Common.{◌≡◌, ℕ, ◌+◌, ◌≤◌, List, [], ◌∷◌, ◌++◌, map, fold, refl, sym, ap, ap₂}
use Rattle.std.proofs.Common.{◌∙◌}
use Rattle.std.proofs.Common.{subst, arith, Bool}
use Rattle.std.specs.Prelude.{flat_map, sum_by}
use Rattle.std.specs.List.{AllByRecursion as Each}
use Rattle.std.proofs.lemmas.List.{map-append}
use Rattle.std.proofs.lemmas.Simd.{map-map}
use Rattle.trace_core.specs.declared.events.Event.{Event}
use Rattle.cache_core.specs.Geometry.{GeometryValue, IsGeometry, geometry_value}
use Rattle.cache_core.specs.Powers.{log2}
use Rattle.full_profile.specs.declared.counts.FullCounts.{FullCounts}
use Rattle.full_profile.specs.State.{after_full_event, after_end, empty_full}
use Rattle.full_profile.specs.State.{full_counts_at}
use Rattle.full_profile.specs.LookBack.{full_counts}
use Rattle.full_profile.proofs.laws.Runs.{plain_from}
use Rattle.full_profile.proofs.laws.Counted.{full_counts_are}
use Rattle.sweep_core.specs.declared.space.Config.{Config}
use Rattle.sweep_core.specs.declared.request.Request.{Request}
use Rattle.sweep_core.specs.declared.profiles.PairProfile.{PairProfile}
use Rattle.sweep_core.specs.SweepText.{configs_of, rows_of}
use Rattle.sweep_core.specs.Work.{pair_of, geometry_of_pair}
use Rattle.sweep_core.specs.internal.Pass.{SweepStandsFor, WasFed, pair_after_events}
use Rattle.sweep_core.specs.internal.Pass.{profiles_after}
use Rattle.sweep_core.specs.internal.Runs.{rows_of_profile, run_of, Serves, ServesRows}
use Rattle.sweep_core.proofs.Lists.{Each-weaker}
use Rattle.sweep_core.proofs.Runs.{run-pair}
use Rattle.sweep_core.proofs.Serving.{swept-serve}
use Rattle.sweep_core.proofs.Standing.{work-is, fed-after, geometry-kept}
use Rattle.sweep_core.specs.declared.full.profiles.FullPair.{FullPair}
use Rattle.sweep_core.specs.internal.FullRuns.{plain_pair, full_counted_profiles, ServesFull}
use Rattle.sweep_core.specs.internal.Full.{full_pairs_after, IsFedFor}
use Rattle.sweep_core.specs.internal.Full.{FullStandsFor, IsNewPair}
use Rattle.sweep_core.specs.FullText.{full_row_counts}
use Rattle.sweep_core.specs.FullRows.{full_counted_rows, FullCountedSweep, full_counted_sweep}

-- the plain parts, after some events
plain-after : (es : List Event) (xs : List FullPair) →
    map plain_pair (full_pairs_after es xs) ≡ profiles_after es (map plain_pair xs)
plain-after es [] = refl
plain-after es (x ∷ xs) =
    ap (λ p. record (plain_pair x) { profile = p } ∷ map plain_pair (full_pairs_after es xs))
    (plain_from es x.profile)
    ∙ ap (λ l. pair_after_events es (plain_pair x) ∷ l) (plain-after es xs)

rows-kept : (powers : Bool) (es : List Event) (xs : List PairProfile)
    → flat_map (rows_of_profile powers) (profiles_after es xs)
    ≡ flat_map (rows_of_profile powers) xs
rows-kept powers es [] = refl
rows-kept powers es (x ∷ xs) = ap (λ l. rows_of_profile powers x ++ l) (rows-kept powers es xs)

swept-events : (r : Request) (es : List Event) (xs : List PairProfile) → SweepStandsFor r [] xs →
    SweepStandsFor r es (profiles_after es xs)
swept-events r es xs h = record {
  space = h.space;
  pairs = map-map (λ x. pair_of x.first) (pair_after_events es) xs ∙ h.pairs;
  rows = rows-kept r.space.powers es xs ∙ h.rows;
  fed = fed-after (configs_of r) es xs h.fed;
}

full-fed : (all : List Config) (es : List Event) (xs : List FullPair) →
    Each (IsFedFor all []) xs → Each (IsFedFor all es) (full_pairs_after es xs)
full-fed all es [] h = tt
full-fed all es (x ∷ xs) h = (
  record {
    sound = h.0.sound;
    is = ap (λ v. fold after_full_event v es) h.0.is;
  },
  full-fed all es xs h.1,
)

pub full-events : (r : Request) (es : List Event) (xs : List FullPair) → FullStandsFor r [] xs →
    FullStandsFor r es (full_pairs_after es xs)
full-events r es xs h = record {
  plain = subst (SweepStandsFor r es) (sym (plain-after es xs))
      (swept-events r es (map plain_pair xs) h.plain);
  full = full-fed (configs_of r) es xs h.full;
}

-- the profile of a pair after the last event
abbrev pub ended : FullPair → FullPair
ended x = record x { profile = after_end x.profile }

module _ (r : Request) (es : List Event) where
  plain-fed : (x : FullPair) → (WasFed (configs_of r) es (plain_pair x)) →
      x.profile.plain.geometry ≡ geometry_of_pair (configs_of r) (pair_of x.first)
  plain-fed x fed = geometry-kept (configs_of r) es (plain_pair x) fed

  -- its counts of a row are those of a separate cache
  row-is : (x : FullPair) → IsFedFor (configs_of r) es x → (c : Config) → 1 ≤ c.assoc →
      c.assoc ≤ (geometry_of_pair (configs_of r) (pair_of x.first)).e →
      pair_of c ≡ pair_of x.first →
      full_counts_at (after_end x.profile) c.assoc ≡ full_row_counts es c
  row-is x fed c some deep same =
      ap (λ v. full_counts_at (after_end v) c.assoc) fed.is
      ∙ full_counts_are (geometry_of_pair (configs_of r) (pair_of x.first)) es c.assoc fed.sound
      some deep
      ∙ ap (λ p. full_counts (geometry_value (log2 p.1) c.assoc (log2 p.0)) es) (sym same)

  counted-each : (x : FullPair) → IsFedFor (configs_of r) es x → WasFed (configs_of r) es
      (plain_pair x) → (cs : List Config) → Each (Serves x.profile.plain) cs →
      Each (λ c. pair_of c ≡ pair_of x.first) cs →
      map (λ c. (c, full_counts_at (after_end x.profile) c.assoc)) cs ≡ full_counted_rows es cs
  counted-each x fed plain [] serve pair = refl
  counted-each x fed plain (c ∷ cs) serve pair =
      ap (λ (n : FullCounts). (c, n)
      ∷ map (λ d. (d, full_counts_at (after_end x.profile) d.assoc)) cs)
      (row-is x fed c serve.0.some
      (omega (arith, serve.0.deep, ap (λ g. g.e) (plain-fed x plain))) pair.0)
      ∙ ap (λ l. (c, full_row_counts es c) ∷ l) (counted-each x fed plain cs serve.1 pair.1)

  all-counted : (xs : List FullPair) → Each (IsFedFor (configs_of r) es) xs →
      Each (WasFed (configs_of r) es) (map plain_pair xs) →
      Each (ServesRows r.space.powers) (map plain_pair xs) →
      full_counted_profiles r.space.powers (map ended xs)
      ≡ full_counted_rows es (flat_map (rows_of_profile r.space.powers) (map plain_pair xs))
  all-counted [] fed plain serve = refl
  all-counted (x ∷ xs) fed plain serve =
      ap₂ (λ l k. l ++ k)
      (counted-each x fed.0 plain.0 (rows_of_profile r.space.powers (plain_pair x)) serve.0.rows
      (run-pair r.space.powers x.first x.row_count))
      (all-counted xs fed.1 plain.1 serve.1)
      ∙ sym (map-append (λ c. (c, full_row_counts es c))
      (rows_of_profile r.space.powers (plain_pair x))
      (flat_map (rows_of_profile r.space.powers) (map plain_pair xs)))

  -- the counts of all rows are those of separate caches
  pub full-counted : (xs : List FullPair) → FullStandsFor r es xs →
      full_counted_profiles r.space.powers (map ended xs) ≡ full_counted_rows es (rows_of r)
  full-counted xs h =
      all-counted xs h.full h.plain.fed (swept-serve r es (map plain_pair xs) h.plain)
      ∙ ap (full_counted_rows es) h.plain.rows

  serve-ended : (powers : Bool) (xs : List FullPair) →
      Each (ServesRows powers) (map plain_pair xs) → Each (ServesFull powers) (map ended xs)
  serve-ended powers [] h = tt
  serve-ended powers (x ∷ xs) h = (
    record {
      some = h.0.some;
      rows = Each-weaker (Serves x.profile.plain) (Serves (after_end x.profile).plain)
          (λ c s. record { some = s.some; deep = s.deep; few = s.few; fits = s.fits })
          (run_of powers x.first x.row_count) h.0.rows;
    },
    serve-ended powers xs h.1,
  )

  -- they can be had
  pub full-serve : (xs : List FullPair) → FullStandsFor r es xs →
      Each (ServesFull r.space.powers) (map ended xs)
  full-serve xs h = serve-ended r.space.powers xs (swept-serve r es (map plain_pair xs) h.plain)

  probes-same : (n : ℕ) (xs : List FullPair) →
      fold (λ t x. t + x.profile.plain.probes) n (map ended xs)
      ≡ fold (λ t x. t + x.profile.probes) n (map plain_pair xs)
  probes-same n [] = refl
  probes-same n (x ∷ xs) = probes-same (n + x.profile.plain.probes) xs

  pub full-counted-is : (xs : List FullPair) → FullStandsFor r es xs →
      ◌≡◌ {A = FullCountedSweep} (record {
        rows = full_counted_profiles r.space.powers (map ended xs);
        comparisons =
            sum_by (λ x. x.profile.plain.probes) (map ended xs);
      }) (full_counted_sweep r es)
  full-counted-is xs h =
      ap₂ (λ rows n. record { rows = rows; comparisons = n }) (full-counted xs h)
      (probes-same 0 xs ∙ work-is (configs_of r) (rows_of r) es (map plain_pair xs) h.plain.pairs
      h.plain.fed)

-- new profiles
pub full-new : (r : Request) (x : FullPair) → WasFed (configs_of r) [] (plain_pair x) →
    (g : GeometryValue) → x.profile ≡ empty_full g → IsFedFor (configs_of r) [] x
full-new r x plain g is =
    let same : g ≡ geometry_of_pair (configs_of r) (pair_of x.first) =
    sym (ap (λ v. v.plain.geometry) is) ∙ geometry-kept (configs_of r) [] (plain_pair x) plain in
    record { sound = plain.sound; is = is ∙ ap empty_full same }

pub fresh-full : (r : Request) (xs : List FullPair) → Each (IsFedFor (configs_of r) []) xs →
    Each IsNewPair xs
fresh-full r [] h = tt
fresh-full r (x ∷ xs) h =
    let g : x.profile.plain.geometry ≡ geometry_of_pair (configs_of r) (pair_of x.first) =
    ap (λ v. v.plain.geometry) h.0.is in (
      record { geometry = subst IsGeometry (sym g) h.0.sound; is = h.0.is ∙ ap empty_full (sym g) },
      fresh-full r xs h.1,
    )
