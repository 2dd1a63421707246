-- A walk over the rows of the profiles of a full sweep.
use Rattle.std.proofs.Common.{◌≡◌, ℕ, Bool, List, [], ◌∷◌}
use Rattle.std.proofs.Common.{sym, ap, ◌∙◌, arith, subst}
use Rattle.std.specs.List.{AllByRecursion as Each}
use Rattle.full_profile.specs.declared.counts.FullCounts.{FullCounts}
use Rattle.full_profile.specs.State.{FullState, full_counts_at}
use Rattle.full_profile.specs.Sums.{full_sums_at}
use Rattle.sweep_core.specs.declared.space.Config.{Config}
use Rattle.sweep_core.specs.declared.full.profiles.FullPair.{FullPair}
use Rattle.sweep_core.specs.declared.full.rows.FullWalk.{FullWalk}
use Rattle.sweep_core.specs.Space.{HasSize}
use Rattle.sweep_core.specs.internal.Runs.{run_of, Serves}
use Rattle.sweep_core.specs.internal.FullRuns.{full_counted_run, full_counted_profiles, ServesFull}
use Rattle.sweep_core.specs.internal.FullRuns.{IsFullWalk}
use Rattle.sweep_core.proofs.Lists.{Each-append}
use Rattle.sweep_core.proofs.Serving.{run-sizes}

-- A walk over the rows of a pair begins.
pub walk-start : {powers : Bool} {x : FullPair} {w : FullWalk} → ServesFull powers x →
    w.profile.now ≡ x.profile
    → w.sums ≡ full_sums_at x.profile 0 → w.next ≡ x.first → w.left ≡ x.row_count →
    IsFullWalk powers w
walk-start {powers = powers} {x = x} {w = w} rows same begun first all =
    let none : w.sums.ways ≡ 0 = ap (λ t. t.ways) begun in
    record {
      summed = begun ∙ ap (full_sums_at x.profile) (sym none) ∙
          ap (λ v. full_sums_at v w.sums.ways) (sym same);
      rising = omega (arith, none);
      serves = subst (λ (v : FullState). Each (Serves v.plain) (run_of powers w.next w.left))
          (sym same)
          (subst (λ (c : Config). Each (Serves x.profile.plain) (run_of powers c w.left))
          (sym first)
          (subst (λ (n : ℕ). Each (Serves x.profile.plain) (run_of powers x.first n))
          (sym all) rows.rows));
    }

-- the sizes of all rows fit
pub all-sizes : (powers : Bool) (xs : List FullPair) → Each (ServesFull powers) xs
    → Each (λ (row : Config × FullCounts). HasSize row.0) (full_counted_profiles powers xs)
all-sizes powers [] serve = tt
all-sizes powers (x ∷ xs) serve =
    Each-append _ (full_counted_run powers x.profile x.first x.row_count)
    (full_counted_profiles powers xs)
    (run-sizes (full_counts_at x.profile) x.profile.plain (run_of powers x.first x.row_count)
    serve.0.rows)
    (all-sizes powers xs serve.1)
