-- The profiles of a sweep have the counts of their rows.
use Rattle.std.proofs.Common.{◌≡◌, ℕ, zero, suc, ◌-◌, ◌≤◌, Bool, Option, None, Some, List, [], ◌∷◌}
use Rattle.std.proofs.Common.{◌++◌, map, refl, sym, ap, ap₂, ◌∙◌, arith, subst}
use Rattle.std.specs.Prelude.{flat_map, nat_lt}
use Rattle.std.specs.Bool.{then_some}
use Rattle.std.specs.List.{AllByRecursion as Each}
use Rattle.std.proofs.lemmas.Bool.{lt-ltb}
use Rattle.std.proofs.lemmas.List.{map-append}
use Rattle.trace_core.specs.declared.events.Event.{Event}
use Rattle.cache_core.specs.declared.outcome.Counts.{Counts}
use Rattle.cache_core.specs.Geometry.{geometry_value}
use Rattle.cache_core.specs.Windows.{counts}
use Rattle.cache_core.specs.Powers.{log2}
use Rattle.profile_core.specs.profile.State.{ProfileState, hit_sums_at, counts_at}
use Rattle.profile_core.proofs.profile.Counting.{counts_are}
use Rattle.sweep_core.specs.declared.space.Config.{Config}
use Rattle.sweep_core.specs.declared.request.Request.{Request}
use Rattle.sweep_core.specs.declared.profiles.PairProfile.{PairProfile}
use Rattle.sweep_core.specs.declared.rows.PairWalk.{PairWalk}
use Rattle.sweep_core.specs.Space.{space_fault, most_ways, HasSize}
use Rattle.sweep_core.specs.SweepText.{row_counts, configs_of, rows_of}
use Rattle.sweep_core.specs.Rows.{counted_rows}
use Rattle.sweep_core.specs.Work.{pair_of, depth}
use Rattle.sweep_core.specs.internal.Runs.{run_of, rows_of_profile, counted_run, counted_profiles}
use Rattle.sweep_core.specs.internal.Runs.{rows_by_pair, Serves, ServesRows, IsWalk}
use Rattle.sweep_core.specs.internal.Pass.{SweepStandsFor, WasFed}
use Rattle.sweep_core.proofs.Lists.{Each-self, Each-both, Each-split, Each-append}
use Rattle.sweep_core.proofs.Validity.{IsLimited, space-limited, valid_of, products}
use Rattle.sweep_core.proofs.Depths.{depth-above}
use Rattle.sweep_core.proofs.Runs.{next, run-first, run-pair}
use Rattle.sweep_core.proofs.Making.{Belongs, rows-belong, first-each}
use Rattle.sweep_core.proofs.Standing.{stands, geometry-kept}

-- a row whose numbers fit, and which is not deeper than its pair
pub record Sized (r : Request) (c : Config) : Type 0 where
  pub some : 1 ≤ c.assoc
  pub deep : c.assoc ≤ depth (configs_of r) (pair_of c)
  pub few : c.assoc ≤ most_ways
  pub fits : HasSize c

sized : (r : Request) (c : Config) → IsLimited r.space → Belongs r c →
    c.assoc ≤ depth (configs_of r) (pair_of c) → Sized r c
sized r c l b d =
    let v = valid_of r.space c b.0 in
    let p = products r.space c.bsize c.sets c.assoc l v.bsize v.sets v.assoc in
    record {
      some = omega (arith, v.assoc.0, l.assoc.0);
      deep = d;
      few =
          omega (arith, v.assoc.1, l.assoc.1);
      fits = (p.1, p.2);
    }

pub rows-sized : (r : Request) → space_fault r.space ≡ None → Each (Sized r) (rows_of r)
rows-sized r sound =
    Each-both (Belongs r) (λ c. c.assoc ≤ depth (configs_of r) (pair_of c)) (Sized r)
    (λ c b d. sized r c (space-limited r.space sound) b d) (rows_of r)
    (rows-belong r)
    (first-each (λ c. c.assoc ≤ depth (configs_of r) (pair_of c)) r.rows (configs_of r)
    (Each-self (λ c. c.assoc ≤ depth (configs_of r) (pair_of c)) (configs_of r)
    (λ c m. depth-above (configs_of r) c m)))

module _ (r : Request) (es : List Event) where
  serves : (x : PairProfile) → WasFed (configs_of r) es x →
      Each (Sized r) (rows_of_profile r.space.powers x) → ServesRows r.space.powers x
  serves x fed sized =
      let is = geometry-kept (configs_of r) es x fed in
      record {
        some = fed.some;
        rows = Each-both (Sized r) (λ c. pair_of c ≡ pair_of x.first) (Serves x.profile)
            (λ c s of_pair. record {
              some = s.some;
              deep = omega (arith, s.deep, ap (depth (configs_of r)) of_pair, ap (λ g. g.e) is);
              few = s.few;
              fits = s.fits;
            })
            (rows_of_profile r.space.powers x) sized (run-pair r.space.powers x.first x.row_count);
      }

  -- its counts of a row are those of a separate cache
  row-is : (x : PairProfile) → WasFed (configs_of r) es x → (c : Config) →
      c.assoc ≤ x.profile.geometry.e → pair_of c ≡ pair_of x.first
      → counts_at x.profile c.assoc ≡ row_counts es c
  row-is x fed c deep same =
      counts_are es x.profile c.assoc (stands (configs_of r) es x fed) deep
      ∙ ap (λ g. counts (record g { e = c.assoc }) es) (geometry-kept (configs_of r) es x fed)
      ∙ ap (λ p. counts (geometry_value (log2 p.1) c.assoc (log2 p.0)) es) (sym same)

  counted-each : (x : PairProfile) → WasFed (configs_of r) es x → (cs : List Config) →
      Each (Serves x.profile) cs
      → Each (λ c. pair_of c ≡ pair_of x.first) cs →
      map (λ c. (c, counts_at x.profile c.assoc)) cs ≡ counted_rows es cs
  counted-each x fed [] serve pair = refl
  counted-each x fed (c ∷ cs) serve pair =
      ap (λ (n : Counts). (c, n) ∷ map (λ d. (d, counts_at x.profile d.assoc)) cs)
      (row-is x fed c serve.0.deep pair.0)
      ∙ ap (λ l. (c, row_counts es c) ∷ l) (counted-each x fed cs serve.1 pair.1)

  all-serve : (xs : List PairProfile) → Each (WasFed (configs_of r) es) xs →
      Each (Sized r) (flat_map (rows_of_profile r.space.powers) xs)
      → Each (ServesRows r.space.powers) xs
  all-serve [] fed sized = tt
  all-serve (x ∷ xs) fed sized =
      let w = Each-split (Sized r) (rows_of_profile r.space.powers x)
      (flat_map (rows_of_profile r.space.powers) xs) sized in
      (serves x fed.0 w.0, all-serve xs fed.1 w.1)

  -- the counts of all rows can be had
  pub swept-serve : (xs : List PairProfile) → SweepStandsFor r es xs →
      Each (ServesRows r.space.powers) xs
  swept-serve xs swept = all-serve xs swept.fed (subst (Each (Sized r)) (sym swept.rows)
      (rows-sized r swept.space))

  all-counted : (xs : List PairProfile) → Each (WasFed (configs_of r) es) xs →
      Each (ServesRows r.space.powers) xs
      → counted_profiles r.space.powers xs ≡ counted_rows es
      (flat_map (rows_of_profile r.space.powers) xs)
  all-counted [] fed serve = refl
  all-counted (x ∷ xs) fed serve =
      ap₂ (λ l k. l ++ k) (counted-each x fed.0 (rows_of_profile r.space.powers x) serve.0.rows
      (run-pair r.space.powers x.first x.row_count))
      (all-counted xs fed.1 serve.1)
      ∙ sym (map-append (λ c. (c, row_counts es c)) (rows_of_profile r.space.powers x)
      (flat_map (rows_of_profile r.space.powers) xs))

  -- and are those of separate caches
  pub swept-counted : (xs : List PairProfile) → SweepStandsFor r es xs →
      counted_profiles r.space.powers xs ≡ counted_rows es (rows_of r)
  swept-counted xs swept = all-counted xs swept.fed (swept-serve xs swept) ∙
      ap (counted_rows es) swept.rows

-- A walk over the rows of a pair begins.
pub walk-start : {powers : Bool} {x : PairProfile} {w : PairWalk} → ServesRows powers x →
    w.profile.now ≡ x.profile
    → w.sums ≡ hit_sums_at x.profile 0 → w.next ≡ x.first → w.left ≡ x.row_count → IsWalk powers w
walk-start {powers = powers} {x = x} {w = w} rows same begun first all =
    let none : w.sums.ways ≡ 0 = ap (λ t. t.ways) begun in
    record {
      summed = begun ∙ ap (hit_sums_at x.profile) (sym none) ∙
          ap (λ v. hit_sums_at v w.sums.ways) (sym same);
      rising = omega (arith, none);
      serves = subst (λ (v : ProfileState). Each (Serves v) (run_of powers w.next w.left))
          (sym same)
          (subst (λ (c : Config). Each (Serves x.profile) (run_of powers c w.left)) (sym first)
          (subst (λ (n : ℕ). Each (Serves x.profile) (run_of powers x.first n))
          (sym all) rows.rows));
    }

module _ {V C : Type 0} (count : V → ℕ → C) (powers : Bool) where
  -- n configurations from one on, each with what a profile of any kind counts for it
  abbrev pub rows_from : V → Config → ℕ → List (Config × C)
  rows_from v c n = map (λ d. (d, count v d.assoc)) (run_of powers c n)

  module _ {v v' : V} {c c' : Config} {n n' : ℕ} where
    -- The rows that a walk has are those of its profile.
    pub walk-rows : v' ≡ v → c' ≡ c → n' ≡ n → rows_from v' c' n' ≡ rows_from v c n
    walk-rows same first all =
        ap (λ u. rows_from u c' n') same ∙ ap (λ d. rows_from v d n') first ∙ ap (rows_from v c) all

    -- It goes on.
    pub walk-more : 1 ≤ n → v' ≡ v → c' ≡ next powers c → n' ≡ n - 1 →
        rows_from v c n ≡ (c, count v c.assoc) ∷ rows_from v' c' n'
    walk-more some same is one =
        ap (map (λ e. (e, count v e.assoc))) (run-first powers c n (n - 1) (omega (arith, some)))
        ∙ ap (λ l. (c, count v c.assoc) ∷ l)
        (ap (λ u. rows_from u (next powers c) (n - 1)) (sym same)
        ∙ ap (λ d. rows_from v' d (n - 1)) (sym is) ∙ ap (rows_from v' c') (sym one))

-- The next row of a walk comes first of all that are left, where the walk stays as long as it has a
-- row.
pub comes-first : {R W : Type 0} (to_come : Option W → List R) {after : W} {left : ℕ} {row : R}
    {rows tail : List R} {rest : Option W} → rows ≡ row ∷ tail →
    rest ≡ then_some (nat_lt 0 left) after → (left ≡ 0 → tail ≡ to_come None) →
    tail ≡ to_come (Some after) → rows ≡ row ∷ to_come rest
comes-first to_come {after} {left} {row} {rows} {tail} {rest} first stays end more =
    first ∙ ap (λ l. row ∷ l) (by_left left refl ∙ ap to_come (sym stays))
  where
    by_left : (n : ℕ) → left ≡ n → tail ≡ to_come (then_some (nat_lt 0 left) after)
    by_left zero none =
        end none ∙ sym (ap (λ k. to_come (then_some (nat_lt 0 k) after)) none)
    by_left (suc k) some =
        more ∙ sym (ap (λ b. to_come (then_some b after)) (lt-ltb 0 left (omega (arith, some))))

-- the sizes of all rows fit
pub run-sizes : {C : Type 0} (count : ℕ → C) (v : ProfileState) (cs : List Config) →
    Each (Serves v) cs →
    Each (λ (row : Config × C). HasSize row.0) (map (λ d. (d, count d.assoc)) cs)
run-sizes count v [] serve = tt
run-sizes count v (c ∷ cs) serve = (serve.0.fits, run-sizes count v cs serve.1)

pub all-sizes : (powers : Bool) (xs : List PairProfile) → Each (ServesRows powers) xs
    → Each (λ (row : Config × Counts). HasSize row.0) (counted_profiles powers xs)
all-sizes powers [] serve = tt
all-sizes powers (x ∷ xs) serve =
    Each-append _ (counted_run powers x.profile x.first x.row_count) (counted_profiles powers xs)
    (run-sizes (counts_at x.profile) x.profile (rows_of_profile powers x) serve.0.rows)
    (all-sizes powers xs serve.1)

-- so do those by pairs, which are the same rows
pub pairs-sizes : (powers : Bool) (xs : List PairProfile) → Each (ServesRows powers) xs
    → Each (Each (λ (row : Config × Counts). HasSize row.0)) (rows_by_pair powers xs)
pairs-sizes powers [] serve = tt
pairs-sizes powers (x ∷ xs) serve = (
  run-sizes (counts_at x.profile) x.profile (rows_of_profile powers x) serve.0.rows,
  pairs-sizes powers xs serve.1,
)

pub pairs-rows : (powers : Bool) (xs : List PairProfile) →
    flat_map (λ rows. rows) (rows_by_pair powers xs) ≡ counted_profiles powers xs
pairs-rows powers [] = refl
pairs-rows powers (x ∷ xs) = ap (λ l. counted_run powers x.profile x.first x.row_count ++ l)
    (pairs-rows powers xs)
