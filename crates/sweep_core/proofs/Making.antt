-- The profiles of a sweep, made one after another as its pairs come.
use Rattle.std.proofs.Common.{◌≡◌, ℕ, zero, suc, true, false, not, List, [], ◌∷◌, ◌++◌, map, refl}
use Rattle.std.proofs.Common.{sym, ap, ◌∙◌, Option, None, Some, append-nil, append_assoc, subst}
use Rattle.std.proofs.Common.{arith, ◌-◌, ◌≤◌}
use Rattle.std.specs.Prelude.{filter, flat_map, Bool}
use Rattle.std.specs.List.{AllByRecursion as Each}
use Rattle.std.proofs.lemmas.Bool.{cond-false, not_from_true, not_from_false}
use Rattle.std.proofs.lemmas.List.{map-append}
use Rattle.std.proofs.lemmas.List.Concat.{flat_map-append}
use Rattle.sweep_core.specs.declared.space.Config.{Config}
use Rattle.sweep_core.specs.declared.request.Request.{Request}
use Rattle.sweep_core.specs.declared.profiles.PairProfile.{PairProfile}
use Rattle.sweep_core.specs.Space.{is_valid, space_fault}
use Rattle.sweep_core.specs.Table.{is_after, first_rows}
use Rattle.sweep_core.specs.SweepText.{configs_of, rows_of}
use Rattle.cache_core.specs.Powers.{log2}
use Rattle.sweep_core.specs.Work.{pair_of, has_pair, pairs}
use Rattle.sweep_core.specs.internal.Runs.{run_of, rows_of_profile, BeginsWith}
use Rattle.sweep_core.specs.internal.Pass.{SweepStandsFor, WasFed}
use Rattle.sweep_core.proofs.Lists.{Each-append, Each-take, Each-weaker, filter-all}
use Rattle.sweep_core.specs.internal.Walk.{HasDepth}
use Rattle.cache_core.specs.Geometry.{IsGeometry, geometry_value}
use Rattle.profile_core.specs.profile.State.{empty}
use Rattle.sweep_core.proofs.Validity.{IsLimited}
use Rattle.sweep_core.proofs.Depths.{geometry-of, depth-is, same-geometry}
use Rattle.sweep_core.proofs.Members.{table-each}
use Rattle.sweep_core.proofs.Pairs.{Each-pairs, has_pair-from}
use Rattle.sweep_core.proofs.Runs.{next, run-first}

-- a configuration that a request may write
abbrev pub Belongs : Request → Config → Type 0
Belongs r c = (is_valid r.space c ≡ true) × (is_after r.after c ≡ true)

pub first-each : {A : Type 0} (P : A → Type 0) (n : Option ℕ) (xs : List A) → Each P xs →
    Each P (first_rows n xs)
first-each P None xs h = h
first-each P (Some n) xs h = Each-take P n xs h

pub rows-belong : (r : Request) → Each (Belongs r) (rows_of r)
rows-belong r = first-each (Belongs r) r.rows (configs_of r) (table-each r.space r.after)

-- no pair of others is left out
kept : (c : Config) (left : List Config) → Each (λ d. has_pair (pair_of d) c ≡ false) left →
    filter (λ p. not (has_pair p c)) (pairs left) ≡ pairs left
kept c left apart =
    filter-all (λ p. not (has_pair p c)) (pairs left)
    (Each-pairs (λ p. not (has_pair p c) ≡ true) left
    (Each-weaker _ _ (λ d h. not_from_false _ h) left apart))

-- the pairs of a run and of others are its pair and theirs
pairs-run : (powers : Bool) (c : Config) (n : ℕ) (left : List Config) →
    Each (λ d. has_pair (pair_of d) c ≡ false) left
    → pairs (run_of powers c (suc n) ++ left) ≡ pair_of c ∷ pairs left
unfolding pairs
pairs-run powers c zero left apart = ap (λ l. pair_of c ∷ l) (kept c left apart)
pairs-run powers c (suc n) left apart =
    ap (λ l. pair_of c ∷ filter (λ p. not (has_pair p c)) l)
    (pairs-run powers (next powers c) n left apart)
    ∙ ap (λ l. pair_of c ∷ l) (cond-false _ _ _
    (not_from_true _ (has_pair-from (pair_of c) c refl)) ∙ kept c left apart)

-- The profiles made so far, and the rows that are left.
pub record Making (r : Request) (made : List PairProfile) (left : List Config) : Type 0 where
  pub pairs : pairs (rows_of r) ≡ map (λ x. pair_of x.first) made ++ pairs left
  pub rows : rows_of r ≡ flat_map (rows_of_profile r.space.powers) made ++ left
  pub fed : Each (WasFed (configs_of r) []) made
  pub belong : Each (Belongs r) left

pub making-start : (r : Request) → Making r [] (rows_of r)
making-start r = record { pairs = refl; rows = refl; fed = tt; belong = rows-belong r }

-- a new profile of a pair, as deep as the pair
pub new-fed : (r : Request) (x : PairProfile) {depth s b : ℕ} → 1 ≤ x.row_count →
    HasDepth r.space x.first depth → is_after r.after x.first ≡ true → IsLimited r.space
    → s ≡ log2 x.first.sets → b ≡ log2 x.first.bsize →
    x.profile ≡ empty (geometry_value s depth b) → WasFed (configs_of r) [] x
new-fed r x {depth = n} some d later limits sets bsize new =
    let deep = depth-is r.space r.after x.first n limits d.valid later d.reached d.greatest in
    record {
      some = some;
      sound = subst IsGeometry (same-geometry refl (sym deep) refl)
          (geometry-of r.space (record x.first { assoc = n }) limits d.reached);
      is = new ∙ ap empty (same-geometry sets (sym deep) bsize);
    }

module _ (r : Request) {made : List PairProfile} {left later : List Config} {run : Config × ℕ}
    (m : Making r made left)
    (b : BeginsWith r.space.powers left run later) where
  whole : left ≡ run.0 ∷ run_of r.space.powers (next r.space.powers run.0) (run.1 - 1) ++ later
  whole = b.whole ∙ ap (λ l. l ++ later) (run-first r.space.powers run.0 run.1 (run.1 - 1)
      (omega (arith, b.some)))

  -- the first row of the next pair is one of the request
  pub making-first : Belongs r run.0
  making-first = (subst (Each (Belongs r)) whole m.belong).0

  -- the next pair, with its profile
  pub making-more : (x : PairProfile) → x.first ≡ run.0 → x.row_count ≡ run.1 →
      WasFed (configs_of r) [] x → Making r (made ++ x ∷ []) later
  making-more x first rows fed =
      let pair : PairProfile → ℕ × ℕ = λ y. pair_of y.first in
      let own : PairProfile → List Config = rows_of_profile r.space.powers in
      let of_run : run_of r.space.powers run.0 run.1 ≡ own x =
      ap (λ c. run_of r.space.powers c run.1) (sym first) ∙ ap (run_of r.space.powers x.first)
      (sym rows) in
      record {
        pairs = m.pairs ∙ ap (λ ps. map pair made ++ ps) (ap pairs whole ∙
            pairs-run r.space.powers run.0 (run.1 - 1) later b.apart
            ∙ ap (λ c. pair_of c ∷ pairs later) (sym first))
            ∙ sym (append_assoc (map pair made) (pair x ∷ []) (pairs later)) ∙
            ap (λ l. l ++ pairs later) (sym (map-append pair made (x ∷ [])));
        rows = m.rows ∙ ap (λ l. flat_map own made ++ l) (b.whole ∙
            ap (λ l. l ++ later) (of_run ∙ sym (append-nil (own x))))
            ∙ sym (append_assoc (flat_map own made) (flat_map own (x ∷ [])) later) ∙
            ap (λ l. l ++ later) (sym (flat_map-append own made (x ∷ [])));
        fed = Each-append _ made (x ∷ []) m.fed (fed, tt);
        belong = rest r.space.powers run.0 run.1 (subst (Each (Belongs r)) b.whole m.belong);
      }
    where
      rest : (powers : Bool) (c : Config) (n : ℕ) → Each (Belongs r) (run_of powers c n ++ later) →
          Each (Belongs r) later
      rest powers c zero h = h
      rest powers c (suc n) h = rest powers (next powers c) n h.1

pub making-end : (r : Request) (made : List PairProfile) (left : List Config) →
    space_fault r.space ≡ None → Making r made left → left ≡ []
    → SweepStandsFor r [] made
unfolding pairs
making-end r made left space m none = record {
  space = space;
  pairs = sym (m.pairs ∙ ap (λ l. map (λ x. pair_of x.first) made ++ pairs l) none ∙
      append-nil (map (λ x. pair_of x.first) made));
  rows = sym (m.rows ∙ ap (λ l. flat_map (rows_of_profile r.space.powers) made ++ l) none ∙
      append-nil (flat_map (rows_of_profile r.space.powers) made));
  fed = m.fed;
}
