-- Settled references are counted later: a profile that was fed the others lags behind one that was
-- fed all, and another one that refines it needs no more than they.
use Rattle.std.proofs.Common.{◌≡◌, ℕ, ◌+◌, ◌-◌, ◌≤◌, Bool, true, false, cond, eqb, ltb, List, []}
use Rattle.std.proofs.Common.{◌∷◌, ◌++◌, length, map, get_or, refl, sym, ◌∙◌, ap, subst, arith}
use Rattle.std.proofs.Common.{append-nil, append_assoc, fold, replicate, ◌^◌}
use Rattle.std.proofs.lemmas.List.Folds.{sum_by-replicate}
use Rattle.trace_core.specs.declared.events.Ref.{Ref}
use Rattle.trace_core.specs.declared.events.Event.{Event}
use Rattle.trace_core.specs.declared.events.Event.TheVariants as event
use Rattle.cache_core.specs.Geometry.{GeometryValue, IsGeometry, block_of, set_of}
use Rattle.cache_core.proofs.Lists.{cases}
use Rattle.profile_core.specs.profile.RecencyList.{index_of, is_in}
use Rattle.profile_core.specs.profile.State.{ProfileState, list_of, fed_of, one_more_at}
use Rattle.profile_core.specs.profile.State.{after_reference, after_flush}
use Rattle.profile_core.specs.profile.Fronts.{after_fronts, is_refined}
use Rattle.profile_core.proofs.profile.Fronts.{fronts_none, fronts_fronts, reference_fronts}
use Rattle.profile_core.proofs.profile.Fronts.{reference_fed, fit_behind}
use Rattle.full_profile.specs.State.{FullState, cleans_of, after_copies, after_evictions}
use Rattle.full_profile.specs.State.{after_copies_of, after_full_reference, after_full_flush}
use Rattle.full_profile.specs.State.{empty_full}
use Rattle.full_profile.specs.Batches.{IsFitFull, is_settled, after_settled, after_unless_settled}
use Rattle.full_profile.specs.Batches.{after_full_batch, unsettled, with_settled, LagsBehind}
use Rattle.full_profile.proofs.laws.Fit.{fit_after}
use Rattle.full_profile.proofs.laws.Runs.{after_more}
use Rattle.full_profile.proofs.laws.Settled.{settled_changes_fronts_only, settled_is_refined}

pub settled_none : (v : FullState) → after_settled 0 v ≡ v
settled_none v = ap (λ (p : ProfileState). record v { plain = p }) (fronts_none v.plain)

pub settled_settled : (m n : ℕ) (v : FullState) →
    after_settled m (after_settled n v) ≡ after_settled (n + m) v
settled_settled m n v =
    ap (λ (p : ProfileState). record v { plain = p }) (fronts_fronts m n v.plain)

copies_settled : (n above up_to : ℕ) (v : FullState) →
    after_copies above up_to (after_settled n v) ≡ after_settled n (after_copies above up_to v)
copies_settled n above up_to v = elim (ltb above up_to) as (λ b.
    cond b (record (after_settled n v) {
      copied_above = one_more_at v.copied_above above;
      copied_up_to = one_more_at v.copied_up_to up_to;
    }) (after_settled n v) ≡ after_settled n (cond b (record v {
      copied_above = one_more_at v.copied_above above;
      copied_up_to = one_more_at v.copied_up_to up_to;
    }) v)) [ true ↦ refl | false ↦ refl ]

either_settled : (n : ℕ) (b : Bool) (v u v' u' : FullState) → v' ≡ after_settled n v →
    u' ≡ after_settled n u → cond b v' u' ≡ after_settled n (cond b v u)
either_settled n true v u v' u' p q = p
either_settled n false v u v' u' p q = q

evictions_settled : (n depth x : ℕ) (blocks cleans : List ℕ) (v : FullState) →
    after_evictions depth x blocks cleans (after_settled n v)
    ≡ after_settled n (after_evictions depth x blocks cleans v)
evictions_settled n depth x blocks cleans v =
    either_settled n (is_in x blocks) _ _ _ _
    (copies_settled n (get_or cleans (index_of x blocks) 0) (index_of x blocks) v)
    (either_settled n (eqb (length blocks) depth) _ _ _ _
    (copies_settled n (get_or cleans (depth - 1) 0) depth v) refl)

-- the parts of a profile after a reference
abbrev with_parts : FullState → ProfileState → FullState → FullState
with_parts copied plain rest = record copied {
  plain = plain;
  cleans = rest.cleans;
  kinds = rest.kinds;
}

-- a reference after them is one before them
pub reference_settled : (n : ℕ) (v : FullState) (r : Ref) →
    after_full_reference (after_settled n v) r ≡ after_settled n (after_full_reference v r)
reference_settled n v r =
    let g : GeometryValue = v.plain.geometry in
    let k : ℕ = set_of g r.addr in
    let x : ℕ = block_of g r.addr in
    let rest : FullState = after_full_reference v r in
    ap (λ u. with_parts u (after_reference (after_fronts n v.plain) x) rest)
    (evictions_settled n g.e x (list_of v.plain k) (cleans_of v k) v)
    ∙ ap (λ p. with_parts (after_evictions g.e x (list_of v.plain k) (cleans_of v k) v) p rest)
    (reference_fronts n v.plain x)

-- and so is a flush
copies_of_settled : (n : ℕ) (up_to : ℕ → ℕ) (index : ℕ) (cleans : List ℕ) (v : FullState) →
    after_copies_of up_to index cleans (after_settled n v)
    ≡ after_settled n (after_copies_of up_to index cleans v)
unfolding after_copies_of
copies_of_settled n up_to index [] v = refl
copies_of_settled n up_to index (clean ∷ cleans) v =
    ap (after_copies clean (up_to index)) (copies_of_settled n up_to (index + 1) cleans v)
    ∙ copies_settled n clean (up_to index) (after_copies_of up_to (index + 1) cleans v)

all_settled : (n : ℕ) (up_to : ℕ → ℕ) (lists : List (List ℕ)) (v : FullState) →
    fold (λ w cleans. after_copies_of up_to 0 cleans w) (after_settled n v) lists
    ≡ after_settled n (fold (λ w cleans. after_copies_of up_to 0 cleans w) v lists)
all_settled n up_to [] v = refl
all_settled n up_to (cleans ∷ lists) v =
    ap (λ u. fold (λ w cs. after_copies_of up_to 0 cs w) u lists)
    (copies_of_settled n up_to 0 cleans v)
    ∙ all_settled n up_to lists (after_copies_of up_to 0 cleans v)

pub flush_settled : (n : ℕ) (v : FullState) →
    after_full_flush (after_settled n v) ≡ after_settled n (after_full_flush v)
flush_settled n v =
    ap (λ (u : FullState). record u {
      plain = after_flush (after_fronts n v.plain);
      cleans = replicate (2 ^ v.plain.geometry.s) [];
    }) (all_settled n (λ index. v.plain.geometry.e) v.cleans v)

pub fit_lagging : (n : ℕ) (v : FullState) → IsFitFull (after_settled n v) → IsFitFull v
fit_lagging n v h = record {
  plain = fit_behind n v.plain h.plain;
  set_count = h.set_count;
  alike = h.alike;
  kind_count = h.kind_count;
  behind_count = h.behind_count;
  above_count = h.above_count;
  up_to_count = h.up_to_count;
}

-- one reference more, which is fed unless it is settled
pub fed_more : (n : ℕ) (v : FullState) (r : Ref) → IsFitFull v → fed_of v.plain ≤ n →
    fed_of (after_unless_settled v r).plain ≤ n + 1
fed_more n v r fit few = cases
    (λ b. fed_of (cond b v (after_full_reference v r)).plain ≤ n + 1)
    (is_settled v r)
    (λ t. omega (arith, few))
    (λ f. omega (arith, few, reference_fed v.plain (block_of v.plain.geometry r.addr) fit.plain))

pub caught_more : (n : ℕ) (v : FullState) (r : Ref) → IsFitFull v → fed_of v.plain ≤ n →
    with_settled (n + 1) (after_unless_settled v r) ≡ after_full_reference (with_settled n v) r
caught_more n v r fit few =
    let lag : ℕ = n - fed_of v.plain in
    cases (λ b. is_settled v r ≡ b →
    with_settled (n + 1) (cond b v (after_full_reference v r)) ≡ after_full_reference
    (after_settled lag v) r)
    (is_settled v r)
    (λ t is.
    ap (λ m. after_settled m v) {x = n + 1 - fed_of v.plain} {y = 1 + lag} (omega (arith, few))
    ∙ sym (settled_settled lag 1 v)
    ∙ ap (after_settled lag) (sym (settled_changes_fronts_only v r fit is))
    ∙ sym (reference_settled lag v r))
    (λ f is.
    ap (λ m. after_settled m (after_full_reference v r)) {x = n + 1 - fed_of
    (after_full_reference v r).plain} {y = lag}
    (omega (arith, few, reference_fed v.plain (block_of v.plain.geometry r.addr) fit.plain))
    ∙ sym (reference_settled lag v r))
    refl

pub lags_new : (g : GeometryValue) → LagsBehind 0 g [] (empty_full g)
lags_new g =
    let none : fed_of (empty_full g).plain ≡ 0 = omega (
      arith,
      sum_by-replicate (λ m. m) g.e 0,
      sum_by-replicate (λ m. m) (g.e + 1) 0,
    ) in
    record {
      few = omega (arith, none);
      caught = ap (λ m. after_settled m (empty_full g)) {x = 0 - fed_of (empty_full g).plain}
          {y = 0} (omega arith) ∙ settled_none (empty_full g);
    }

pub lags_flush : (g : GeometryValue) (n : ℕ) (es : List Event) (v : FullState) →
    LagsBehind n g es v → LagsBehind n g (es ++ event.Flush ∷ []) (after_full_flush v)
lags_flush g n es v h = record {
  few = h.few;
  caught = sym (flush_settled (n - fed_of v.plain) v) ∙ ap after_full_flush h.caught
      ∙ sym (after_more g es event.Flush);
}

module _ (g : GeometryValue) (is : IsGeometry g) where
  fit_there : (n : ℕ) (es : List Event) (v : FullState) → LagsBehind n g es v → IsFitFull v
  fit_there n es v h = fit_lagging (n - fed_of v.plain) v
      (subst IsFitFull (sym h.caught) (fit_after g es is))

  pub lags_more : (n : ℕ) (es : List Event) (v : FullState) (r : Ref) → LagsBehind n g es v →
      LagsBehind (n + 1) g (es ++ event.Reference r ∷ []) (after_unless_settled v r)
  lags_more n es v r h = record {
    few = fed_more n v r (fit_there n es v h) h.few;
    caught = caught_more n v r (fit_there n es v h) h.few
        ∙ ap (λ u. after_full_reference u r) h.caught
        ∙ sym (after_more g es (event.Reference r));
  }

  pub lags_batch : (n : ℕ) (es : List Event) (v : FullState) (refs : List Ref) →
      LagsBehind n g es v
      → LagsBehind (n + length refs) g (es ++ map event.Reference refs) (after_full_batch v refs)
  lags_batch n es v [] h =
      subst (λ (m : ℕ). LagsBehind m g (es ++ []) v) {x = n} {y = n + 0} (omega arith)
      (subst (λ (xs : List Event). LagsBehind n g xs v) (sym (append-nil es)) h)
  lags_batch n es v (r ∷ refs) h =
      let rest = lags_batch (n + 1) (es ++ event.Reference r ∷ []) (after_unless_settled v r) refs
      (lags_more n es v r h) in
      subst (λ (m : ℕ). LagsBehind m g (es ++ map event.Reference (r ∷ refs))
      (after_full_batch v (r ∷ refs))) {x = n + 1 + length refs} {y = n + length (r ∷ refs)}
      (omega arith)
      (subst (λ (xs : List Event). LagsBehind (n + 1 + length refs) g xs
      (after_full_batch v (r ∷ refs))) (append_assoc es (event.Reference r ∷ [])
      (map event.Reference refs)) rest)

module _ (g h : GeometryValue) (one : IsGeometry g) (other : IsGeometry h)
    (refined : is_refined g h ≡ true) where
  settled_in_both : (n : ℕ) (es : List Event) (x y : FullState) (r : Ref) → LagsBehind n g es x →
      LagsBehind n h es y → is_settled x r ≡ true → is_settled y r ≡ true
  settled_in_both n es x y r lags lags' settled =
      ap (λ v. is_settled v r) lags'.caught
      ∙ settled_is_refined g h es r one other refined
      (sym (ap (λ v. is_settled v r) lags.caught) ∙ settled)

  pub unsettled_suffice : (n : ℕ) (es : List Event) (x y : FullState) (refs : List Ref) →
      LagsBehind n g es x → LagsBehind n h es y →
      after_full_batch y (unsettled x refs) ≡ after_full_batch y refs
  unsettled_suffice n es x y [] lags lags' = refl
  unsettled_suffice n es x y (r ∷ refs) lags lags' =
      let later : List Ref = unsettled (after_unless_settled x r) refs in
      let rest = unsettled_suffice (n + 1) (es ++ event.Reference r ∷ []) (after_unless_settled x r)
      (after_unless_settled y r) refs (lags_more g one n es x r lags)
      (lags_more h other n es y r lags') in
      cases (λ b. is_settled x r ≡ b → after_full_batch y (cond b later (r ∷ later))
      ≡ after_full_batch (after_unless_settled y r) refs)
      (is_settled x r)
      (λ t is. ap (λ v. after_full_batch v later)
      (sym (ap (λ b. cond b y (after_full_reference y r))
      (settled_in_both n es x y r lags lags' is)))
      ∙ rest)
      (λ f is. rest)
      refl
