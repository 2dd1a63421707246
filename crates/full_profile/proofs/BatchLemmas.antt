-- What a profile was fed, and what it need not be fed.
use Rattle.std.proofs.Common.{◌≡◌, ℕ, zero, suc, ◌+◌, ◌-◌, ◌≤◌, ◌<◌, ◌^◌, ◌||◌, true}
use Rattle.std.proofs.Common.{cond, not, List, [], ◌∷◌, ◌++◌, refl, sym, ap, ap₂, ◌∙◌, arith}
use Rattle.std.proofs.Common.{length}
use Rattle.std.proofs.Common.{get_or, eqb, map, subst, take, ⊎_elim, get_or-set_same}
use Rattle.std.proofs.lemmas.Bool.{and_parts, and_from, or_cases, or_left, or_right, eqb-true}
use Rattle.std.proofs.lemmas.Bool.{eq-eqb, cond-true, both_ways}
use Rattle.std.proofs.lemmas.Nat.{mod_below, pow_pos}
use Rattle.trace_core.specs.declared.events.Ref.{Ref}
use Rattle.trace_core.specs.declared.events.Event.{Event}
use Rattle.trace_core.specs.declared.events.Event.TheVariants as event
use Rattle.trace_core.specs.Events.{is_write}
use Rattle.cache_core.specs.Geometry.{GeometryValue, IsGeometry, block_of, set_of_block}
use Rattle.cache_core.proofs.Lists.{cases}
use Rattle.profile_core.specs.profile.RecencyList.{is_front}
use Rattle.profile_core.specs.profile.Fronts.{is_front_of, is_refined}
use Rattle.full_profile.specs.State.{FullState, after_full_reference, after_full_flush, cleans_of}
use Rattle.full_profile.specs.Batches.{is_settled, after_unless_settled, after_full_batch}
use Rattle.full_profile.specs.Batches.{unsettled}
use Rattle.full_profile.specs.Batches.{IsFitFull, LagsBehind, IsLagging}
use Rattle.full_profile.proofs.laws.Fit.{fit_after}
use Rattle.full_profile.proofs.laws.Settled.{settled_is_refined}
use Rattle.full_profile.proofs.laws.Later.{fit_lagging, lags_more, lags_batch, lags_flush}
use Rattle.full_profile.proofs.laws.Later.{unsettled_suffice}

pub geometry_unless : (v : FullState) (r : Ref) →
    (after_unless_settled v r).plain.geometry ≡ v.plain.geometry
geometry_unless v r =
    cases (λ b. (cond b v (after_full_reference v r)).plain.geometry ≡ v.plain.geometry)
    (is_settled v r) (λ t. refl) (λ f. refl)

pub geometry_batch : (v : FullState) (refs : List Ref) →
    (after_full_batch v refs).plain.geometry ≡ v.plain.geometry
geometry_batch v [] = refl
geometry_batch v (r ∷ refs) =
    geometry_batch (after_unless_settled v r) refs ∙ geometry_unless v r

pub fit_fed : {n : ℕ} {es : List Event} {v : FullState} → IsLagging n es v → IsFitFull v
fit_fed {n} {es} {v} h = fit_lagging (n - _) v
    (subst IsFitFull (sym h.lags.caught) (fit_after v.plain.geometry es h.geometry))

-- the events of some references
abbrev pub as_events : List Ref → List Event
as_events refs = map event.Reference refs

with_geometry : {n : ℕ} {es : List Event} {g : GeometryValue} {v : FullState} → IsGeometry g →
    v.plain.geometry ≡ g → LagsBehind n g es v → IsLagging n es v
with_geometry {n} {es} {g} {v} is same h = record {
  geometry = subst IsGeometry (sym same) is;
  lags = subst (λ k. LagsBehind n k es v) (sym same) h;
}

-- one reference more
pub fed_reference : {n : ℕ} {es : List Event} {v : FullState} → IsLagging n es v → (r : Ref) →
    IsLagging (n + 1) (es ++ event.Reference r ∷ []) (after_unless_settled v r)
fed_reference {n} {es} {v} h r = with_geometry h.geometry (geometry_unless v r)
    (lags_more v.plain.geometry h.geometry n es v r h.lags)

-- many references more
pub fed_batch : (refs : List Ref) {n : ℕ} {es : List Event} {v : FullState} → IsLagging n es v →
    IsLagging (n + length refs) (es ++ as_events refs) (after_full_batch v refs)
fed_batch refs {n} {es} {v} h = with_geometry h.geometry (geometry_batch v refs)
    (lags_batch v.plain.geometry h.geometry n es v refs h.lags)

-- a flush
pub fed_flush : {n : ℕ} {es : List Event} {v : FullState} → IsLagging n es v →
    IsLagging n (es ++ event.Flush ∷ []) (after_full_flush v)
fed_flush {n} {es} {v} h = record {
  geometry = h.geometry;
  lags = lags_flush v.plain.geometry n es v h.lags;
}

-- A profile that refines another one, which was fed the same, may be given only what the other one
-- has not settled.
settled_there : {n : ℕ} {es : List Event} {v w : FullState} → IsLagging n es v → IsLagging n es w →
    is_refined v.plain.geometry w.plain.geometry ≡ true → (r : Ref) → is_settled v r ≡ true →
    is_settled w r ≡ true
settled_there {n} {es} {v} {w} hv hw refined r is =
    ap (λ u. is_settled u r) hw.lags.caught ∙
    settled_is_refined v.plain.geometry w.plain.geometry es r hv.geometry hw.geometry refined
    (sym (ap (λ u. is_settled u r) hv.lags.caught) ∙ is)

pub enough : (refs : List Ref) {n : ℕ} {es : List Event} {v w : FullState} → IsLagging n es v →
    IsLagging n es w → is_refined v.plain.geometry w.plain.geometry ≡ true →
    after_full_batch w (unsettled v refs) ≡ after_full_batch w refs
enough refs {n} {es} {v} {w} hv hw refined = unsettled_suffice v.plain.geometry w.plain.geometry
    hv.geometry hw.geometry refined n es v w refs hv.lags hw.lags

-- and leaves the same
pub enough_left : (refs : List Ref) {n : ℕ} {es : List Event} {v w : FullState} →
    IsLagging n es v → IsLagging n es w → is_refined v.plain.geometry w.plain.geometry ≡ true →
    unsettled w (unsettled v refs) ≡ unsettled w refs
enough_left [] hv hw refined = refl
enough_left (r ∷ refs) {n} {es} {v} {w} hv hw refined =
    let v' : FullState = after_unless_settled v r in
    let w' : FullState = after_unless_settled w r in
    let later : List Ref = unsettled v' refs in
    let rest = enough_left refs (fed_reference hv r) (fed_reference hw r)
    (ap₂ is_refined (geometry_unless v r) (geometry_unless w r) ∙ refined) in
    cases (λ b. is_settled v r ≡ b →
    unsettled w (cond b later (r ∷ later)) ≡ unsettled w (r ∷ refs))
    (is_settled v r)
    (λ t is.
    let there = settled_there hv hw refined r is in
    let same : w ≡ w' = sym (ap (λ b. cond b w (after_full_reference w r)) there) in
    ap (λ u. unsettled u later) same ∙ rest
    ∙ sym (ap (λ b. cond b (unsettled w' refs) (r ∷ unsettled w' refs)) there))
    (λ f is. ap (λ l. cond (is_settled w r) l (r ∷ l)) rest)
    refl

-- A reference to the block of the one before changes nothing, unless it alone writes.
front_taken : (depth x : ℕ) (ys : List ℕ) → 1 ≤ depth → is_front x (take depth (x ∷ ys)) ≡ true
front_taken zero x ys some = absurd (omega (arith, some))
front_taken (suc depth) x ys some = eq-eqb x x refl

first_taken : (depth c : ℕ) (cs : List ℕ) → 1 ≤ depth → get_or (take depth (c ∷ cs)) 0 0 ≡ c
first_taken zero c cs some = absurd (omega (arith, some))
first_taken (suc depth) c cs some = refl

module _ (v : FullState) (a r : Ref) (fit : IsFitFull v)
    (same : block_of v.plain.geometry a.addr ≡ block_of v.plain.geometry r.addr)
    (harmless : (not (is_write r.access) || is_write a.access) ≡ true) where
  abbrev block : ℕ
  block = block_of v.plain.geometry a.addr

  abbrev set_there : ℕ
  set_there = set_of_block v.plain.geometry block

  inside : set_there < 2 ^ v.plain.geometry.s
  inside = mod_below block (2 ^ v.plain.geometry.s) (pow_pos v.plain.geometry.s)

  front_after : is_front_of (after_full_reference v a).plain block ≡ true
  front_after =
      ap (is_front block) (get_or-set_same v.plain.lists set_there _ []
      (subst (λ n. set_there < n) (sym fit.plain.set_count) inside))
      ∙ front_taken v.plain.geometry.e block _ fit.plain.some

  clean_after : is_write a.access ≡ true →
      get_or (cleans_of (after_full_reference v a) set_there) 0 0 ≡ 0
  clean_after writes =
      ap (λ cs. get_or cs 0 0) (get_or-set_same v.cleans set_there _ []
      (subst (λ n. set_there < n) (sym fit.set_count) inside))
      ∙ first_taken v.plain.geometry.e _ _ fit.plain.some
      ∙ cond-true (is_write a.access) _ _ writes

  -- in a state where the block is in front, and dirty if the first reference wrote it
  settled_if : (w : FullState) → w.plain.geometry ≡ v.plain.geometry →
      is_front_of w.plain block ≡ true →
      (is_write a.access ≡ true → get_or (cleans_of w set_there) 0 0 ≡ 0) →
      is_settled w r ≡ true
  settled_if w geometry front dirty =
      let there : block_of w.plain.geometry r.addr ≡ block =
      ap (λ g. block_of g r.addr) geometry ∙ sym same in
      and_from _ _ (ap (is_front_of w.plain) there ∙ front)
      (⊎_elim
      (λ (reads : not (is_write r.access) ≡ true). or_left _ _ reads)
      (λ (writes : is_write a.access ≡ true). or_right _ _
      (ap (λ c. eqb c 0)
      (ap₂ (λ g x. get_or (cleans_of w (set_of_block g x)) 0 0) geometry there
      ∙ dirty writes)))
      (or_cases _ _ harmless))

  pub settled_again : is_settled (after_unless_settled v a) r ≡ true
  settled_again = cases
      (λ b. is_settled v a ≡ b → is_settled (cond b v (after_full_reference v a)) r ≡ true)
      (is_settled v a)
      (λ t is.
      let parts = and_parts (is_front_of v.plain block) _ is in
      settled_if v refl parts.0 (λ writes.
      eqb-true _ _ (⊎_elim
      (λ (reads : not (is_write a.access) ≡ true).
      absurd (both_ways _ (ap not reads) (ap not (ap not writes))))
      (λ (zero : eqb (get_or (cleans_of v set_there) 0 0) 0 ≡ true). zero)
      (or_cases _ _ parts.1))))
      (λ f is. settled_if (after_full_reference v a) refl front_after clean_after)
      refl
