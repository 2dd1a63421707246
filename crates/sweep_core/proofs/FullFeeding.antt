-- The profiles of a full sweep are fed what the one before has left, if they refine that one, and
-- else all.
use Rattle.std.proofs.Common.{◌≡◌, ℕ, zero, suc, ◌+◌, ◌-◌, ◌<◌, ◌≤◌, List, [], ◌∷◌, ◌++◌, map, take}
use Rattle.std.proofs.Common.{drop, length, get_or, refl, sym, ap, ap₂, ◌∙◌, arith, true, cond}
use Rattle.std.proofs.Common.{length-append, length-take, length-drop, false, inl, inr}
use Rattle.std.proofs.lemmas.Bool.{both_ways, cases_lt}
use Rattle.std.proofs.lemmas.List.{length-map, get_or_default, take-append-le}
use Rattle.std.specs.List.{AllByRecursion as Each}
use Rattle.std.proofs.Math.ListN.{set}
use Rattle.std.proofs.lemmas.List.Edits.{map_over_more}
use Rattle.trace_core.specs.declared.events.Ref.{Ref}
use Rattle.cache_core.proofs.Lists.{cases}
use Rattle.profile_core.specs.profile.Fronts.{is_refined}
use Rattle.full_profile.specs.State.{FullState}
use Rattle.full_profile.specs.Batches.{after_full_batch, unsettled, after_unless_settled, IsLagging}
use Rattle.full_profile.specs.Batches.{is_settled}
use Rattle.full_profile.proofs.BatchLemmas.{enough, enough_left, geometry_batch}
use Rattle.sweep_core.specs.declared.full.profiles.FullPair.{FullPair}
use Rattle.sweep_core.specs.internal.Full.{full_pair_fed, WereFedAlike, AreTwoFed}
use Rattle.sweep_core.specs.internal.Full.{second_refines_first}
use Rattle.sweep_core.proofs.Passes.{unreached}

-- a profile leaves no more than it is given
pub left-short : (v : FullState) (refs : List Ref) → length (unsettled v refs) ≤ length refs
left-short v [] = omega arith
left-short v (r ∷ refs) =
    let less = left-short (after_unless_settled v r) refs in
    cases (λ b. length (cond b (unsettled (after_unless_settled v r) refs)
    (r ∷ unsettled (after_unless_settled v r) refs)) ≤ length (r ∷ refs)) (is_settled v r)
    (λ t. omega (arith, less)) (λ f. omega (arith, less))

-- what is given to a profile makes of it what all references make, and leaves the same
pub record Suffices (v : FullState) (given refs : List Ref) : Type 0 where
  pub step : after_full_batch v given ≡ after_full_batch v refs
  pub left : unsettled v given ≡ unsettled v refs

pub all_suffices : (v : FullState) (given refs : List Ref) → given ≡ refs → Suffices v given refs
all_suffices v given refs is =
    record { step = ap (after_full_batch v) is; left = ap (unsettled v) is }

-- the first of these suffice for a profile
pub record IsGivenFull (v : FullState) (given : ℕ) (refs left : List Ref) : Type 0 where
  pub few : given ≤ length refs
  pub room : length left ≡ length refs
  pub enough : Suffices v (take given left) refs

-- the profiles before an index were fed the batch, and the last of them has left these
pub record IsFedUpTo (at given : ℕ) (refs left : List Ref) (old now : List FullPair) : Type 0 where
  pub fed : now ≡ map (full_pair_fed refs) (take at old) ++ drop at old
  pub few : given ≤ length refs
  pub room : length left ≡ length refs
  pub left_are : (d : FullPair) → 0 < at →
      take given left ≡ unsettled (get_or old (at - 1) d).profile refs

-- no profile is lost
pub as_many : {at given : ℕ} {refs left : List Ref} {old now : List FullPair} →
    IsFedUpTo at given refs left old now → length now ≡ length old
as_many {at} {given} {refs} {left} {old} {now} h =
    ap length h.fed ∙ length-append (map (full_pair_fed refs) (take at old)) (drop at old)
    ∙ omega (
      arith,
      length-map (take at old) (full_pair_fed refs),
      length-take at old,
      length-drop at old,
    )

each_at : (P : FullPair → Type 0) (xs : List FullPair) (i : ℕ) (d : FullPair) → i < length xs →
    Each P xs → P (get_or xs i d)
each_at P [] i d inside h = absurd (omega (arith, inside))
each_at P (x ∷ xs) zero d inside h = h.0
each_at P (x ∷ xs) (suc i) d inside h = each_at P xs i d (omega (arith, inside)) h.1

-- a profile before the index was fed already
reached : (f : FullPair → FullPair) (xs : List FullPair) (i n : ℕ) (d : FullPair) → i < n →
    n ≤ length xs → get_or (map f (take n xs) ++ drop n xs) i d ≡ f (get_or xs i d)
reached f [] i n d before inside = absurd (omega (arith, before, inside))
reached f (x ∷ xs) i zero d before inside = absurd (omega (arith, before))
reached f (x ∷ xs) zero (suc n) d before inside = refl
reached f (x ∷ xs) (suc i) (suc n) d before inside =
    reached f xs i n d (omega (arith, before)) (omega (arith, inside))

-- and one at the index or behind it was not
past : (f : FullPair → FullPair) (xs : List FullPair) (i n : ℕ) (d : FullPair) → n ≤ i →
    i < length xs → get_or (map f (take n xs) ++ drop n xs) i d ≡ get_or xs i d
past f [] i n d from inside = absurd (omega (arith, inside))
past f (x ∷ xs) i zero d from inside = refl
past f (x ∷ xs) zero (suc n) d from inside = absurd (omega (arith, from))
past f (x ∷ xs) (suc i) (suc n) d from inside =
    past f xs i n d (omega (arith, from)) (omega (arith, inside))

refines_at : (xs : List FullPair) (i : ℕ) (d : FullPair) → i + 1 < length xs →
    second_refines_first (drop i xs) ≡ is_refined (get_or xs i d).profile.plain.geometry
    (get_or xs (i + 1) d).profile.plain.geometry
refines_at [] i d inside = absurd (omega (arith, inside))
refines_at (x ∷ []) i d inside = absurd (omega (arith, inside))
refines_at (x ∷ y ∷ xs) zero d inside = refl
refines_at (x ∷ y ∷ xs) (suc i) d inside = refines_at (y ∷ xs) i d (omega (arith, inside))
    ∙ ap (λ n. is_refined (get_or (y ∷ xs) i d).profile.plain.geometry
    (get_or (x ∷ y ∷ xs) n d).profile.plain.geometry) {x = suc (i + 1)} {y = suc i + 1}
    (omega arith)

-- where there is no second, none refines the first
pub none_refines : (xs : List FullPair) (i : ℕ) → length xs ≤ i + 1 →
    second_refines_first (drop i xs) ≡ false
none_refines [] zero few = refl
none_refines [] (suc i) few = refl
none_refines (x ∷ []) zero few = refl
none_refines (x ∷ y ∷ xs) zero few = absurd (omega (arith, few))
none_refines (x ∷ xs) (suc i) few = none_refines xs i (omega (arith, few))

pub two_there : (xs : List FullPair) (i : ℕ) → second_refines_first (drop i xs) ≡ true →
    i + 1 < length xs
two_there xs i is = elim (cases_lt (i + 1) (length xs)) [
  | inl lt ↦ lt
  | inr few ↦ absurd (both_ways _ (none_refines xs i few) is)
]

-- What a profile leaves suffices for the next, if that one refines it.
module _ {old : List FullPair} (alike : WereFedAlike old) (i : ℕ) (d : FullPair)
    (inside : i + 1 < length old) (refs : List Ref)
    (refined : is_refined (get_or old i d).profile.plain.geometry
    (get_or old (i + 1) d).profile.plain.geometry ≡ true) where
  was_fed : (k : ℕ) → k < length old →
      IsLagging alike.count alike.events (get_or old k d).profile
  was_fed k within =
      each_at (λ z. IsLagging alike.count alike.events z.profile) old k d within alike.fed

  left_suffices : Suffices (get_or old (i + 1) d).profile
      (unsettled (get_or old i d).profile refs) refs
  left_suffices = record {
    step = enough refs (was_fed i (omega (arith, inside))) (was_fed (i + 1) inside) refined;
    left = enough_left refs (was_fed i (omega (arith, inside))) (was_fed (i + 1) inside) refined;
  }

module _ {at given : ℕ} {refs left : List Ref} {old now : List FullPair}
    (h : IsFedUpTo at given refs left old now) (alike : WereFedAlike old) (inside : at < length old)
    (d : FullPair) where
  abbrev x : FullPair
  x = get_or old at d

  -- those from the index on are as they were
  later : (k : ℕ) (e : FullPair) → at ≤ k → k < length old → get_or now k e ≡ get_or old k e
  later k e from within = ap (λ ys. get_or ys k e) h.fed
      ∙ past (full_pair_fed refs) old k at e from within

  pub here : get_or now at d ≡ x
  here = later at d (omega arith) inside

  there : 0 < at → get_or now (at - 1) d ≡ full_pair_fed refs (get_or old (at - 1) d)
  there some = ap (λ ys. get_or ys (at - 1) d) h.fed
      ∙ reached (full_pair_fed refs) old (at - 1) at d (omega (arith, some)) (omega (arith, inside))

  -- what the one before has left suffices, if this one refines it
  pub rest_suffices : 0 < at → second_refines_first (drop (at - 1) now) ≡ true →
      Suffices x.profile (take given left) refs
  rest_suffices some is =
      let next : at - 1 + 1 ≡ at = omega (arith, some) in
      let refined = ap₂ is_refined
      (sym (geometry_batch (get_or old (at - 1) d).profile refs)
      ∙ sym (ap (λ z. z.profile.plain.geometry) (there some)))
      (ap (λ k. (get_or old k d).profile.plain.geometry) next
      ∙ sym (ap (λ z. z.profile.plain.geometry) here)
      ∙ sym (ap (λ k. (get_or now k d).profile.plain.geometry) next))
      ∙ sym (refines_at now (at - 1) d (omega (arith, some, inside, as_many h))) ∙ is in
      let enough_there = left_suffices alike (at - 1) d (omega (arith, some, inside)) refs
      refined in
      record {
        step = ap (after_full_batch x.profile) (h.left_are d some)
            ∙ ap (λ k. after_full_batch (get_or old k d).profile
            (unsettled (get_or old (at - 1) d).profile refs)) (sym next)
            ∙ enough_there.step
            ∙ ap (λ k. after_full_batch (get_or old k d).profile refs) next;
        left = ap (unsettled x.profile) (h.left_are d some)
            ∙ ap (λ k. unsettled (get_or old k d).profile
            (unsettled (get_or old (at - 1) d).profile refs)) (sym next)
            ∙ enough_there.left
            ∙ ap (λ k. unsettled (get_or old k d).profile refs) next;
      }

  -- what is left of what was given stands in front
  module _ {given' : ℕ} {left' : List Ref} (g : IsGivenFull x.profile given' refs left')
      (result : ℕ) (fed : List Ref) (within : result ≤ length fed)
      (same : length fed ≡ length (take given' left')) where
    abbrev some : List Ref
    some = take given' left'

    abbrev rest : List Ref
    rest = drop given' left'

    room : length (fed ++ rest) ≡ length refs
    room = omega (
      arith,
      length-append fed rest,
      same,
      length-take given' left',
      length-drop given' left',
      g.few,
      g.room,
    )

    few : result ≤ length refs
    few = omega (arith, within, same, length-take given' left', g.few, g.room)

    taken : take result (fed ++ rest) ≡ take result fed
    taken = take-append-le result fed rest within

    here_x : get_or now at x ≡ x
    here_x = later at x (omega arith) inside ∙ get_or_default old at x d inside

    set_here : set now at (full_pair_fed refs x)
        ≡ map (full_pair_fed refs) (take (at + 1) old) ++ drop (at + 1) old
    set_here = map_over_more (full_pair_fed refs) old now at x inside h.fed (sym here_x)

    -- the profile at the index is fed these
    pub one_fed : (p : FullState) → p ≡ after_full_batch (get_or now at d).profile some →
        take result fed ≡ unsettled (get_or now at d).profile some →
        IsFedUpTo (at + 1) result refs (fed ++ rest) old
        (set now at (record (get_or now at d) { profile = p }))
    one_fed p is left_is = record {
      fed = ap (λ y. set now at (record y { profile = p })) here
          ∙ ap (λ v. set now at (record x { profile = v }))
          (is ∙ ap (λ y. after_full_batch y.profile some) here ∙ g.enough.step)
          ∙ set_here;
      few = few;
      room = room;
      left_are = λ e before. taken ∙ left_is ∙ ap (λ y. unsettled y.profile some) here
          ∙ g.enough.left
          ∙ ap (λ y. unsettled y.profile refs)
          (get_or_default old at d e inside ∙ ap (λ i. get_or old i e) {x = at} {y = at + 1 - 1}
          (omega arith));
    }

    -- or with the next, if that one refines it
    module _ (after : List FullPair) (left_list : List Ref)
        (t : AreTwoFed at some now after left_list)
        (refines : second_refines_first (drop at now) ≡ true) where
      two : at + 1 < length now
      two = two_there now at refines

      next_inside : at + 1 < length old
      next_inside = omega (arith, two, as_many h)

      abbrev y : FullPair
      y = get_or old (at + 1) d

      next_here : get_or now (at + 1) d ≡ y
      next_here = later (at + 1) d (omega arith) next_inside

      first : t.first ≡ x
      first = t.first_is ∙ get_or_default now at t.first d (omega (arith, two)) ∙ here

      second : t.second ≡ y
      second = t.second_is ∙ get_or_default now (at + 1) t.second d two ∙ next_here

      last : Suffices y.profile (unsettled x.profile refs) refs
      last = left_suffices alike at d next_inside refs (ap₂ is_refined
          (sym (ap (λ z. z.profile.plain.geometry) here))
          (sym (ap (λ z. z.profile.plain.geometry) next_here))
          ∙ sym (refines_at now at d two) ∙ refines)

      left_first : unsettled t.first.profile some ≡ unsettled x.profile refs
      left_first = ap (λ z. unsettled z.profile some) first ∙ g.enough.left

      next_set : get_or (set now at (full_pair_fed refs x)) (at + 1) y ≡ y
      next_set = ap (λ ys. get_or ys (at + 1) y) set_here
          ∙ unreached (full_pair_fed refs) old (at + 1) y next_inside
          ∙ get_or_default old (at + 1) y d next_inside

      pub two_fed : take result fed ≡ left_list →
          IsFedUpTo (at + 2) result refs (fed ++ rest) old after
      two_fed left_is = record {
        fed = t.fed
            ∙ ap₂ (λ v w. set (set now at v) (at + 1) w)
            (ap (full_pair_fed some) first ∙ ap (λ v. record x { profile = v }) g.enough.step)
            (ap₂ full_pair_fed left_first second ∙ ap (λ v. record y { profile = v }) last.step)
            ∙ map_over_more (full_pair_fed refs) old (set now at (full_pair_fed refs x)) (at + 1) y
            next_inside set_here (sym next_set)
            ∙ ap (λ n. map (full_pair_fed refs) (take n old) ++ drop n old) {x = at + 1 + 1}
            {y = at + 2} (omega arith);
        few = few;
        room = room;
        left_are = λ e before. taken ∙ left_is ∙ t.left_are
            ∙ ap₂ (λ z l. unsettled z.profile l) second left_first ∙ last.left
            ∙ ap (λ z. unsettled z.profile refs)
            (get_or_default old (at + 1) d e next_inside
            ∙ ap (λ i. get_or old i e) {x = at + 1} {y = at + 2 - 1} (omega arith));
      }
