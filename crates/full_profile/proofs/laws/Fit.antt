-- The lengths of a full profile's lists and histograms.
use Rattle.std.proofs.Common.{◌≡◌, ℕ, zero, suc, ◌+◌, ◌<◌, ◌≤◌, ◌^◌, Bool, true, false, cond}
use Rattle.std.proofs.Common.{eqb, List, [], ◌∷◌, ◌++◌, length, take, drop, get_or, set, replicate}
use Rattle.std.proofs.Common.{refl, sym, ◌∙◌, ap, subst, arith, get_or-set_other, length-set}
use Rattle.std.proofs.Common.{length-take, length-append, length-drop}
use Rattle.std.specs.List.{remove, sum_by}
use Rattle.std.proofs.lemmas.Bool.Decides.{nat_tests}
use Rattle.std.proofs.lemmas.Grind.{get_or-set_at}
use Rattle.std.proofs.lemmas.List.{length-replicate}
use Rattle.trace_core.specs.declared.events.Access.{Access}
use Rattle.trace_core.specs.declared.events.Access.TheVariants.{Fetch, Read, Write}
use Rattle.trace_core.specs.declared.events.Ref.{Ref}
use Rattle.trace_core.specs.declared.events.Event.{Event}
use Rattle.trace_core.specs.declared.events.Event.TheVariants as event
use Rattle.cache_core.specs.Geometry.{GeometryValue, IsGeometry, block_of, set_of_block}
use Rattle.profile_core.specs.profile.RecencyList.{index_of, is_in, is_front, move_to_front}
use Rattle.profile_core.specs.profile.State.{ProfileState, list_of, after_reference}
use Rattle.profile_core.specs.profile.State.{after_flush, one_more_at}
use Rattle.profile_core.specs.internal.profile.StackProfile.{IsFit}
use Rattle.profile_core.specs.profile.ProfileStandsFor.{ProfileStandsFor}
use Rattle.profile_core.proofs.profile.Fronts.{fit_of}
use Rattle.profile_core.proofs.profile.Runs.{event_stands}
use Rattle.profile_core.proofs.profile.Stands.{new_stands, length-either}
use Rattle.full_profile.specs.State.{FullState, KindState, empty_kind, empty_full}
use Rattle.full_profile.specs.State.{after_full_event, after_full_reference, full_after, cleans_of}
use Rattle.full_profile.specs.State.{kind_of, kind_number, with_miss, after_reference_in_lists}
use Rattle.full_profile.specs.State.{after_evictions, after_emptying}
use Rattle.full_profile.specs.Batches.{IsFitFull}
use Rattle.full_profile.proofs.laws.Copies.{IsCopied, copies_of_all, counted_from, evictions}
use Rattle.full_profile.proofs.laws.Runs.{plain_event, each_event, after_more}

-- what was counted of a kind after a reference
pub kind_after : (v : FullState) (access a : Access) (x : ℕ) (blocks cleans : List ℕ) →
    length v.kinds ≡ 3 →
    kind_of (after_reference_in_lists v access x blocks cleans) a ≡ cond (is_front x blocks)
    (kind_of v a) (cond (eqb (kind_number a) (kind_number access))
    (with_miss x blocks (kind_of v access)) (kind_of v a))
kind_after v access a x blocks cleans three = grind (
  arith,
  nat_tests,
  get_or-set_at {X = KindState},
  get_or-set_other {A = KindState},
)

behind_same : (x : ℕ) (blocks : List ℕ) (kind : KindState) →
    length (with_miss x blocks kind).behind ≡ length kind.behind
behind_same x blocks kind = elim (is_in x blocks) as (λ b. length (cond b (record kind {
  behind = one_more_at kind.behind (index_of x blocks);
}) (record kind { missed = kind.missed + 1 })).behind ≡ length kind.behind) [
  | true ↦ length-set kind.behind (index_of x blocks) _
  | false ↦ refl
]

either_behind : (front same : Bool) (x : ℕ) (blocks : List ℕ) (was other : KindState) {n : ℕ} →
    length was.behind ≡ n → length other.behind ≡ n →
    length (cond front was (cond same (with_miss x blocks other) was)).behind ≡ n
either_behind true same x blocks was other p q = p
either_behind false true x blocks was other p q = behind_same x blocks other ∙ q
either_behind false false x blocks was other p q = p

-- two lists that the same block leaves, and another one enters
moved_alike : (n i x c : ℕ) (xs cs : List ℕ) → length cs ≡ length xs →
    length (take n (c ∷ remove cs i)) ≡ length (take n (x ∷ remove xs i))
moved_alike n i x c xs cs e =
    let rest : length (remove cs i) ≡ length (remove xs i) = omega (
      arith,
      length-append (take i cs) (drop (suc i) cs),
      length-append (take i xs) (drop (suc i) xs),
      length-take i cs,
      length-take i xs,
      length-drop (suc i) cs,
      length-drop (suc i) xs,
      e,
    ) in
    omega (
      arith,
      length-take n (c ∷ remove cs i),
      length-take n (x ∷ remove xs i),
      rest,
    )

set_alike : (xs ys : List (List ℕ)) (k : ℕ) (x y : List ℕ) → length xs ≡ length ys →
    length x ≡ length y → ((j : ℕ) → length (get_or xs j []) ≡ length (get_or ys j []))
    → (j : ℕ) → length (get_or (set xs k x) j []) ≡ length (get_or (set ys k y) j [])
set_alike [] [] k x y same e h j = refl
set_alike [] (m ∷ ys) k x y same e h j = absurd (omega (arith, same))
set_alike (l ∷ xs) [] k x y same e h j = absurd (omega (arith, same))
set_alike (l ∷ xs) (m ∷ ys) zero x y same e h zero = e
set_alike (l ∷ xs) (m ∷ ys) zero x y same e h (suc j) = h (suc j)
set_alike (l ∷ xs) (m ∷ ys) (suc k) x y same e h zero = h 0
set_alike (l ∷ xs) (m ∷ ys) (suc k) x y same e h (suc j) =
    set_alike xs ys k x y (omega (arith, same)) e (λ i. h (suc i)) j

set_short : (lists : List (List ℕ)) (k n : ℕ) (list : List ℕ) → length list ≤ n →
    ((j : ℕ) → length (get_or lists j []) ≤ n) → (j : ℕ) →
    length (get_or (set lists k list) j []) ≤ n
set_short [] k n list short h j = omega arith
set_short (l ∷ lists) zero n list short h zero = short
set_short (l ∷ lists) zero n list short h (suc j) = h (suc j)
set_short (l ∷ lists) (suc k) n list short h zero = h 0
set_short (l ∷ lists) (suc k) n list short h (suc j) =
    set_short lists k n list short (λ i. h (suc i)) j

none_short : (m k n : ℕ) → length (get_or {A = List ℕ} (replicate m []) k []) ≤ n
none_short zero k n = omega arith
none_short (suc m) zero n = omega arith
none_short (suc m) (suc k) n = none_short m k n

fit_plain_reference : (v : ProfileState) (x : ℕ) → IsFit v → IsFit (after_reference v x)
fit_plain_reference v x h =
    let xs : List ℕ = list_of v (set_of_block v.geometry x) in
    record {
      some = h.some;
      set_count = length-set v.lists (set_of_block v.geometry x) _ ∙ h.set_count;
      short = set_short v.lists (set_of_block v.geometry x) v.geometry.e _
          (omega (arith, length-take v.geometry.e (move_to_front x xs))) h.short;
      distance_count = length-either (is_in x xs) _ _
          (length-set v.distances (index_of x xs) _ ∙ h.distance_count) h.distance_count;
      occupancy_count = length-either (is_in x xs) _ _ h.occupancy_count
          (length-set v.misses_by_occupancy (length xs) _ ∙ h.occupancy_count);
    }

fit_plain_flush : (v : ProfileState) → IsFit v → IsFit (after_flush v)
fit_plain_flush v h = record {
  some = h.some;
  set_count = length-replicate (2 ^ v.geometry.s) [];
  short = λ k. none_short (2 ^ v.geometry.s) k v.geometry.e;
  distance_count = h.distance_count;
  occupancy_count = h.occupancy_count;
}

module _ (v : FullState) (fit : IsFitFull v) where
  pub fit_reference : (r : Ref) → IsFitFull (after_full_reference v r)
  fit_reference r =
      let g : GeometryValue = v.plain.geometry in
      let x : ℕ = block_of g r.addr in
      let k : ℕ = set_of_block g x in
      let blocks : List ℕ = list_of v.plain k in
      let cleans : List ℕ = cleans_of v k in
      let out : IsCopied 0 _ v (after_evictions g.e x blocks cleans v) = evictions v x blocks cleans
      0 (fit.plain.short k) fit.above_count fit.up_to_count in
      record {
        plain = fit_plain_reference v.plain x fit.plain;
        set_count = length-set v.cleans k _ ∙ fit.set_count;
        alike = set_alike v.cleans v.plain.lists k _ _ (fit.set_count ∙ sym fit.plain.set_count)
            (moved_alike g.e (index_of x blocks) x _ blocks cleans (fit.alike k)) fit.alike;
        kind_count = grind (arith, length-set {A = KindState}, fit.kind_count);
        behind_count = λ a. ap (λ kind. length kind.behind)
            (kind_after v r.access a x blocks cleans fit.kind_count)
            ∙ either_behind (is_front x blocks) (eqb (kind_number a) (kind_number r.access)) x
            blocks (kind_of v a) (kind_of v r.access) (fit.behind_count a)
            (fit.behind_count r.access);
        above_count = out.above_count ∙ fit.above_count;
        up_to_count = out.up_to_count ∙ fit.up_to_count;
      }

-- copybacks of each block of all lists, and the lists are then empty
pub emptied : (up_to : ℕ → ℕ) (ways : ℕ) (v : FullState) → IsFitFull v →
    ((i : ℕ) → i < v.plain.geometry.e → up_to i ≤ v.plain.geometry.e) →
    IsCopied ways (sum_by (counted_from up_to ways 0) v.cleans) v (after_emptying up_to v)
emptied up_to ways v fit within =
    let u = copies_of_all up_to ways v.plain.geometry.e v.cleans v
    (λ k. omega (arith, fit.alike k, fit.plain.short k))
    (λ i lt. omega (arith, within i lt, fit.above_count))
    (λ i lt. omega (arith, within i lt, fit.up_to_count)) in
    record {
      kinds = u.kinds;
      above_count = u.above_count;
      up_to_count = u.up_to_count;
      sums = u.sums;
    }

pub fit_emptied : (up_to : ℕ → ℕ) (v : FullState) → IsFitFull v →
    ((i : ℕ) → i < v.plain.geometry.e → up_to i ≤ v.plain.geometry.e) →
    IsFitFull (after_emptying up_to v)
fit_emptied up_to v fit within =
    let out : IsCopied 0 _ v (after_emptying up_to v) = emptied up_to 0 v fit within in
    let g : GeometryValue = v.plain.geometry in
    record {
      plain = fit_plain_flush v.plain fit.plain;
      set_count = length-replicate (2 ^ g.s) [];
      alike = λ k. refl;
      kind_count = ap length out.kinds ∙ fit.kind_count;
      behind_count = λ a. ap (λ kinds. length (get_or kinds (kind_number a) (empty_kind g)).behind)
          out.kinds ∙ fit.behind_count a;
      above_count = out.above_count ∙ fit.above_count;
      up_to_count = out.up_to_count ∙ fit.up_to_count;
    }

pub fit_event : (v : FullState) (e : Event) → IsFitFull v → IsFitFull (after_full_event v e)
fit_event v (event.Reference r) fit = fit_reference v fit r
fit_event v event.Flush fit =
    fit_emptied (λ index. v.plain.geometry.e) v fit (λ i lt. omega arith)

new_behind : (g : GeometryValue) (access : Access) →
    length (kind_of (empty_full g) access).behind ≡ g.e
new_behind g Fetch = length-replicate g.e 0
new_behind g Read = length-replicate g.e 0
new_behind g Write = length-replicate g.e 0

pub fit_new : (g : GeometryValue) → IsGeometry g → IsFitFull (empty_full g)
fit_new g is = record {
  plain = fit_of (new_stands g is);
  set_count = length-replicate (2 ^ g.s) [];
  alike = λ k. refl;
  kind_count = refl;
  behind_count = new_behind g;
  above_count = length-replicate (g.e + 1) 0;
  up_to_count = length-replicate (g.e + 1) 0;
}

-- a profile that was fed a list of events
pub record FullStandsFor (es : List Event) (v : FullState) : Type 0 where
  pub plain : ProfileStandsFor es v.plain
  pub fit : IsFitFull v

pub fed_new : (g : GeometryValue) → IsGeometry g → FullStandsFor [] (empty_full g)
fed_new g is = record { plain = new_stands g is; fit = fit_new g is }

pub fed_event : (es : List Event) (v : FullState) (e : Event) → FullStandsFor es v →
    FullStandsFor (es ++ e ∷ []) (after_full_event v e)
fed_event es v e h = record {
  plain = subst (λ (p : ProfileState). ProfileStandsFor (es ++ e ∷ []) p) (sym (plain_event v e))
      (event_stands es v.plain e h.plain);
  fit = fit_event v e h.fit;
}

pub fed_after : (g : GeometryValue) (es : List Event) → IsGeometry g →
    FullStandsFor es (full_after g es)
fed_after g es is = each_event (λ xs. FullStandsFor xs (full_after g xs)) (fed_new g is)
    (λ xs e h. subst (FullStandsFor (xs ++ e ∷ [])) (sym (after_more g xs e))
    (fed_event xs _ e h)) es

pub fit_after : (g : GeometryValue) (es : List Event) → IsGeometry g → IsFitFull (full_after g es)
fit_after g es is = (fed_after g es is).fit
