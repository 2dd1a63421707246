-- References that find their block in front: they can be counted later, and a front in one profile
-- is a front in each that refines it.
use Rattle.std.proofs.Common.{◌≡◌, ℕ, zero, suc, ◌+◌, ◌-◌, ◌/◌, ◌%◌, ◌^◌, ◌<◌, ◌≤◌, ◌&&◌, Bool}
use Rattle.std.proofs.Common.{true, false, not, cond, eqb, leb, List, [], ◌∷◌, ◌++◌, length, take}
use Rattle.std.proofs.Common.{get_or, set, sum, refl, sym, ◌∙◌, ap, subst, arith, ⊎_elim}
use Rattle.std.proofs.Common.{length-set, length-take, get_or-set_other, fold}
use Rattle.std.specs.Prelude.{replicate}
use Rattle.std.proofs.Math.Nat.{div-div-eq-div-mul}
use Rattle.std.proofs.Math.Pow.{mod-mod-pow}
use Rattle.std.proofs.lemmas.Bool.{lt-ltb, ltb-true, eqb-true, eq-eqb, ne_eqb, cases_eq, leb-true}
use Rattle.std.proofs.lemmas.Bool.{and_parts, or_cases}
use Rattle.std.proofs.lemmas.Grind.{get_or-set_at}
use Rattle.std.proofs.lemmas.List.{get_or_read}
use Rattle.std.proofs.lemmas.Nat.{pow-add, pow_pos, mod_below}
use Rattle.trace_core.specs.declared.events.Ref.{Ref}
use Rattle.trace_core.specs.declared.events.Event.{Event}
use Rattle.trace_core.specs.declared.events.Event.TheVariants as event
use Rattle.cache_core.specs.Geometry.{GeometryValue, IsGeometry, block_of, set_of_block, set_of}
use Rattle.cache_core.specs.Windows.{Occurrence, distinct_of_set, window, has_last, distance}
use Rattle.cache_core.specs.LruLaws.{occurrence_after}
use Rattle.cache_core.proofs.Lists.{cases}
use Rattle.profile_core.specs.profile.RecencyList.{is_front, is_in, index_of}
use Rattle.profile_core.specs.profile.State.{ProfileState, empty, list_of, one_more_at, fed_of}
use Rattle.profile_core.specs.profile.State.{after_reference, after_flush, after_event}
use Rattle.profile_core.specs.profile.Fronts.{is_front_of, after_unless_front, after_fronts}
use Rattle.profile_core.specs.profile.Fronts.{is_refined}
use Rattle.profile_core.specs.profile.ProfileStandsFor.{ProfileStandsFor}
use Rattle.profile_core.specs.internal.profile.StackProfile.{IsSound, most_references}
use Rattle.profile_core.specs.internal.profile.StackProfile.{compared, IsFit}
use Rattle.profile_core.specs.internal.profile.CountedFronts.{profile_with_fronts, Leads}
use Rattle.profile_core.specs.internal.set_lists.Lists.{Lists}
use Rattle.profile_core.proofs.profile.Feeding.{found_front, after_fed, front_step}
use Rattle.profile_core.proofs.profile.Fed.{state_of}
use Rattle.profile_core.proofs.profile.Weighing.{raised_fits, sum-raised, weighed-raised}
use Rattle.profile_core.proofs.profile.Runs.{event_stands, geometry_after, stands_after}
use Rattle.profile_core.proofs.profile.Steps.{Finds, finds}
use Rattle.profile_core.proofs.profile.Stands.{new_stands}

short_all : (ls : List (List ℕ)) (e : ℕ) → ((k : ℕ) → k < length ls → length (get_or ls k []) ≤ e) →
    (k : ℕ) → length (get_or ls k []) ≤ e
short_all [] e h k = omega arith
short_all (l ∷ ls) e h zero = h 0 (omega arith)
short_all (l ∷ ls) e h (suc k) = short_all ls e (λ j lt. h (suc j) (omega (arith, lt))) k

pub fit_of : {es : List Event} {v : ProfileState} → ProfileStandsFor es v → IsFit v
fit_of {es = es} {v = v} h = record {
  some = h.geometry.some;
  set_count = h.set_count;
  short = short_all v.lists v.geometry.e (λ k lt. omega (
    arith,
    ap length (h.lists k (omega (arith, lt, h.set_count))),
    length-take v.geometry.e
        (distinct_of_set v.geometry k (window v.geometry es)),
  ));
  distance_count = h.distance_count;
  occupancy_count = h.occupancy_count;
}

-- n more in front, in the numbers for all distances
abbrev lift : ℕ → List ℕ → List ℕ
lift n ds = set ds 0 (get_or ds 0 0 + n)

lift-none : (ds : List ℕ) → lift 0 ds ≡ ds
lift-none [] = refl
lift-none (d ∷ ds) = ap (λ k. k ∷ ds) (omega arith)

lift-lift : (m n : ℕ) (ds : List ℕ) → lift m (lift n ds) ≡ lift (n + m) ds
lift-lift m n [] = refl
lift-lift m n (d ∷ ds) = ap (λ k. k ∷ ds) (omega arith)

raise-lift : (n : ℕ) (ds : List ℕ) (i : ℕ) → one_more_at (lift n ds) i ≡ lift n (one_more_at ds i)
raise-lift n [] i = refl
raise-lift n (d ∷ ds) zero = ap (λ k. k ∷ ds) (omega arith)
raise-lift n (d ∷ ds) (suc i) = refl

raise_if-lift : (b : Bool) (n : ℕ) (ds : List ℕ) (i : ℕ) → cond b (one_more_at (lift n ds) i)
    (lift n ds) ≡ lift n (cond b (one_more_at ds i) ds)
raise_if-lift true n ds i = raise-lift n ds i
raise_if-lift false n ds i = refl

pub fronts_none : (v : ProfileState) → after_fronts 0 v ≡ v
fronts_none v = grind (arith, lift-none)

pub fronts_fronts : (m n : ℕ) (v : ProfileState) →
    after_fronts m (after_fronts n v) ≡ after_fronts (n + m) v
fronts_fronts m n v = grind (arith, lift-lift)

-- a reference after them is one before them
pub reference_fronts : (n : ℕ) (v : ProfileState) (x : ℕ) →
    after_reference (after_fronts n v) x ≡ after_fronts n (after_reference v x)
reference_fronts n v x = grind (arith, raise_if-lift)

-- a reference that finds its block in front is one of them
pub front_reference : (v : ProfileState) (x : ℕ) → IsFit v → is_front_of v x ≡ true →
    after_reference v x ≡ after_fronts 1 v
front_reference v x h front =
    sym (front_step v x (set_of_block v.geometry x) refl (one_more_at v.distances 0) front
    (h.short (set_of_block v.geometry x)) refl)

pub reference_fed : (v : ProfileState) (x : ℕ) → IsFit v →
    fed_of (after_reference v x) ≡ fed_of v + 1
reference_fed v x h = grind (arith, after_fed)

pub unless_front_fed : (v : ProfileState) (x : ℕ) → IsFit v →
    fed_of (after_unless_front v x) ≡ fed_of v + cond (is_front_of v x) 0 1
unless_front_fed v x h = cases
    (λ b. fed_of (cond b v (after_reference v x)) ≡ fed_of v + cond b 0 1) (is_front_of v x)
    (λ t. omega arith) (λ f. reference_fed v x h)

-- the fields of a profile that counts so many more in front
module _ {g : GeometryValue} {lists : Lists} {distances missed : List ℕ} {v : ProfileState}
    (h : IsSound g lists distances missed)
    (view_is : state_of g lists distances missed ≡ v) where
  pub fit_inside : IsFit v
  fit_inside = subst IsFit view_is (record {
    some = h.geometry.some;
    set_count = h.set_count;
    short = h.short;
    distance_count = h.distance_count;
    occupancy_count = h.occupancy_count;
  })

  pub front_fits : 0 < length distances
  front_fits = omega (arith, h.geometry.some, h.distance_count)

  module _ {n : ℕ} (read : n ≡ get_or distances 0 n) (count : ℕ) where
    pub front_few : fed_of v + count ≤ most_references → n + count ≤ most_references
    front_few few = omega (
      arith,
      raised_fits distances 0 n front_fits read,
      few,
      ap fed_of view_is,
    )

    pub counted_fed : sum (set distances 0 (n + count)) + sum missed ≡ fed_of v + count
    counted_fed = omega (
      arith,
      sum-raised distances 0 n count front_fits read,
      ap fed_of view_is,
    )

    weight : compared (set distances 0 (n + count)) missed ≡ compared distances missed + count
    weight = omega (arith, weighed-raised 1 distances 0 n count front_fits read)

    pub counted_after : state_of g lists (set distances 0 (n + count)) missed ≡ after_fronts count v
    counted_after = grind (arith, weight, get_or_read, front_fits, state_of)

    pub counted_sound : fed_of v + count ≤ most_references →
        IsSound g lists (set distances 0 (n + count)) missed
    counted_sound few = record {
      geometry = h.geometry;
      depth = h.depth;
      set_count = h.set_count;
      short = h.short;
      distance_count = length-set distances 0 (n + count) ∙ h.distance_count;
      occupancy_count = h.occupancy_count;
      fed = omega (arith, counted_fed, few);
    }

-- A profile that lags behind by references that found their block in front, and catches up.
pub caught_more : (n : ℕ) (v : ProfileState) (x : ℕ) → IsFit v → fed_of v ≤ n
    → profile_with_fronts (n + 1) (after_unless_front v x) ≡ after_reference
    (profile_with_fronts n v) x
caught_more n v x h le = grind (
  arith,
  fronts_fronts,
  front_reference,
  reference_fronts,
  reference_fed,
)

pub fed_more : (n : ℕ) (v : ProfileState) (x : ℕ) → IsFit v → fed_of v ≤ n →
    fed_of (after_unless_front v x) ≤ n + 1
fed_more n v x h le = grind (arith, reference_fed)

pub fit_behind : (n : ℕ) (v : ProfileState) → IsFit (after_fronts n v) → IsFit v
fit_behind n v h = record {
  some = h.some;
  set_count = h.set_count;
  short = h.short;
  distance_count = sym (length-set v.distances 0 (get_or v.distances 0 0 + n)) ∙ h.distance_count;
  occupancy_count = h.occupancy_count;
}

-- One geometry refines another: in larger blocks addresses stay together, and in more sets they
-- stay apart.
pub record IsFiner (g h : GeometryValue) : Type 0 where
  pub blocks : (a c : ℕ) → block_of g a ≡ block_of g c → block_of h a ≡ block_of h c
  pub sets : (a c : ℕ) → set_of h a ≡ set_of h c → set_of g a ≡ set_of g c

same_blocks : (g h : GeometryValue) → g.b ≡ h.b → g.s ≤ h.s → IsFiner g h
same_blocks g h same le =
    let low : (n : ℕ) → n % 2 ^ g.s ≡ n % 2 ^ h.s % 2 ^ g.s =
    λ n. sym (ap (λ k. n % 2 ^ k % 2 ^ g.s) {x = h.s} {y = (h.s - g.s) + g.s} (omega (arith, le)) ∙
    mod-mod-pow n (h.s - g.s) g.s) in
    let block : (a : ℕ) → a / 2 ^ g.b ≡ a / 2 ^ h.b = λ a. ap (λ b. a / 2 ^ b) same in
    record {
      blocks = λ a c e. sym (block a) ∙ e ∙ block c;
      sets = λ a c e.
          ap (λ n. n % 2 ^ g.s) (block a) ∙ low (a / 2 ^ h.b) ∙ ap (λ n. n % 2 ^ g.s) e ∙
          sym (low (c / 2 ^ h.b)) ∙ sym (ap (λ n. n % 2 ^ g.s) (block c));
    }

one_set : (g h : GeometryValue) → g.s ≡ 0 → g.b ≤ h.b → IsFiner g h
one_set g h one le =
    let wide : (a : ℕ) → a / 2 ^ h.b ≡ a / 2 ^ g.b / 2 ^ (h.b - g.b) =
    λ a. ap (λ b. a / 2 ^ b) {x = h.b} {y = g.b + (h.b - g.b)} (omega (arith, le)) ∙
    ap (λ p. a / p) (pow-add 2 g.b (h.b - g.b))
    ∙ sym (div-div-eq-div-mul a (2 ^ g.b) (2 ^ (h.b - g.b))) in
    let none : (n : ℕ) → n % 2 ^ g.s ≡ 0 =
    λ n. ap (λ s. n % 2 ^ s) one ∙ omega (arith, mod_below n 1 (omega arith)) in
    record {
      blocks = λ a c e. wide a ∙ ap (λ n. n / 2 ^ (h.b - g.b)) e ∙ sym (wide c);
      sets = λ a c e. none (block_of g a) ∙ sym (none (block_of g c));
    }

pub finer_of : (g h : GeometryValue) → is_refined g h ≡ true → IsFiner g h
finer_of g h t =
    ⊎_elim
    (λ (p : (eqb g.b h.b && leb g.s h.s) ≡ true).
    let parts = and_parts (eqb g.b h.b) (leb g.s h.s) p in
    same_blocks g h (eqb-true g.b h.b parts.0) (leb-true g.s h.s parts.1))
    (λ (p : (eqb g.s 0 && leb g.b h.b) ≡ true).
    let parts = and_parts (eqb g.s 0) (leb g.b h.b) p in
    one_set g h (eqb-true g.s 0 parts.0) (leb-true g.b h.b parts.1))
    (or_cases (eqb g.b h.b && leb g.s h.s) (eqb g.s 0 && leb g.b h.b) t)

-- which references find their block in front after a reference to block y
front_of_take : (x y e : ℕ) (ys : List ℕ) → 1 ≤ e → is_front x (take e (y ∷ ys)) ≡ eqb y x
front_of_take x y zero ys some = absurd (omega (arith, some))
front_of_take x y (suc e) ys some = refl

fronts_after : (v : ProfileState) (x y : ℕ) → IsFit v
    → is_front_of (after_reference v y) x ≡ cond (eqb (set_of_block v.geometry y)
    (set_of_block v.geometry x)) (eqb y x) (is_front_of v x)
fronts_after v x y h = grind (
  arith,
  mod_below,
  pow_pos,
  get_or-set_at,
  front_of_take,
  eq-eqb,
  get_or-set_other,
  ne_eqb,
  cases_eq,
)

-- a reference finds its block in front where the one before was to it too
pub front_again : (v : ProfileState) (x : ℕ) → IsFit v →
    is_front_of (after_unless_front v x) x ≡ true
front_again v x h =
    cases (λ b. is_front_of v x ≡ b → is_front_of (cond b v (after_reference v x)) x ≡ true)
    (is_front_of v x)
    (λ t is. is)
    (λ f is. fronts_after v x x h
    ∙ ap (λ b. cond b (eqb x x) (is_front_of v x)) (eq-eqb (set_of_block v.geometry x) _ refl)
    ∙ eq-eqb x x refl)
    refl

leads_reference : (v w : ProfileState) → IsFit v → IsFit w → IsFiner v.geometry w.geometry →
    Leads v w → (y : ℕ)
    → Leads (after_reference v (block_of v.geometry y)) (after_reference w (block_of w.geometry y))
leads_reference v w fit fit' finer leads y = λ a front.
    let g = v.geometry in let h = w.geometry in
    let was = sym (fronts_after v (block_of g a) (block_of g y) fit) ∙ front in
    fronts_after w (block_of h a) (block_of h y) fit'
    ∙ ⊎_elim
    (λ (same : set_of g y ≡ set_of g a).
    let is : block_of g y ≡ block_of g a =
    eqb-true _ _ (sym (ap (λ b. cond b (eqb (block_of g y) (block_of g a))
    (is_front_of v (block_of g a))) (eq-eqb _ _ same)) ∙ was) in
    let block : block_of h y ≡ block_of h a = finer.blocks y a is in
    ap (λ b. cond b (eqb (block_of h y) (block_of h a)) (is_front_of w (block_of h a)))
    (eq-eqb _ _ (ap (set_of_block h) block)) ∙ eq-eqb _ _ block)
    (λ (apart : set_of g y ≡ set_of g a → ⊥).
    let still : is_front_of v (block_of g a) ≡ true =
    sym (ap (λ b. cond b (eqb (block_of g y) (block_of g a)) (is_front_of v (block_of g a)))
    (ne_eqb _ _ apart)) ∙ was in
    ap (λ b. cond b (eqb (block_of h y) (block_of h a)) (is_front_of w (block_of h a)))
    (ne_eqb _ _ (λ e. apart (finer.sets y a e))) ∙ leads a still)
    (cases_eq (set_of g y) (set_of g a))

-- where all lists are empty there is no front
pub no_front : (n k x : ℕ) → is_front x (get_or (replicate n []) k []) ≡ false
no_front zero k x = refl
no_front (suc n) zero x = refl
no_front (suc n) (suc k) x = no_front n k x

leads_empty : (v w : ProfileState) → v.lists ≡ replicate (2 ^ v.geometry.s) [] → Leads v w
leads_empty v w none = grind (arith, no_front, get_or)

leads_event : (v w : ProfileState) → IsFit v → IsFit w → IsFiner v.geometry w.geometry → Leads v w →
    (e : Event) → Leads (after_event v e) (after_event w e)
leads_event v w fit fit' finer leads (event.Reference r) =
    leads_reference v w fit fit' finer leads r.addr
leads_event v w fit fit' finer leads event.Flush = leads_empty (after_flush v) (after_flush w) refl

finer_event : (v w : ProfileState) (e : Event) → IsFiner v.geometry w.geometry →
    IsFiner (after_event v e).geometry (after_event w e).geometry
finer_event v w (event.Reference r) finer = finer
finer_event v w event.Flush finer = finer

leads_with : (before es : List Event) (v w : ProfileState) → ProfileStandsFor before v →
    ProfileStandsFor before w → IsFiner v.geometry w.geometry → Leads v w
    → Leads (fold after_event v es) (fold after_event w es)
leads_with before [] v w hv hw finer leads = leads
leads_with before (e ∷ es) v w hv hw finer leads =
    leads_with (before ++ e ∷ []) es (after_event v e) (after_event w e)
    (event_stands before v e hv) (event_stands before w e hw)
    (finer_event v w e finer) (leads_event v w (fit_of hv) (fit_of hw) finer leads e)

-- two profiles that were fed the same events, of which one refines the other
pub leads_after : (g h : GeometryValue) (es : List Event) → IsGeometry g → IsGeometry h →
    is_refined g h ≡ true
    → Leads (fold after_event (empty g) es) (fold after_event (empty h) es)
leads_after g h es one other refined =
    leads_with [] es (empty g) (empty h) (new_stands g one) (new_stands h other)
    (finer_of g h refined) (leads_empty (empty g) (empty h) refl)

pub front_refined : (g h : GeometryValue) (es : List Event) (addr : ℕ) → IsGeometry g →
    IsGeometry h → is_refined g h ≡ true
    → is_front_of (fold after_event (empty g) es) (block_of g addr) ≡ true →
    is_front_of (fold after_event (empty h) es) (block_of h addr) ≡ true
front_refined g h es addr one other refined front = grind (arith, geometry_after, leads_after)

-- A reference with distance 0 also has distance 0 in a geometry that refines this one.
front_of_found : (x : ℕ) (xs : List ℕ) → is_in x xs ≡ true → index_of x xs ≡ 0 →
    is_front x xs ≡ true
front_of_found x [] inside first = absurd (cc)
front_of_found x (y ∷ ys) inside first =
    cases (λ b. eqb y x ≡ b → b ≡ true) (eqb y x) (λ t e. refl)
    (λ f e.
    let further : 1 + index_of x ys ≡ 0 = sym (ap (λ b. cond (not b) (1 + index_of x ys) 0) e) ∙
    first in
    absurd (omega (arith, further)))
    refl

module _ (g : GeometryValue) (es : List Event) (r : Ref) (is : IsGeometry g) where
  abbrev at : Occurrence
  at = occurrence_after g es r

  abbrev state : ProfileState
  state = fold after_event (empty g) es

  finds_there : Finds g g.e at (list_of state (set_of_block g at.block))
  finds_there =
      let stands : ProfileStandsFor es state = stands_after g es is in
      let same : state.geometry ≡ g = geometry_after es (empty g) in
      let k : ℕ = set_of_block g at.block in
      finds g g.e at (list_of state k)
      (subst (λ h. list_of state k ≡ take h.e (distinct_of_set h k (window h es))) same
      (stands.lists k (subst (λ h. k < 2 ^ h.s) (sym same)
      (mod_below at.block (2 ^ g.s) (pow_pos g.s)))))

  front_there : is_front_of state at.block ≡ is_front at.block
      (list_of state (set_of_block g at.block))
  front_there = ap (λ h. is_front at.block (list_of state (set_of_block h at.block)))
      (geometry_after es (empty g))

  front_from : has_last at ≡ true → distance g at ≡ 0 → is_front_of state at.block ≡ true
  front_from last near = grind (arith, finds_there, ltb-true, front_there, front_of_found, lt-ltb)

  near_from : is_front_of state at.block ≡ true → (has_last at ≡ true) × (distance g at ≡ 0)
  near_from front = grind (arith, finds_there, found_front, front_there, ltb-true, lt-ltb)

pub near_refined : (g h : GeometryValue) (es : List Event) (r : Ref) → IsGeometry g → IsGeometry h →
    is_refined g h ≡ true
    → has_last (occurrence_after g es r) ≡ true → distance g (occurrence_after g es r) ≡ 0
    → (has_last (occurrence_after h es r) ≡ true) × (distance h (occurrence_after h es r) ≡ 0)
near_refined g h es r one other refined last near =
    near_from h es r other (front_refined g h es r.addr one other refined
    (front_from g es r one last near))
