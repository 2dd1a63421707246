-- References that are settled: they change nothing but the number of fronts, and are settled in
-- each profile that refines this one.
use Rattle.std.proofs.Common.{◌≡◌, ℕ, zero, suc, ◌+◌, ◌<◌, ◌≤◌, ◌^◌, ◌||◌, Bool, true}
use Rattle.std.proofs.Common.{false, not, cond, eqb, ltb, max, List, [], ◌∷◌, ◌++◌, length, take}
use Rattle.std.proofs.Common.{get_or, set, refl, sym, ◌∙◌, ap, subst, arith, ⊎_elim, fold}
use Rattle.std.proofs.Common.{get_or-set_same, get_or-set_other, replicate}
use Rattle.std.specs.List.{remove}
use Rattle.std.proofs.lemmas.Bool.{and_parts, and_from, or_cases, eqb-true, eq-eqb}
use Rattle.std.proofs.lemmas.Bool.{cases_eq, not_from_false, le-ltb, cond-true, cond-false}
use Rattle.std.proofs.lemmas.Bool.{both_ways}
use Rattle.std.proofs.lemmas.List.{set-get_or, take_all}
use Rattle.std.proofs.lemmas.Nat.{mod_below, pow_pos}
use Rattle.trace_core.specs.declared.events.Access.{Access}
use Rattle.trace_core.specs.declared.events.Ref.{Ref}
use Rattle.trace_core.specs.declared.events.Event.{Event}
use Rattle.trace_core.specs.declared.events.Event.TheVariants as event
use Rattle.trace_core.specs.Events.{is_write}
use Rattle.cache_core.specs.Geometry.{GeometryValue, IsGeometry, block_of, set_of_block, set_of}
use Rattle.cache_core.proofs.Lists.{cases}
use Rattle.profile_core.specs.profile.RecencyList.{index_of, is_in, is_front}
use Rattle.profile_core.specs.profile.State.{empty, list_of, after_event}
use Rattle.profile_core.specs.profile.State.{after_reference}
use Rattle.profile_core.specs.profile.Fronts.{is_front_of, after_fronts, is_refined}
use Rattle.profile_core.specs.internal.profile.CountedFronts.{Leads}
use Rattle.profile_core.proofs.profile.Feeding.{found_front}
use Rattle.profile_core.proofs.profile.Fronts.{front_reference, IsFiner, finer_of, leads_after}
use Rattle.profile_core.proofs.profile.Fronts.{no_front}
use Rattle.full_profile.specs.State.{FullState, cleans_of, kind_of, kind_number}
use Rattle.full_profile.specs.State.{with_miss, clean_in_front, after_copies, after_evictions}
use Rattle.full_profile.specs.State.{after_full_reference, after_reference_in_lists, full_after}
use Rattle.full_profile.specs.State.{empty_full, after_full_event, after_full_flush}
use Rattle.full_profile.proofs.laws.Fit.{fed_after}
use Rattle.full_profile.proofs.laws.Runs.{plain_part, each_event, after_more}
use Rattle.full_profile.proofs.laws.Runs.{geometry_stays}
use Rattle.full_profile.specs.Batches.{IsFitFull, is_settled, after_settled, SettledLaw}

zero_or : (write : Bool) (c : ℕ) → (not write || eqb c 0) ≡ true → cond write 0 (max c 0) ≡ c
zero_or true c settled = sym (eqb-true c 0 settled)
zero_or false c settled = omega arith

-- a front that stays dirty in all caches, or as it was
clean_stays : (depth : ℕ) (access : Access) (x : ℕ) (blocks cleans : List ℕ) →
    is_front x blocks ≡ true → (not (is_write access) || eqb (get_or cleans 0 0) 0) ≡ true →
    clean_in_front depth access x blocks cleans ≡ get_or cleans 0 0
clean_stays depth access x blocks cleans front settled =
    let found = found_front x blocks front in
    ap (cond (is_write access) 0) (cond-true (is_in x blocks) _ _ found.inside)
    ∙ ap (λ i. cond (is_write access) 0 (max (get_or cleans i 0) i)) found.distance_is
    ∙ zero_or (is_write access) (get_or cleans 0 0) settled

cleans_stay : (depth : ℕ) (access : Access) (x : ℕ) (blocks cleans : List ℕ) →
    length cleans ≡ length blocks → length blocks ≤ depth → is_front x blocks ≡ true →
    (not (is_write access) || eqb (get_or cleans 0 0) 0) ≡ true →
    take depth (clean_in_front depth access x blocks cleans ∷ remove cleans (index_of x blocks))
    ≡ cleans
cleans_stay depth access x [] cleans alike short front settled = absurd (cc)
cleans_stay depth access x (y ∷ blocks) [] alike short front settled = absurd (omega (arith, alike))
cleans_stay depth access x (y ∷ blocks) (c ∷ cleans) alike short front settled =
    ap (λ i. take depth (clean_in_front depth access x (y ∷ blocks) (c ∷ cleans)
    ∷ remove (c ∷ cleans) i)) (found_front x (y ∷ blocks) front).distance_is
    ∙ ap (λ d. take depth (d ∷ cleans))
    (clean_stays depth access x (y ∷ blocks) (c ∷ cleans) front settled)
    ∙ take_all depth (c ∷ cleans) (omega (arith, alike, short))

none_evicted : (depth x : ℕ) (blocks cleans : List ℕ) (v : FullState) → is_front x blocks ≡ true →
    after_evictions depth x blocks cleans v ≡ v
none_evicted depth x blocks cleans v front =
    let found = found_front x blocks front in
    cond-true (is_in x blocks) _ _ found.inside
    ∙ ap (λ i. after_copies (get_or cleans i 0) i v) found.distance_is
    ∙ cond-false (ltb (get_or cleans 0 0) 0) _ _ (le-ltb (get_or cleans 0 0) 0 (omega arith))

-- a settled reference, by the lists of its set
settled_in : (v : FullState) (access : Access) (x : ℕ) → IsFitFull v →
    let k = set_of_block v.plain.geometry x in
    is_front x (list_of v.plain k) ≡ true →
    (not (is_write access) || eqb (get_or (cleans_of v k) 0 0) 0) ≡ true →
    after_reference_in_lists v access x (list_of v.plain k) (cleans_of v k) ≡ after_settled 1 v
settled_in v access x fit front settled =
    let depth : ℕ = v.plain.geometry.e in
    let k : ℕ = set_of_block v.plain.geometry x in
    let blocks : List ℕ = list_of v.plain k in
    let cleans : List ℕ = cleans_of v k in
    let none = none_evicted depth x blocks cleans v front in
    let first : after_reference v.plain x ≡ after_fronts 1 v.plain =
    front_reference v.plain x fit.plain front in
    let kept : set v.cleans k (take depth (clean_in_front depth access x blocks cleans
    ∷ remove cleans (index_of x blocks))) ≡ v.cleans =
    ap (set v.cleans k) (cleans_stay depth access x blocks cleans (fit.alike k)
    (fit.plain.short k) front settled) ∙ set-get_or v.cleans k [] in
    let kinds : cond (is_front x blocks) v.kinds (set v.kinds (kind_number access)
    (with_miss x blocks (kind_of v access))) ≡ v.kinds = cond-true (is_front x blocks) _ _ front in
    cc (none, first, kept)

pub settled_changes_fronts_only : (v : FullState) (r : Ref) → IsFitFull v →
    is_settled v r ≡ true → after_full_reference v r ≡ after_settled 1 v
settled_changes_fronts_only v r fit settled =
    let x : ℕ = block_of v.plain.geometry r.addr in
    let parts = and_parts (is_front_of v.plain x) _ settled in
    settled_in v r.access x fit parts.0 parts.1

-- Where the front of a profile is dirty in all caches, so is that of another one, which was fed the
-- same.
LeadsDirty : FullState → FullState → Type 0
LeadsDirty v w = (addr : ℕ) → is_front_of v.plain (block_of v.plain.geometry addr) ≡ true →
    get_or (cleans_of v (set_of v.plain.geometry addr)) 0 0 ≡ 0 →
    get_or (cleans_of w (set_of w.plain.geometry addr)) 0 0 ≡ 0

front_of_found : (x : ℕ) (xs : List ℕ) → is_in x xs ≡ true → index_of x xs ≡ 0 →
    is_front x xs ≡ true
front_of_found x [] inside first = absurd (cc)
front_of_found x (y ∷ ys) inside first = cases
    (λ b. eqb y x ≡ b → b ≡ true)
    (eqb y x)
    (λ t is. refl)
    (λ f is.
    let further : 1 + index_of x ys ≡ 0 =
    sym (ap (λ b. cond (not b) (1 + index_of x ys) 0) is) ∙ first in
    absurd (omega (arith, further)))
    refl

-- a block that was read is dirty in all caches if it was the front, and so before
was_dirty : (depth : ℕ) (access : Access) (x : ℕ) (blocks cleans : List ℕ) → 1 ≤ depth →
    clean_in_front depth access x blocks cleans ≡ 0 → is_write access ≡ false →
    (is_front x blocks ≡ true) × (get_or cleans 0 0 ≡ 0)
was_dirty depth access x blocks cleans some dirty read =
    let d : ℕ = index_of x blocks in
    let seen : cond (is_in x blocks) (max (get_or cleans d 0) d) depth ≡ 0 =
    sym (cond-false (is_write access) _ _ read) ∙ dirty in
    cases (λ b. is_in x blocks ≡ b → cond b (max (get_or cleans d 0) d) depth ≡ 0 →
    (is_front x blocks ≡ true) × (get_or cleans 0 0 ≡ 0))
    (is_in x blocks)
    (λ t is both.
    let first : d ≡ 0 = omega (arith, both) in
    let front = front_of_found x blocks is first in
    let clean : get_or cleans d 0 ≡ 0 = omega (arith, both) in
    (front, sym (ap (λ i. get_or cleans i 0) first) ∙ clean))
    (λ f is none. absurd (omega (arith, none, some)))
    refl seen

stays_dirty : (depth : ℕ) (access : Access) (x : ℕ) (blocks cleans : List ℕ) →
    (is_write access ≡ false → (is_front x blocks ≡ true) × (get_or cleans 0 0 ≡ 0)) →
    clean_in_front depth access x blocks cleans ≡ 0
stays_dirty depth access x blocks cleans h = cases
    (λ b. is_write access ≡ b → clean_in_front depth access x blocks cleans ≡ 0)
    (is_write access)
    (λ t is. cond-true (is_write access) _ _ is)
    (λ f is.
    let was = h is in
    clean_stays depth access x blocks cleans was.0
    (ap (λ b. b || eqb (get_or cleans 0 0) 0) (not_from_false (is_write access) is)) ∙ was.1)
    refl

first_taken : (depth c : ℕ) (cs : List ℕ) → 1 ≤ depth → get_or (take depth (c ∷ cs)) 0 0 ≡ c
first_taken zero c cs some = absurd (omega (arith, some))
first_taken (suc depth) c cs some = refl

front_taken : (depth x y : ℕ) (ys : List ℕ) → 1 ≤ depth → is_front x (take depth (y ∷ ys)) ≡ true →
    y ≡ x
front_taken zero x y ys some front = absurd (omega (arith, some))
front_taken (suc depth) x y ys some front = eqb-true y x front

-- the clean depth that a reference gives its block
abbrev clean_given : FullState → Ref → ℕ
clean_given v r =
    let g = v.plain.geometry in
    clean_in_front g.e r.access (block_of g r.addr) (list_of v.plain (set_of g r.addr))
    (cleans_of v (set_of g r.addr))

-- the set of an address that is in the set of a reference, and of one that isn't
module _ (v : FullState) (r : Ref) (fit : IsFitFull v) (addr : ℕ) where
  abbrev g : GeometryValue
  g = v.plain.geometry

  abbrev inside : ℕ → Type 0
  inside n = set_of g r.addr < n

  is_set : set_of g r.addr < 2 ^ g.s
  is_set = mod_below (block_of g r.addr) (2 ^ g.s) (pow_pos g.s)

  clean_same : set_of g r.addr ≡ set_of g addr →
      get_or (cleans_of (after_full_reference v r) (set_of g addr)) 0 0 ≡ clean_given v r
  clean_same same =
      ap (λ k. get_or (cleans_of (after_full_reference v r) k) 0 0) (sym same)
      ∙ ap (λ cs. get_or cs 0 0) (get_or-set_same v.cleans (set_of g r.addr) _ []
      (subst inside (sym fit.set_count) is_set))
      ∙ first_taken g.e _ _ fit.plain.some

  front_same : set_of g r.addr ≡ set_of g addr →
      is_front_of (after_full_reference v r).plain (block_of g addr) ≡ true →
      block_of g r.addr ≡ block_of g addr
  front_same same front = front_taken g.e _ _ _ fit.plain.some
      (sym (ap (is_front (block_of g addr)) (get_or-set_same v.plain.lists (set_of g r.addr) _ []
      (subst inside (sym fit.plain.set_count) is_set)))
      ∙ ap (λ k. is_front (block_of g addr) (list_of (after_full_reference v r).plain k)) same
      ∙ front)

  clean_other : (set_of g r.addr ≡ set_of g addr → ⊥) →
      cleans_of (after_full_reference v r) (set_of g addr) ≡ cleans_of v (set_of g addr)
  clean_other apart =
      get_or-set_other v.cleans (set_of g r.addr) (set_of g addr) _ [] (λ e. apart (sym e))

  front_other : (set_of g r.addr ≡ set_of g addr → ⊥) →
      is_front_of (after_full_reference v r).plain (block_of g addr)
      ≡ is_front_of v.plain (block_of g addr)
  front_other apart = ap (is_front (block_of g addr))
      (get_or-set_other v.plain.lists (set_of g r.addr) (set_of g addr) _ [] (λ e. apart (sym e)))

dirty_reference : (v w : FullState) → IsFitFull v → IsFitFull w →
    IsFiner v.plain.geometry w.plain.geometry → Leads v.plain w.plain → LeadsDirty v w →
    (r : Ref) → LeadsDirty (after_full_reference v r) (after_full_reference w r)
unfolding LeadsDirty
dirty_reference v w fit fit' finer fronts leads r = λ a front dirty.
    let g : GeometryValue = v.plain.geometry in let h : GeometryValue = w.plain.geometry in
    ⊎_elim
    (λ (same : set_of g r.addr ≡ set_of g a).
    let block : block_of h r.addr ≡ block_of h a =
    finer.blocks r.addr a (front_same v r fit a same front) in
    clean_same w r fit' a (ap (set_of_block h) block)
    ∙ stays_dirty h.e r.access (block_of h r.addr) (list_of w.plain (set_of h r.addr))
    (cleans_of w (set_of h r.addr))
    (λ read.
    let was = was_dirty g.e r.access (block_of g r.addr) (list_of v.plain (set_of g r.addr))
    (cleans_of v (set_of g r.addr)) fit.plain.some (sym (clean_same v r fit a same) ∙ dirty) read in
    (fronts r.addr was.0, leads r.addr was.0 was.1)))
    (λ (apart : set_of g r.addr ≡ set_of g a → ⊥).
    ap (λ cs. get_or cs 0 0) (clean_other w r fit' a (λ e. apart (finer.sets r.addr a e)))
    ∙ leads a (sym (front_other v r fit a apart) ∙ front)
    (sym (ap (λ cs. get_or cs 0 0) (clean_other v r fit a apart)) ∙ dirty))
    (cases_eq (set_of g r.addr) (set_of g a))

dirty_empty : (v w : FullState) → v.plain.lists ≡ replicate (2 ^ v.plain.geometry.s) [] →
    LeadsDirty v w
unfolding LeadsDirty
dirty_empty v w none = λ a front dirty.
    let g : GeometryValue = v.plain.geometry in
    absurd (both_ways _ (ap (λ ls. is_front (block_of g a) (get_or ls (set_of g a) [])) none
    ∙ no_front (2 ^ g.s) (set_of g a) (block_of g a)) front)

dirty_event : (v w : FullState) → IsFitFull v → IsFitFull w →
    IsFiner v.plain.geometry w.plain.geometry → Leads v.plain w.plain → LeadsDirty v w →
    (e : Event) → LeadsDirty (after_full_event v e) (after_full_event w e)
dirty_event v w fit fit' finer fronts leads (event.Reference r) =
    dirty_reference v w fit fit' finer fronts leads r
dirty_event v w fit fit' finer fronts leads event.Flush =
    dirty_empty (after_full_flush v) (after_full_flush w) refl

either_true : (b : Bool) → (b || true) ≡ true
either_true true = refl
either_true false = refl

-- two profiles that were fed the same events, of which one refines the other
module _ (g h : GeometryValue) (one : IsGeometry g) (other : IsGeometry h)
    (refined : is_refined g h ≡ true) where
  finer_there : (es : List Event) →
      IsFiner (full_after g es).plain.geometry (full_after h es).plain.geometry
  finer_there es = subst (λ k. IsFiner k (full_after h es).plain.geometry)
      (sym (geometry_stays g es)) (subst (IsFiner g) (sym (geometry_stays h es))
      (finer_of g h refined))

  fronts_there : (es : List Event) → Leads (full_after g es).plain (full_after h es).plain
  fronts_there es = subst (λ p. Leads p (full_after h es).plain) (sym (plain_part g es))
      (subst (Leads (fold after_event (empty g) es)) (sym (plain_part h es))
      (leads_after g h es one other refined))

  dirty_after : (es : List Event) → LeadsDirty (full_after g es) (full_after h es)
  dirty_after = each_event (λ es. LeadsDirty (full_after g es) (full_after h es))
      (dirty_empty (empty_full g) (empty_full h) refl)
      (λ es e leads.
      subst (λ (v : FullState). LeadsDirty v (full_after h (es ++ e ∷ [])))
      (sym (after_more g es e))
      (subst (LeadsDirty (after_full_event (full_after g es) e)) (sym (after_more h es e))
      (dirty_event (full_after g es) (full_after h es) (fed_after g es one).fit
      (fed_after h es other).fit (finer_there es) (fronts_there es) leads e)))

pub settled_is_refined : SettledLaw
unfolding LeadsDirty
settled_is_refined g h es r one other refined settled =
    let v : FullState = full_after g es in let w : FullState = full_after h es in
    let parts = and_parts (is_front_of v.plain (block_of v.plain.geometry r.addr)) _ settled in
    let front = fronts_there g h one other refined es r.addr parts.0 in
    let unwritten : Bool = not (is_write r.access) in
    let dirty : eqb (get_or (cleans_of v (set_of v.plain.geometry r.addr)) 0 0) 0 ≡ true →
    eqb (get_or (cleans_of w (set_of w.plain.geometry r.addr)) 0 0) 0 ≡ true =
    λ is. eq-eqb _ _ (dirty_after g h one other refined es r.addr parts.0 (eqb-true _ _ is)) in
    and_from _ _ front
    (⊎_elim
    (λ (read : unwritten ≡ true). ap (λ b. b || eqb (get_or (cleans_of w
    (set_of w.plain.geometry r.addr)) 0 0) 0) read)
    (λ (is : eqb (get_or (cleans_of v (set_of v.plain.geometry r.addr)) 0 0) 0 ≡ true).
    ap (λ b. unwritten || b) (dirty is) ∙ either_true unwritten)
    (or_cases unwritten _ parts.1))
