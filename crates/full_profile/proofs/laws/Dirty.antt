-- Which blocks of a full profile's lists are dirty in the cache of so many ways: those of a clean
-- depth below that.
use Rattle.std.proofs.Common.{◌≡◌, ℕ, zero, suc, ◌+◌, ◌<◌, ◌≤◌, ◌^◌, ◌&&◌, ◌||◌, Bool, true}
use Rattle.std.proofs.Common.{false, not, cond, eqb, ltb, max, List, [], ◌∷◌, ◌++◌, length, take}
use Rattle.std.proofs.Common.{get_or, reverse, refl, sym, ◌∙◌, ap, subst, arith, ⊎_elim}
use Rattle.std.proofs.Common.{get_or-set_same, get_or-set_other, length-take, replicate}
use Rattle.std.specs.List.{remove, list_all}
use Rattle.std.proofs.lemmas.Bool.{eqb-true, eq-eqb, ne_eqb, ltb-true, cases_eq}
use Rattle.std.proofs.lemmas.Bool.{cases_lt, cond-true, cond-false, not-true, lt-ltb, le-ltb}
use Rattle.std.proofs.lemmas.Bool.Decides.{nat_tests}
use Rattle.std.proofs.lemmas.List.{get_or-replicate, get_or-take, reverse-append, reverse-reverse}
use Rattle.std.proofs.lemmas.List.Edits.{get_or-remove_below, get_or-remove_above, length-remove}
use Rattle.std.proofs.lemmas.List.Elements.{All-get_or}
use Rattle.std.proofs.lemmas.List.Sums.{AllPass-from_list_all, passes_at_first}
use Rattle.std.proofs.lemmas.Nat.{mod_below, pow_pos}
use Rattle.deep_list.proofs.LiveItemLemmas.{remove-end}
use Rattle.trace_core.specs.declared.events.Ref.{Ref}
use Rattle.trace_core.specs.declared.events.Event.{Event}
use Rattle.trace_core.specs.declared.events.Event.TheVariants as event
use Rattle.trace_core.specs.Events.{is_write}
use Rattle.cache_core.specs.Geometry.{GeometryValue, block_of, set_of_block, set_of}
use Rattle.cache_core.specs.Windows.{window, distinct_of_set, distinct, is_hit}
use Rattle.cache_core.specs.LruLaws.{occurrence_after}
use Rattle.cache_core.proofs.Lists.{other, IsOnce, IsOnce-take, eqb_flip, filter_passes}
use Rattle.cache_core.proofs.Lists.{list_all-take, list_any_is}
use Rattle.cache_core.proofs.Distances.{IsOnce-distinct_of_set}
use Rattle.profile_core.specs.profile.RecencyList.{index_of, is_in}
use Rattle.profile_core.specs.profile.State.{ProfileState, list_of}
use Rattle.profile_core.specs.profile.ProfileStandsFor.{ProfileStandsFor}
use Rattle.full_profile.specs.LookBack.{is_block_dirty}
use Rattle.full_profile.specs.State.{FullState, cleans_of, clean_in_front, after_full_reference}
use Rattle.full_profile.specs.State.{after_full_flush, empty_full}
use Rattle.full_profile.proofs.laws.Fit.{FullStandsFor}
use Rattle.full_profile.proofs.laws.LookingBack.{with_ways, hit_is}

-- a test that all numbers pass, at an index
passes_at : (p : ℕ → Bool) (xs : List ℕ) (i : ℕ) → list_all p xs ≡ true → i < length xs →
    p (get_or xs i 0) ≡ true
passes_at p xs i all lt = All-get_or (λ x. p x ≡ true) xs i 0 lt (AllPass-from_list_all p xs all)

-- where no two numbers are equal, each is found at its own index
index_once : (xs : List ℕ) (i : ℕ) → IsOnce xs → i < length xs → index_of (get_or xs i 0) xs ≡ i
index_once [] i once lt = absurd (omega (arith, lt))
index_once (y ∷ ys) zero once lt = ap (λ b. cond (not b) (1 + index_of y ys) 0) (eq-eqb y y refl)
index_once (y ∷ ys) (suc i) once lt =
    let x : ℕ = get_or ys i 0 in
    let differs : eqb y x ≡ false =
    eqb_flip y x (not-true (eqb x y) (passes_at (other y) ys i once.0 (omega (arith, lt)))) in
    ap (λ b. cond (not b) (1 + index_of x ys) 0) differs
    ∙ omega (arith, index_once ys i once.1 (omega (arith, lt)))

module _ (es : List Event) (v : ProfileState) (stands : ProfileStandsFor es v) (k : ℕ)
    (lt : k < 2 ^ v.geometry.s) where
  pub list_once : IsOnce (list_of v k)
  list_once = subst IsOnce (sym (stands.lists k lt))
      (IsOnce-take v.geometry.e _ (IsOnce-distinct_of_set v.geometry k (window v.geometry es)))

  -- each block of a list is of the list's set
  pub member_set : (i : ℕ) → i < length (list_of v k) →
      set_of_block v.geometry (get_or (list_of v k) i 0) ≡ k
  unfolding distinct_of_set
  member_set i inside =
      let p : ℕ → Bool = λ b. eqb (set_of_block v.geometry b) k in
      let all : list_all p (list_of v k) ≡ true = ap (list_all p) (stands.lists k lt)
      ∙ list_all-take p v.geometry.e (distinct_of_set v.geometry k (window v.geometry es))
      (filter_passes p (distinct (window v.geometry es))) in
      eqb-true _ _ (passes_at p (list_of v k) i all inside)

-- the block and the clean depth at an index of two lists without what stood at index d
record CameFrom (blocks cleans : List ℕ) (d j i : ℕ) : Type 0 where
  block : get_or (remove blocks d) j 0 ≡ get_or blocks i 0
  clean : get_or (remove cleans d) j 0 ≡ get_or cleans i 0
  near : i ≤ suc j
  apart : i ≡ d → ⊥
  inside : i < length blocks

came_from : (blocks cleans : List ℕ) (d j : ℕ) → length cleans ≡ length blocks →
    j < length (remove blocks d) → (i : ℕ) × CameFrom blocks cleans d j i
came_from blocks cleans d j alike lt =
    ⊎_elim
    (λ (found : d < length blocks).
    let short = length-remove blocks d found in
    ⊎_elim
    (λ (below : j < d). (
      j,
      record {
        block = get_or-remove_below blocks d 0 j below found;
        clean = get_or-remove_below cleans d 0 j below (omega (arith, found, alike));
        near = omega arith;
        apart = λ e. omega (arith, e, below);
        inside = omega (arith, below, found);
      },
    ))
    (λ (above : d ≤ j). (
      j + 1,
      record {
        block = get_or-remove_above blocks d 0 j above found;
        clean = get_or-remove_above cleans d 0 j above (omega (arith, found, alike));
        near = omega arith;
        apart = λ e. omega (arith, e, above);
        inside = omega (arith, lt, short);
      },
    ))
    (cases_lt j d))
    (λ (out : length blocks ≤ d).
    let within : j < length blocks = omega (arith, lt, ap length (remove-end blocks d out)) in (
      j,
      record {
        block = ap (λ xs. get_or xs j 0) (remove-end blocks d out);
        clean = ap (λ xs. get_or xs j 0) (remove-end cleans d (omega (arith, out, alike)));
        near = omega arith;
        apart = λ e. omega (arith, e, within, out);
        inside = within;
      },
    ))
    (cases_lt d (length blocks))

-- one more reference, the most recent
pub dirty_push : (g : GeometryValue) (es : List Event) (r : Ref) (b : ℕ) →
    is_block_dirty g b (reverse (es ++ event.Reference r ∷ [])) ≡ cond (eqb (block_of g r.addr) b)
    (is_write r.access || (is_hit g (occurrence_after g es r) && is_block_dirty g b (reverse es)))
    (is_block_dirty g b (reverse es))
unfolding is_block_dirty
dirty_push g es r b =
    ap (is_block_dirty g b) (reverse-append es (event.Reference r ∷ []))
    ∙ ap (λ past. cond (eqb (block_of g r.addr) b)
    (is_write r.access || (is_hit g (occurrence_after g past r) && is_block_dirty g b (reverse es)))
    (is_block_dirty g b (reverse es))) (reverse-reverse es)

max_below : (c d ways : ℕ) → d < ways → ltb c ways ≡ ltb (max c d) ways
max_below c d ways lt = grind (arith, nat_tests)

-- a block in front is dirty if it was written, or was held dirty
front_dirty : (ways depth d c : ℕ) (write inside was : Bool) → 1 ≤ ways → ways ≤ depth →
    (inside ≡ true → d < ways → was ≡ ltb c ways) →
    (write || ((inside && ltb d ways) && was))
    ≡ ltb (cond write 0 (cond inside (max c d) depth)) ways
front_dirty ways depth d c true inside was some within h = sym (lt-ltb 0 ways some)
front_dirty ways depth d c false false was some within h = sym (le-ltb depth ways within)
front_dirty ways depth d c false true was some within h =
    ⊎_elim
    (λ (near : d < ways).
    let is : was ≡ ltb c ways = h refl near in
    ap (λ b. b && was) (lt-ltb d ways near) ∙ is ∙ max_below c d ways near)
    (λ (far : ways ≤ d).
    ap (λ b. b && was) (le-ltb d ways far)
    ∙ sym (le-ltb (max c d) ways (omega (arith, far))))
    (cases_lt d ways)

-- the blocks at the first indices, which the cache of so many ways holds
pub record KnowsDirty (ways : ℕ) (es : List Event) (v : FullState) : Type 0 where
  pub tells : (k i : ℕ) → k < 2 ^ v.plain.geometry.s → i < ways →
      i < length (list_of v.plain k) →
      is_block_dirty (with_ways v.plain.geometry ways) (get_or (list_of v.plain k) i 0) (reverse es)
      ≡ ltb (get_or (cleans_of v k) i 0) ways

module _ (ways : ℕ) (es : List Event) (v : FullState) (stands : FullStandsFor es v)
    (some : 1 ≤ ways) (within : ways ≤ v.plain.geometry.e) (know : KnowsDirty ways es v)
    (r : Ref) where
  abbrev g : GeometryValue
  g = v.plain.geometry

  abbrev small : GeometryValue
  small = with_ways g ways

  abbrev x : ℕ
  x = block_of g r.addr

  abbrev own_set : ℕ
  own_set = set_of g r.addr

  abbrev blocks : List ℕ
  blocks = list_of v.plain own_set

  abbrev cleans : List ℕ
  cleans = cleans_of v own_set

  abbrev d : ℕ
  d = index_of x blocks

  abbrev past : List Event
  past = reverse (es ++ event.Reference r ∷ [])

  abbrev given : ℕ
  given = clean_in_front g.e r.access x blocks cleans

  is_set : own_set < 2 ^ g.s
  is_set = mod_below x (2 ^ g.s) (pow_pos g.s)

  found_block : is_in x blocks ≡ true → (d < length blocks) × (get_or blocks d 0 ≡ x)
  found_block inside =
      let lt : d < length blocks = ltb-true d (length blocks)
      (sym (list_any_is (λ y. eqb y x) blocks) ∙ inside) in
      (lt, eqb-true _ _ (passes_at_first (λ y. eqb y x) blocks 0 lt))

  in_front : is_block_dirty small x past ≡ ltb given ways
  in_front =
      dirty_push small es r x
      ∙ cond-true (eqb x x) _ _ (eq-eqb x x refl)
      ∙ ap (λ b. is_write r.access || (b && is_block_dirty small x (reverse es)))
      (hit_is es v.plain stands.plain ways within r)
      ∙ front_dirty ways g.e d (get_or cleans d 0) (is_write r.access) (is_in x blocks)
      (is_block_dirty small x (reverse es)) some within
      (λ inside near.
      let found = found_block inside in
      ap (λ b. is_block_dirty small b (reverse es)) (sym found.1)
      ∙ know.tells own_set d is_set near found.0)

  behind : (j : ℕ) → j < length (remove blocks d) → suc j < ways →
      is_block_dirty small (get_or (remove blocks d) j 0) past
      ≡ ltb (get_or (remove cleans d) j 0) ways
  behind j lt near =
      let from = came_from blocks cleans d j (stands.fit.alike own_set) lt in
      let at = from.1 in
      let b : ℕ = get_or blocks from.0 0 in
      let differs : eqb x b ≡ false = ne_eqb x b (λ e. at.apart
      (sym (index_once blocks from.0 (list_once es v.plain stands.plain own_set is_set) at.inside)
      ∙ ap (λ y. index_of y blocks) (sym e))) in
      ap (λ y. is_block_dirty small y past) at.block
      ∙ dirty_push small es r b ∙ cond-false (eqb x b) _ _ differs
      ∙ know.tells own_set from.0 is_set (omega (arith, at.near, near)) at.inside
      ∙ ap (λ c. ltb c ways) (sym at.clean)

  in_own : (i : ℕ) → i < ways → i < length (x ∷ remove blocks d) →
      is_block_dirty small (get_or (x ∷ remove blocks d) i 0) past
      ≡ ltb (get_or (given ∷ remove cleans d) i 0) ways
  in_own zero near lt = in_front
  in_own (suc j) near lt = behind j (omega (arith, lt)) near

  in_own_list : (i : ℕ) → i < ways → i < length (take g.e (x ∷ remove blocks d)) →
      is_block_dirty small (get_or (take g.e (x ∷ remove blocks d)) i 0) past
      ≡ ltb (get_or (take g.e (given ∷ remove cleans d)) i 0) ways
  in_own_list i near lt =
      let e : i < g.e = omega (arith, near, within) in
      ap (λ b. is_block_dirty small b past) (get_or-take g.e (x ∷ remove blocks d) i 0 e)
      ∙ in_own i near (omega (arith, lt, length-take g.e (x ∷ remove blocks d)))
      ∙ ap (λ c. ltb c ways) (sym (get_or-take g.e (given ∷ remove cleans d) i 0 e))

  in_other : (k i : ℕ) → k < 2 ^ g.s → i < ways → i < length (list_of v.plain k) →
      (own_set ≡ k → ⊥) →
      is_block_dirty small (get_or (list_of v.plain k) i 0) past
      ≡ ltb (get_or (cleans_of v k) i 0) ways
  in_other k i lt near inside apart =
      let b : ℕ = get_or (list_of v.plain k) i 0 in
      let differs : eqb x b ≡ false = ne_eqb x b (λ e. apart (ap (set_of_block g) e
      ∙ member_set es v.plain stands.plain k lt i inside)) in
      dirty_push small es r b ∙ cond-false (eqb x b) _ _ differs ∙ know.tells k i lt near inside

  list_same : (k : ℕ) → own_set ≡ k →
      list_of (after_full_reference v r).plain k ≡ take g.e (x ∷ remove blocks d)
  list_same k same = ap (λ j. list_of (after_full_reference v r).plain j) (sym same)
      ∙ get_or-set_same v.plain.lists own_set _ []
      (subst (λ (n : ℕ). own_set < n) (sym stands.plain.set_count) is_set)

  cleans_same : (k : ℕ) → own_set ≡ k →
      cleans_of (after_full_reference v r) k ≡ take g.e (given ∷ remove cleans d)
  cleans_same k same = ap (λ j. cleans_of (after_full_reference v r) j) (sym same)
      ∙ get_or-set_same v.cleans own_set _ []
      (subst (λ (n : ℕ). own_set < n) (sym stands.fit.set_count) is_set)

  list_other : (k : ℕ) → (own_set ≡ k → ⊥) →
      list_of (after_full_reference v r).plain k ≡ list_of v.plain k
  list_other k apart = get_or-set_other v.plain.lists own_set k _ [] (λ e. apart (sym e))

  cleans_other : (k : ℕ) → (own_set ≡ k → ⊥) →
      cleans_of (after_full_reference v r) k ≡ cleans_of v k
  cleans_other k apart = get_or-set_other v.cleans own_set k _ [] (λ e. apart (sym e))

  -- what is known of a block of two lists
  abbrev Known : ℕ → List ℕ → List ℕ → Type 0
  Known i bs cs = i < length bs →
      is_block_dirty small (get_or bs i 0) past ≡ ltb (get_or cs i 0) ways

  moved : (i : ℕ) (bs bs' cs cs' : List ℕ) → bs' ≡ bs → cs' ≡ cs → Known i bs cs → Known i bs' cs'
  moved i bs bs' cs cs' same alike h = subst (λ (b : List ℕ). Known i b cs') (sym same)
      (subst (λ (c : List ℕ). Known i bs c) (sym alike) h)

  pub knows_reference : KnowsDirty ways (es ++ event.Reference r ∷ []) (after_full_reference v r)
  knows_reference = record {
    tells = λ k i lt near.
        ⊎_elim
        (λ (same : own_set ≡ k). moved i _ _ _ _ (list_same k same) (cleans_same k same)
        (in_own_list i near))
        (λ (apart : own_set ≡ k → ⊥). moved i _ _ _ _ (list_other k apart) (cleans_other k apart)
        (λ inside. in_other k i lt near inside apart))
        (cases_eq own_set k);
  }

none_listed : (n k i : ℕ) → k < n → i < length (get_or {A = List ℕ} (replicate n []) k []) → ⊥
none_listed n k i lt inside = omega (
  arith,
  inside,
  ap length (get_or-replicate {A = List ℕ} n k [] [] lt),
)

pub knows_flush : (ways : ℕ) (es : List Event) (v : FullState) →
    KnowsDirty ways (es ++ event.Flush ∷ []) (after_full_flush v)
knows_flush ways es v = record {
  tells = λ k i lt near inside. absurd (none_listed (2 ^ v.plain.geometry.s) k i lt inside);
}

pub knows_new : (ways : ℕ) (g : GeometryValue) → KnowsDirty ways [] (empty_full g)
knows_new ways g = record {
  tells = λ k i lt near inside. absurd (none_listed (2 ^ g.s) k i lt inside);
}
