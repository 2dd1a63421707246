-- A profile that stands for a list of events, and the list with one more event.
use Rattle.std.proofs.Common.{◌≡◌, ◌≢◌, ℕ, ◌+◌, ◌<◌, ◌^◌, Bool, true, false, not, ◌&&◌, cond, eqb}
use Rattle.std.proofs.Common.{ltb, min, List, [], ◌∷◌, ◌++◌, length, take, refl, sym, ◌∙◌, ap}
use Rattle.std.proofs.Common.{subst, arith, get_or, set, ⊎_elim, get_or-set_same, get_or-set_other}
use Rattle.std.proofs.Common.{length-set}
use Rattle.std.proofs.lemmas.List.{length-replicate, get_or-replicate}
use Rattle.std.specs.List.{count_by, sum_by}
use Rattle.std.proofs.lemmas.Bool.{ne_eqb, cases_eq, ltb-true}
use Rattle.std.proofs.Math.Seq.{take-nil}
use Rattle.std.proofs.lemmas.Nat.{mod_below, pow_pos}
use Rattle.cache_core.proofs.Distances.{take-distinct_of_set-same, distinct_of_set-other}
use Rattle.cache_core.proofs.Distances.{distinct_of_set-nil}
use Rattle.cache_core.proofs.Occurrences.{occurrences-flush, window-nil, window-push}
use Rattle.cache_core.proofs.Occurrences.{sum_by-reference}
use Rattle.trace_core.specs.declared.events.Ref.{Ref}
use Rattle.trace_core.specs.declared.events.Event.{Event}
use Rattle.trace_core.specs.declared.events.Event.TheVariants as event
use Rattle.cache_core.specs.Geometry.{GeometryValue, IsGeometry, block_of, set_of_block}
use Rattle.cache_core.specs.LruLaws.{occurrence_after}
use Rattle.cache_core.specs.Windows.{Occurrence, distinct_of_set, has_last, distance, blocks_seen}
use Rattle.cache_core.specs.Windows.{is_hit, window, occurrences, occurrences_after, probes}
use Rattle.profile_core.specs.profile.RecencyList.{index_of, is_in, move_to_front}
use Rattle.profile_core.specs.profile.State.{ProfileState, empty, list_of, one_more_at}
use Rattle.profile_core.specs.profile.State.{after_reference_in_list, after_reference, after_flush}
use Rattle.profile_core.specs.profile.ProfileStandsFor.{ProfileStandsFor}
use Rattle.profile_core.proofs.profile.Steps.{raise_if, raise_unless, Finds, finds, distance_within}
use Rattle.profile_core.proofs.profile.Steps.{probes_within}

-- the list of each set after a reference
lists_step : (es : List Event) (v : ProfileState) (r : Ref) (xs : List ℕ) → ProfileStandsFor es v
    → xs ≡ take v.geometry.e (distinct_of_set v.geometry
    (set_of_block v.geometry (block_of v.geometry r.addr)) (window v.geometry es))
    → (k : ℕ) → k < 2 ^ v.geometry.s
    → list_of (after_reference_in_list v (block_of v.geometry r.addr) xs) k ≡ take v.geometry.e
    (distinct_of_set v.geometry k (window v.geometry (es ++ event.Reference r ∷ [])))
lists_step es v r xs h e k lt =
    let g = v.geometry in
    let x : ℕ = block_of v.geometry r.addr in
    let w : List ℕ = window v.geometry es in
    let moved : take v.geometry.e (move_to_front x xs) ≡ take v.geometry.e
    (distinct_of_set g (set_of_block g x) (x ∷ w)) =
    ap (λ ys. take v.geometry.e (move_to_front x ys)) e ∙ take-distinct_of_set-same g v.geometry.e x
    w h.geometry.some in
    let grown : take v.geometry.e (distinct_of_set g k (x ∷ w)) ≡ take v.geometry.e
    (distinct_of_set g k (window v.geometry (es ++ event.Reference r ∷ []))) =
    ap (λ ws. take v.geometry.e (distinct_of_set g k ws))
    (sym (window-push v.geometry es (event.Reference r))) in
    ⊎_elim
    (λ (same : set_of_block g x ≡ k).
    let inside : set_of_block g x < length v.lists = subst (λ (n : ℕ). set_of_block g x < n)
    (sym h.set_count) (subst (λ (n : ℕ). n < 2 ^ g.s) (sym same) lt) in
    ap (λ j. get_or (set v.lists (set_of_block g x) (take v.geometry.e (move_to_front x xs))) j [])
    (sym same)
    ∙ get_or-set_same v.lists (set_of_block g x) (take v.geometry.e (move_to_front x xs)) [] inside
    ∙ moved ∙ ap (λ j. take v.geometry.e (distinct_of_set g j (x ∷ w))) same ∙ grown)
    (λ (differs : set_of_block g x ≡ k → ⊥).
    let ne : k ≢ set_of_block g x = λ q. differs (sym q) in
    get_or-set_other v.lists (set_of_block g x) k (take v.geometry.e (move_to_front x xs)) [] ne
    ∙ h.lists k lt ∙ ap (λ ys. take v.geometry.e ys)
    (sym (distinct_of_set-other g k x w (ne_eqb (set_of_block g x) k differs))) ∙ grown)
    (cases_eq (set_of_block g x) k)

length-raise : (ns : List ℕ) (i : ℕ) → length (one_more_at ns i) ≡ length ns
length-raise ns i = length-set ns i _

pub length-either : (b : Bool) (xs ys : List ℕ) {n : ℕ} → length xs ≡ n → length ys ≡ n →
    length (cond b xs ys) ≡ n
length-either true xs ys p q = p
length-either false xs ys p q = q

referenced_in_stands : (es : List Event) (v : ProfileState) (r : Ref) (xs : List ℕ) →
    ProfileStandsFor es v
    → xs ≡ take v.geometry.e (distinct_of_set v.geometry
    (set_of_block v.geometry (block_of v.geometry r.addr)) (window v.geometry es))
    → ProfileStandsFor (es ++ event.Reference r ∷ [])
    (after_reference_in_list v (block_of v.geometry r.addr) xs)
unfolding probes
referenced_in_stands es v r xs h e =
    let g = v.geometry in
    let p : Occurrence = occurrence_after g es r in
    let f : Finds g g.e p xs = finds g g.e p xs e in
    let x : ℕ = p.block in
    record {
      geometry = h.geometry;
      set_count = length-set v.lists _ _ ∙ h.set_count;
      lists = lists_step es v r xs h e;
      distance_count =
          length-either (is_in x xs) (one_more_at v.distances (index_of x xs)) v.distances
          (length-raise v.distances (index_of x xs)) refl ∙ h.distance_count;
      distances = λ d lt.
          let step : (is_in x xs && eqb (index_of x xs) d) ≡ (has_last p && eqb (distance g p) d) =
          cc (
            distance_within (distance g p) (blocks_seen g p) v.geometry.e d lt,
            f.last,
            f.found,
            f.index,
          ) in
          raise_if (is_in x xs) v.distances (index_of x xs) d
          (λ found.
          let nearer : min (distance g p) v.geometry.e < min v.geometry.e (blocks_seen g p) =
          ltb-true _ _ (sym f.found ∙ found) in
          omega (arith, f.index, h.distance_count, nearer))
          ∙ ap (λ n. n + cond (is_in x xs && eqb (index_of x xs) d) 1 0) (h.distances d lt)
          ∙ ap (λ b. count_by (λ q. has_last q && eqb (distance g q) d)
          (occurrences v.geometry es) + cond b 1 0) step
          ∙ sym (sum_by-reference (λ q. cond (has_last q && eqb (distance g q) d) 1 0) g es r);
      occupancy_count =
          length-either (is_in x xs) v.misses_by_occupancy (one_more_at v.misses_by_occupancy
          (length xs)) refl (length-raise v.misses_by_occupancy (length xs))
          ∙ h.occupancy_count;
      misses_by_occupancy = λ n le.
          let same : min v.geometry.e (blocks_seen g p) ≡ min (blocks_seen g p) v.geometry.e =
          omega arith in
          let step : (not (is_in x xs) && eqb (length xs) n) ≡ (not (is_hit g p) && eqb
          (min (blocks_seen g p) v.geometry.e) n) = cc (f.hit, f.len, same) in
          raise_unless (is_in x xs) v.misses_by_occupancy (length xs) n
          (λ _. omega (arith, f.len, h.occupancy_count))
          ∙ ap (λ m. m + cond (not (is_in x xs) && eqb (length xs) n) 1 0)
          (h.misses_by_occupancy n le)
          ∙ ap (λ b. count_by (λ q. not (is_hit g q) && eqb (min (blocks_seen g q) v.geometry.e) n)
          (occurrences v.geometry es) + cond b 1 0) step
          ∙ sym (sum_by-reference (λ q. cond
          (not (is_hit g q) && eqb (min (blocks_seen g q) v.geometry.e) n) 1 0) g es r);
      comparisons =
          let more : min (index_of x xs + 1) (length xs) ≡ cond (is_hit g p) (distance g p + 1)
          (min (blocks_seen g p) v.geometry.e) =
          ap (λ i. min (i + 1) (length xs)) f.index ∙
          ap (λ n. min (min (distance g p) v.geometry.e + 1) n) f.len
          ∙ sym (ap (λ b. cond (b && ltb (distance g p) v.geometry.e) (distance g p + 1)
          (min (blocks_seen g p) v.geometry.e)) f.last
          ∙ probes_within (distance g p) (blocks_seen g p) v.geometry.e f.within) in
          ap (λ n. n + min (index_of x xs + 1) (length xs)) h.comparisons
          ∙ ap (λ n. probes g es + n) more
          ∙ sym (sum_by-reference (λ q. cond (is_hit g q) (distance g q + 1)
          (min (blocks_seen g q) v.geometry.e)) g es r);
    }

pub reference_stands : (es : List Event) (v : ProfileState) (r : Ref) → ProfileStandsFor es v
    → ProfileStandsFor (es ++ event.Reference r ∷ [])
    (after_reference v (block_of v.geometry r.addr))
reference_stands es v r h =
    referenced_in_stands es v r (list_of v (set_of_block v.geometry (block_of v.geometry r.addr))) h
    (h.lists (set_of_block v.geometry (block_of v.geometry r.addr))
    (mod_below _ _ (pow_pos v.geometry.s)))

pub flush_stands : (es : List Event) (v : ProfileState) → ProfileStandsFor es v →
    ProfileStandsFor (es ++ event.Flush ∷ []) (after_flush v)
unfolding probes
flush_stands es v h =
    let same = sym (occurrences-flush v.geometry es) in
    record {
      geometry = h.geometry;
      set_count = length-replicate (2 ^ v.geometry.s) [];
      lists = λ k lt.
          get_or-replicate (2 ^ v.geometry.s) k [] [] lt
          ∙ sym (take-nil v.geometry.e)
          ∙ ap (λ ys. take v.geometry.e ys) (sym (distinct_of_set-nil v.geometry k)
          ∙ ap (distinct_of_set v.geometry k) (sym (window-push v.geometry es event.Flush)));
      distance_count = h.distance_count;
      distances = λ d lt. h.distances d lt ∙
          ap (count_by (λ p. has_last p && eqb (distance v.geometry p) d)) same;
      occupancy_count = h.occupancy_count;
      misses_by_occupancy = λ n le.
          h.misses_by_occupancy n le ∙ ap (count_by (λ p. not (is_hit v.geometry p) && eqb
          (min (blocks_seen v.geometry p) v.geometry.e) n)) same;
      comparisons = h.comparisons
          ∙ ap (sum_by (λ p. cond (is_hit v.geometry p) (distance v.geometry p + 1)
          (min (blocks_seen v.geometry p) v.geometry.e))) same;
    }

pub new_stands : (g : GeometryValue) → IsGeometry g → ProfileStandsFor [] (empty g)
unfolding probes occurrences_after
new_stands g h =
    record {
      geometry = h;
      set_count = length-replicate (2 ^ g.s) [];
      lists = λ k lt.
          get_or-replicate (2 ^ g.s) k [] [] lt ∙ sym (take-nil g.e)
          ∙ ap (λ ys. take g.e ys) (sym (distinct_of_set-nil g k) ∙ ap (distinct_of_set g k)
          (sym (window-nil g)));
      distance_count = length-replicate g.e 0;
      distances = λ d lt. get_or-replicate g.e d 0 0 lt;
      occupancy_count = length-replicate (g.e + 1) 0;
      misses_by_occupancy = λ n le. get_or-replicate (g.e + 1) n 0 0 (omega arith);
      comparisons = refl;
    }
