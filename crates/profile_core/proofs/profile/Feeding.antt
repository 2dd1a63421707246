-- A profile after a reference: where the reference finds its block, and what the numbers say then.
use Rattle.std.proofs.Common.{◌≡◌, ℕ, suc, ◌+◌, ◌<◌, ◌≤◌, ◌^◌, cond, Bool, true, false}
use Rattle.std.proofs.Common.{not, eqb, ◌||◌, List, [], ◌∷◌, length, take, get_or, set, sum}
use Rattle.std.proofs.Common.{refl, sym, ◌∙◌, ap, subst, arith}
use Rattle.std.proofs.lemmas.Bool.{ltb-true, eqb-true}
use Rattle.std.proofs.lemmas.List.{set-get_or, take_all}
use Rattle.std.proofs.lemmas.List.Sums.{sum_by-set}
use Rattle.std.specs.List.{remove}
use Rattle.std.specs.Prelude.{replicate}
use Rattle.std.proofs.lemmas.List.{length-replicate}
use Rattle.cache_core.proofs.Lists.{list_any_is}
use Rattle.cache_core.specs.Geometry.{GeometryValue, IsGeometry, set_of_block}
use Rattle.profile_core.specs.declared.set_lists.recency.Standing.TheVariants.{Behind, New}
use Rattle.profile_core.specs.profile.RecencyList.{index_of, is_in, is_front, move_to_front}
use Rattle.profile_core.specs.internal.set_lists.Moves.{is_second, standing_of}
use Rattle.profile_core.specs.internal.set_lists.Lists.{Lists}
use Rattle.profile_core.specs.profile.State.{ProfileState, list_of, one_more_at, after_reference}
use Rattle.profile_core.specs.profile.State.{fed_of, empty}
use Rattle.profile_core.specs.internal.profile.StackProfile.{IsSound, weighed, compared}
use Rattle.profile_core.proofs.Elements.{all_same}
use Rattle.profile_core.proofs.rows.Bringing.{absent_at}
use Rattle.profile_core.proofs.Shifting.{other_front, index_behind, index-le}
use Rattle.profile_core.proofs.profile.Weighing.{weighed-zeros, sum-zeros}

behind_at : (b : Bool) (distance p n : ℕ) → Behind distance ≡ cond b (Behind p) (New n) →
    (b ≡ true) × (distance ≡ p)
behind_at true distance p n e = (refl, cc)
behind_at false distance p n e = absurd (cc)

new_at : (b : Bool) (len p n : ℕ) → New len ≡ cond b (Behind p) (New n) → (b ≡ false) × (len ≡ n)
new_at true len p n h = absurd (cc)
new_at false len p n h = (refl, cc)

-- a reference to x finds its block at a stack distance
pub record FoundAt (x distance : ℕ) (xs : List ℕ) : Type 0 where
  pub inside : is_in x xs ≡ true
  pub distance_is : index_of x xs ≡ distance
  pub within : distance < length xs

pub found_front : (x : ℕ) (xs : List ℕ) → is_front x xs ≡ true → FoundAt x 0 xs
found_front x [] front = absurd (cc)
found_front x (y ∷ ys) front = record {
  inside = ap (λ b. b || is_in x ys) front;
  distance_is = ap (λ b. cond (not b) (1 + index_of x ys) 0) front;
  within = omega arith;
}

pub front_stays : (x e : ℕ) (xs : List ℕ) → is_front x xs ≡ true → length xs ≤ e →
    take e (move_to_front x xs) ≡ xs
front_stays x e [] front short = absurd (cc)
front_stays x e (y ∷ ys) front short =
    ap (λ i. take e (x ∷ remove (y ∷ ys) i)) (found_front x (y ∷ ys) front).distance_is ∙
    ap (λ z. take e (z ∷ ys)) (sym (eqb-true y x front))
    ∙ take_all e (y ∷ ys) short

pub found_behind : (x distance : ℕ) (xs : List ℕ) → Behind distance ≡ standing_of x xs →
    FoundAt x distance xs
found_behind x distance xs standing =
    let at = behind_at (is_in x xs) distance (index_of x xs) (length xs) standing in
    let lt : index_of x xs < length xs = ltb-true (index_of x xs) (length xs)
    (sym (list_any_is (λ z. eqb z x) xs) ∙ at.0) in
    record { inside = at.0; distance_is = sym at.1; within = omega (arith, at.1, lt) }

pub found_second : (x : ℕ) (xs : List ℕ) → is_front x xs ≡ false → is_second x xs ≡ true →
    FoundAt x 1 xs
found_second x [] other second = absurd (cc)
found_second x (y ∷ []) other second = absurd (cc)
found_second x (y ∷ z ∷ zs) other second =
    let here : index_of x (z ∷ zs) ≡ 0 = ap (λ b. cond (not b) (1 + index_of x zs) 0) second in
    record {
      inside = ap (λ b. b || is_in x (z ∷ zs)) other ∙ ap (λ b. b || is_in x zs) second;
      distance_is = index_behind x y (z ∷ zs) (other_front x y (z ∷ zs) other) ∙ ap suc here;
      within = omega arith;
    }

-- behind the front, the distance is not 0
pub behind_front : (x distance : ℕ) (xs : List ℕ) → is_front x xs ≡ false →
    FoundAt x distance xs → 1 ≤ distance
behind_front x distance [] other f = absurd (omega (arith, f.within))
behind_front x distance (y ∷ ys) other f =
    omega (arith, index_behind x y ys (other_front x y ys other), f.distance_is)

pub record FoundNowhere (x len : ℕ) (xs : List ℕ) : Type 0 where
  pub outside : is_in x xs ≡ false
  pub index_is : index_of x xs ≡ length xs
  pub len_is : len ≡ length xs

pub found_nowhere : (x len : ℕ) (xs : List ℕ) → New len ≡ standing_of x xs → FoundNowhere x len xs
found_nowhere x len xs standing =
    let at = new_at (is_in x xs) len (index_of x xs) (length xs) standing in
    record {
      outside = at.0;
      index_is = absent_at (is_in x xs) (index_of x xs) (length xs) (list_any_is (λ z. eqb z x) xs)
          at.0 (index-le x xs);
      len_is = at.1;
    }

-- one reference more, found at a distance or not found in a list of n blocks
sum-raise : (ns : List ℕ) (i : ℕ) → i < length ns → sum (one_more_at ns i) ≡ sum ns + 1
sum-raise ns i lt = omega (arith, sum_by-set (λ m. m) ns i (get_or ns i 0 + 1) 0 lt)

one_of_both : (b : Bool) (ds ms : List ℕ) (i n : ℕ) → (b ≡ true → i < length ds) → n < length ms
    → sum (cond b (one_more_at ds i) ds) + sum (cond b ms (one_more_at ms n)) ≡ sum ds + sum ms + 1
one_of_both true ds ms i n here le = omega (arith, sum-raise ds i (here refl))
one_of_both false ds ms i n here le = omega (arith, sum-raise ms n le)

pub after_fed : (v : ProfileState) (x : ℕ) →
    length (list_of v (set_of_block v.geometry x)) ≤ length v.distances
    → length (list_of v (set_of_block v.geometry x)) < length v.misses_by_occupancy →
    fed_of (after_reference v x) ≡ fed_of v + 1
after_fed v x near far = grind (arith, one_of_both, ltb-true, list_any_is)

-- The state after a reference, part by part.
module _ (v : ProfileState) (x k : ℕ) (of_set : k ≡ set_of_block v.geometry x) where
  abbrev xs : List ℕ
  xs = list_of v (set_of_block v.geometry x)

  pub found_step : (distance probes' : ℕ) (lists' : List (List ℕ)) (distances' : List ℕ) →
      FoundAt x distance (list_of v k)
      → lists' ≡ set v.lists k (take v.geometry.e (move_to_front x (list_of v k))) →
      distances' ≡ one_more_at v.distances distance
      → probes' ≡ v.probes + (distance + 1)
      → record v { lists = lists'; distances = distances'; probes = probes' } ≡ after_reference v x
  found_step distance probes' lists' distances' found moved raised more = grind arith

  pub nowhere_step : (len n probes' : ℕ) (lists' : List (List ℕ)) → FoundNowhere x len (list_of v k)
      → lists' ≡ set v.lists k (take v.geometry.e (move_to_front x (list_of v k))) →
      n ≡ get_or v.misses_by_occupancy len 0
      → probes' ≡ v.probes + len
      → record v {
        lists = lists';
        misses_by_occupancy = set v.misses_by_occupancy len (n + 1);
        probes = probes';
      }
      ≡ after_reference v x
  nowhere_step len n probes' lists' found moved read more = grind arith

  -- the front, which stays
  pub front_step : (distances' : List ℕ) → is_front x (list_of v k) ≡ true →
      length (list_of v k) ≤ v.geometry.e → distances' ≡ one_more_at v.distances 0
      → record v { distances = distances'; probes = v.probes + 1 } ≡ after_reference v x
  front_step distances' front short raised =
      grind (arith, found_step, found_front, front_stays, set-get_or)

-- A new profile, whose lists are empty and whose numbers are all 0
pub new_is : (g : GeometryValue) (lists : Lists) (distances missed : List ℕ) →
    lists.lists ≡ replicate (2 ^ g.s) [] → distances ≡ replicate g.e 0 →
    missed ≡ replicate (g.e + 1) 0 →
    record {
      geometry = g;
      lists = lists.lists;
      distances = distances;
      misses_by_occupancy = missed;
      probes = compared distances missed;
    } ≡ empty g
new_is g lists distances missed sets near far =
    let none : compared distances missed ≡ 0 = omega (
      arith,
      ap (weighed 1) near ∙ weighed-zeros 1 g.e,
      ap (weighed 0) far ∙ weighed-zeros 0 (g.e + 1),
    ) in
    cc (sets, near, far, none)

pub new_sound : (g : GeometryValue) (lists : Lists) (distances missed : List ℕ) → IsGeometry g →
    lists.depth ≡ g.e
    → lists.lists ≡ replicate (2 ^ g.s) [] → distances ≡ replicate g.e 0 →
    missed ≡ replicate (g.e + 1) 0 → IsSound g lists distances missed
new_sound g lists distances missed geometry depth sets near far =
    let near_sum = ap sum near ∙ sum-zeros g.e in
    let far_sum = ap sum far ∙ sum-zeros (g.e + 1) in
    record {
      geometry = geometry;
      depth = depth;
      set_count = ap length sets ∙ length-replicate (2 ^ g.s) [];
      short = λ k. subst (λ (ls : List (List ℕ)). length (get_or ls k []) ≤ g.e) (sym sets)
          (omega (arith, ap length (all_same {A = List ℕ} (2 ^ g.s) k [])));
      distance_count = ap length near ∙ length-replicate g.e 0;
      occupancy_count = ap length far ∙ length-replicate (g.e + 1) 0;
      fed = omega (arith, near_sum, far_sum);
    }
