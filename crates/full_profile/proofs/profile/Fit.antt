-- A full profile's invariant, after each step.
use Rattle.std.proofs.Common.{◌≡◌, ℕ, zero, suc, ◌+◌, ◌-◌, ◌<◌, ◌≤◌, ◌^◌, Bool, true, false, cond}
use Rattle.std.proofs.Common.{eqb}
use Rattle.std.proofs.Common.{List, [], ◌∷◌, length, take, get_or, set, sum, refl, sym, ◌∙◌}
use Rattle.std.proofs.Common.{ap, subst, arith, inl, inr, length-set}
use Rattle.std.proofs.Common.{get_or-set_same, get_or-set_other}
use Rattle.std.specs.Prelude.{replicate}
use Rattle.std.specs.List.{sum_by}
use Rattle.std.proofs.lemmas.Bool.{cases_eq, eqb-true}
use Rattle.std.proofs.lemmas.List.{length-replicate}
use Rattle.std.proofs.lemmas.List.Sums.{sum_by-set, sum_by-cons}
use Rattle.std.proofs.lemmas.Nat.{mod_below, pow_pos}
use Rattle.trace_core.specs.declared.events.Access.{Access}
use Rattle.trace_core.specs.declared.events.Access.TheVariants.{Fetch, Read, Write}
use Rattle.cache_core.specs.Geometry.{GeometryValue, set_of_block}
use Rattle.profile_core.specs.profile.RecencyList.{index_of, is_in, is_front, move_to_front}
use Rattle.profile_core.specs.profile.State.{list_of, one_more_at, fed_of}
use Rattle.profile_core.specs.profile.State.{after_reference}
use Rattle.profile_core.specs.internal.profile.StackProfile.{IsFit}
use Rattle.profile_core.proofs.profile.Fronts.{reference_fed}
use Rattle.full_profile.specs.State.{FullState, KindState, kind_number, cleans_of, kind_of}
use Rattle.full_profile.specs.State.{with_miss, after_reference_in_lists, after_emptying}
use Rattle.full_profile.specs.State.{clean_in_front, empty_kind, empty_full}
use Rattle.full_profile.specs.declared.copies.Emptying.{Emptying}
use Rattle.full_profile.specs.internal.Copies.{CopiesValue, with_copy, copies_of}
use Rattle.full_profile.specs.internal.Copies.{up_to_of}
use Rattle.full_profile.specs.internal.Marked.{cleans_after}
use Rattle.full_profile.specs.Batches.{after_settled}
use Rattle.full_profile.specs.internal.Sound.{IsFullFit}
use Rattle.profile_core.proofs.profile.Weighing.{sum-zeros}
use Rattle.full_profile.proofs.copies.Adding.{IsMore, one_copy, none_more, all_more, sum_more}
use Rattle.full_profile.proofs.copies.Order.{AreOrdered, copy_ordered, emptying_ordered}
use Rattle.full_profile.proofs.copies.Order.{none_ordered}
use Rattle.full_profile.proofs.marked_lists.Touching.{same_size, size_found, size_new, inside_lt}
use Rattle.full_profile.proofs.profile.Steps.{copies_after, kinds_after, reference_is}
use Rattle.full_profile.proofs.profile.Steps.{emptying_is}

pub ordered : {v : FullState} → IsFullFit v → AreOrdered v.plain.geometry.e (copies_of v)
ordered f = record { above_long = f.above_long; up_to_long = f.up_to_long; in_order = f.in_order }

pub kind_within : (access : Access) → kind_number access < 3
kind_within Read = omega arith
kind_within Write = omega arith
kind_within Fetch = omega arith

-- one more miss
miss_if : (b : Bool) (i : ℕ) (s : KindState) → let after = cond b
    (record s { behind = one_more_at s.behind i }) (record s { missed = s.missed + 1 }) in
    (length after.behind ≡ length s.behind)
    × (sum after.behind + after.missed ≤ sum s.behind + s.missed + 1)
miss_if true i s = (length-set s.behind i _, omega (arith, sum_more s.behind i))
miss_if false i s = (refl, omega arith)

miss_long : (x : ℕ) (xs : List ℕ) (s : KindState) →
    length (with_miss x xs s).behind ≡ length s.behind
miss_long x xs s = (miss_if (is_in x xs) (index_of x xs) s).0

miss_few : (x : ℕ) (xs : List ℕ) (s : KindState) →
    sum (with_miss x xs s).behind + (with_miss x xs s).missed ≤ sum s.behind + s.missed + 1
miss_few x xs s = (miss_if (is_in x xs) (index_of x xs) s).1

count_if : (b : Bool) (ks : List KindState) (i : ℕ) (y : KindState) →
    length (cond b ks (set ks i y)) ≡ length ks
count_if true ks i y = refl
count_if false ks i y = length-set ks i y

-- one more copyback, or none
more_if : (b e : Bool) (a u a' u' : ℕ) (c : CopiesValue) → IsMore (cond b 1 (cond e 1 0)) c
    (cond b (with_copy a u c) (cond e (with_copy a' u' c) c))
more_if true e a u a' u' c = one_copy a u c
more_if false true a u a' u' c = one_copy a' u' c
more_if false false a u a' u' c = none_more 0 c

ordered_if : (b e : Bool) (a u a' u' d : ℕ) (c : CopiesValue) → AreOrdered d c →
    (b ≡ true → u ≤ d) → u' ≤ d →
    AreOrdered d (cond b (with_copy a u c) (cond e (with_copy a' u' c) c))
ordered_if true e a u a' u' d c o found last = copy_ordered o a u (found refl)
ordered_if false true a u a' u' d c o found last = copy_ordered o a' u' last
ordered_if false false a u a' u' d c o found last = o

empty_long : (g : GeometryValue) (a : Access) → length (kind_of (empty_full g) a).behind ≡ g.e
empty_long g Read = length-replicate g.e 0
empty_long g Write = length-replicate g.e 0
empty_long g Fetch = length-replicate g.e 0

empty_few : (g : GeometryValue) (a : Access) →
    sum (kind_of (empty_full g) a).behind + (kind_of (empty_full g) a).missed ≡ 0
empty_few g Read = omega (arith, sum-zeros g.e)
empty_few g Write = omega (arith, sum-zeros g.e)
empty_few g Fetch = omega (arith, sum-zeros g.e)

-- a reference to block x, whose set k has the lists xs and ms
module _ {v : FullState} (f : IsFullFit v) (fit : IsFit v.plain) (access : Access) (x : ℕ) where
  abbrev k : ℕ
  k = set_of_block v.plain.geometry x

  abbrev d : ℕ
  d = v.plain.geometry.e

  abbrev xs : List ℕ
  xs = list_of v.plain k

  abbrev ms : List ℕ
  ms = cleans_of v k

  abbrev new : List ℕ
  new = take d (move_to_front x xs)

  abbrev clean_new : List ℕ
  clean_new = cleans_after d access x xs ms

  among_lists : k < length v.plain.lists
  among_lists = omega (
    arith,
    mod_below x (2 ^ v.plain.geometry.s) (pow_pos v.plain.geometry.s),
    fit.set_count,
  )

  among_cleans : k < length v.cleans
  among_cleans = omega (arith, among_lists, f.set_count)

  new_alike : length clean_new ≡ length new
  new_alike = same_size d (index_of x xs) x (clean_in_front d access x xs ms) xs ms
      (f.same_lengths k)

  fed_more : fed_of (after_reference v.plain x) ≡ fed_of v.plain + 1
  fed_more = reference_fed v.plain x fit

  abbrev inside : Bool
  inside = is_in x xs

  abbrev full : Bool
  full = eqb (length xs) d

  -- as many copybacks more
  abbrev shown : ℕ
  shown = cond inside 1 (cond full 1 0)

  size_is : (b e : Bool) → is_in x xs ≡ b → eqb (length xs) d ≡ e →
      length new + cond b 1 (cond e 1 0) ≤ length xs + 1
  size_is true e found is = omega (arith, size_found d x xs found (fit.short k))
  size_is false true out is =
      omega (arith, size_new d x xs out, eqb-true (length xs) d is)
  size_is false false out is = omega (arith, size_new d x xs out)

  copies_more : IsMore shown (copies_of v) (copies_after d x xs ms (copies_of v))
  copies_more = more_if inside full (get_or ms (index_of x xs) 0) (index_of x xs)
      (get_or ms (d - 1) 0) d (copies_of v)

  copies_ordered : AreOrdered d (copies_after d x xs ms (copies_of v))
  copies_ordered = ordered_if inside full (get_or ms (index_of x xs) 0) (index_of x xs)
      (get_or ms (d - 1) 0) d d (copies_of v) (ordered f)
      (λ found. omega (arith, inside_lt x xs found, fit.short k)) (omega arith)

  few : sum (copies_after d x xs ms (copies_of v)).above + sum_by length (set v.cleans k clean_new)
      ≤ fed_of v.plain + 1
  few = omega (
    arith,
    copies_more.above_few,
    sum_by-set length v.cleans k clean_new [] among_cleans,
    new_alike,
    f.same_lengths k,
    size_is inside full refl refl,
    f.copies_few,
  )

  -- the misses of each kind
  kinds_hold : (P : KindState → Type 0) → ((a : Access) → P (kind_of v a)) →
      P (with_miss x xs (kind_of v access)) → (b : Bool) (a : Access) →
      P (get_or (cond b v.kinds (set v.kinds (kind_number access)
      (with_miss x xs (kind_of v access)))) (kind_number a) (empty_kind v.plain.geometry))
  kinds_hold P before after true a = before a
  kinds_hold P before after false a =
      let i = kind_number access in
      let y = with_miss x xs (kind_of v access) in
      let lt : i < length v.kinds = omega (arith, kind_within access, f.kind_count) in
      elim (cases_eq (kind_number a) i) [
        | inl same ↦ subst P (sym (ap (λ j. get_or (set v.kinds i y) j (empty_kind
            v.plain.geometry))
            same ∙ get_or-set_same v.kinds i y (empty_kind v.plain.geometry) lt)) after
        | inr other ↦ subst P (sym (get_or-set_other v.kinds i (kind_number a) y
            (empty_kind v.plain.geometry) other)) (before a)
      ]

  kinds_long : (a : Access) → length (get_or (kinds_after v access x xs) (kind_number a)
      (empty_kind v.plain.geometry)).behind ≡ d
  kinds_long a = kinds_hold (λ s. length s.behind ≡ d) f.kinds_long
      (miss_long x xs (kind_of v access) ∙ f.kinds_long access) (is_front x xs) a

  kinds_few : (a : Access) → sum (get_or (kinds_after v access x xs) (kind_number a)
      (empty_kind v.plain.geometry)).behind + (get_or (kinds_after v access x xs) (kind_number a)
      (empty_kind v.plain.geometry)).missed ≤ fed_of v.plain + 1
  kinds_few a = kinds_hold (λ s. sum s.behind + s.missed ≤ fed_of v.plain + 1)
      (λ b. omega (arith, f.kinds_few b))
      (omega (arith, miss_few x xs (kind_of v access), f.kinds_few access)) (is_front x xs) a

  pub fit_after : IsFullFit (after_reference_in_lists v access x xs ms)
  fit_after = subst IsFullFit (sym (reference_is v access x xs ms)) (record {
    set_count = length-set v.cleans k clean_new ∙ f.set_count ∙ sym (length-set v.plain.lists k
        new);
    same_lengths = λ i. elim (cases_eq i k) [
      | inl same ↦ ap (λ j. length (get_or (set v.cleans k clean_new) j [])) same
          ∙ ap length (get_or-set_same v.cleans k clean_new [] among_cleans) ∙ new_alike
          ∙ sym (ap (λ j. length (get_or (set v.plain.lists k new) j [])) same
          ∙ ap length (get_or-set_same v.plain.lists k new [] among_lists))
      | inr other ↦ ap length (get_or-set_other v.cleans k i clean_new [] other)
          ∙ f.same_lengths i
          ∙ sym (ap length (get_or-set_other v.plain.lists k i new [] other))
    ];
    kind_count = count_if (is_front x xs) v.kinds (kind_number access)
        (with_miss x xs (kind_of v access)) ∙ f.kind_count;
    kinds_long = kinds_long;
    kinds_few = λ a. omega (arith, kinds_few a, fed_more);
    above_long = copies_ordered.above_long;
    up_to_long = copies_ordered.up_to_long;
    copies_few = omega (arith, few, fed_more);
    in_order = copies_ordered.in_order;
  })

-- references that are settled
fronts_more : (ds : List ℕ) (n : ℕ) → sum ds ≤ sum (set ds 0 (get_or ds 0 0 + n))
fronts_more [] n = omega arith
fronts_more (d ∷ ds) n = omega (arith, sum_by-cons (λ m. m) d ds, sum_by-cons (λ m. m) (d + n) ds)

pub fit_settled : {v : FullState} → IsFullFit v → (n : ℕ) → IsFullFit (after_settled n v)
fit_settled {v} f n =
    let more = fronts_more v.plain.distances n in
    record {
      set_count = f.set_count;
      same_lengths = f.same_lengths;
      kind_count = f.kind_count;
      kinds_long = f.kinds_long;
      kinds_few = λ a. omega (arith, f.kinds_few a, more);
      above_long = f.above_long;
      up_to_long = f.up_to_long;
      copies_few = omega (arith, f.copies_few, more);
      in_order = f.in_order;
    }

-- lists that are emptied
none_held : (n : ℕ) → sum_by length (replicate {A = List ℕ} n []) ≡ 0
none_held zero = refl
none_held (suc n) = omega (arith, sum_by-cons length [] (replicate {A = List ℕ} n []), none_held n)

pub fit_emptied : {v : FullState} → IsFullFit v → IsFit v.plain → (e : Emptying) →
    IsFullFit (after_emptying (up_to_of e v.plain.geometry.e) v)
fit_emptied {v} f fit e =
    let n : ℕ = 2 ^ v.plain.geometry.s in
    let up_to = up_to_of e v.plain.geometry.e in
    let more = all_more up_to v.cleans (copies_of v) in
    let o = emptying_ordered e v.plain.geometry.e v.cleans (copies_of v)
    (λ i. omega (arith, f.same_lengths i, fit.short i)) (ordered f) in
    subst IsFullFit (sym (emptying_is up_to v)) (record {
      set_count = refl;
      same_lengths = λ i. refl;
      kind_count = f.kind_count;
      kinds_long = f.kinds_long;
      kinds_few = f.kinds_few;
      above_long = o.above_long;
      up_to_long = o.up_to_long;
      copies_few = omega (arith, more.above_few, f.copies_few, none_held n);
      in_order = o.in_order;
    })

-- nothing fed
pub fit_empty : (g : GeometryValue) → IsFullFit (empty_full g)
fit_empty g =
    let o = none_ordered g.e in
    record {
      set_count = refl;
      same_lengths = λ i. refl;
      kind_count = refl;
      kinds_long = λ a. empty_long g a;
      kinds_few = λ a. omega (arith, empty_few g a);
      above_long = o.above_long;
      up_to_long = o.up_to_long;
      copies_few = omega (arith, sum-zeros (g.e + 1), none_held (2 ^ g.s));
      in_order = o.in_order;
    }
