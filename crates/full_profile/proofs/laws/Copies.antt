-- Copybacks that are counted change nothing but their numbers.
use Rattle.std.proofs.Common.{◌≡◌, ℕ, suc, ◌+◌, ◌-◌, ◌<◌, ◌≤◌, ◌&&◌, cond, eqb, ltb, leb, List}
use Rattle.std.proofs.Common.{[], ◌∷◌, length, take, sum, get_or, refl, sym, ◌∙◌, arith, length-set}
use Rattle.std.proofs.Common.{fold}
use Rattle.std.specs.List.{sum_by}
use Rattle.std.proofs.lemmas.Bool.{ltb-true, ltb-false}
use Rattle.std.proofs.lemmas.Bool.Decides.{nat_tests}
use Rattle.std.proofs.lemmas.List.Sums.{sum_by-cons}
use Rattle.deep_list.proofs.SlotLemmas.{sum_take-set, sum_take-set_above}
use Rattle.cache_core.proofs.Lists.{cases, list_any_is}
use Rattle.profile_core.specs.profile.RecencyList.{index_of, is_in}
use Rattle.profile_core.specs.profile.State.{one_more_at}
use Rattle.full_profile.specs.State.{FullState, after_copies, after_copies_of, after_evictions}

-- `u` is `v` after `count` copybacks in the cache of so many ways
pub record IsCopied (ways count : ℕ) (v u : FullState) : Type 0 where
  pub kinds : u.kinds ≡ v.kinds
  pub above_count : length u.copied_above ≡ length v.copied_above
  pub up_to_count : length u.copied_up_to ≡ length v.copied_up_to
  pub sums : sum (take ways u.copied_above) + sum (take ways v.copied_up_to)
      ≡ sum (take ways v.copied_above) + sum (take ways u.copied_up_to) + count

-- so many more ways than a clean depth, up to others: 1 if the cache of `ways` is among them
abbrev pub one_within : ℕ → ℕ → ℕ → ℕ
one_within above up_to ways = cond (ltb above ways && leb ways up_to) 1 0

pub raised_sum : (ns : List ℕ) (i ways : ℕ) → i < length ns →
    sum (take ways (one_more_at ns i)) ≡ sum (take ways ns) + cond (ltb i ways) 1 0
raised_sum ns i ways lt = grind (arith, nat_tests, sum_take-set, sum_take-set_above)

pub none_copied : (ways : ℕ) (v : FullState) → IsCopied ways 0 v v
none_copied ways v = record {
  kinds = refl;
  above_count = refl;
  up_to_count = refl;
  sums = omega arith;
}

copied_both : (ways m n : ℕ) (v u t : FullState) → IsCopied ways m v u → IsCopied ways n u t →
    IsCopied ways (m + n) v t
copied_both ways m n v u t h k = record {
  kinds = k.kinds ∙ h.kinds;
  above_count = k.above_count ∙ h.above_count;
  up_to_count = k.up_to_count ∙ h.up_to_count;
  sums = omega (arith, h.sums, k.sums);
}

within_is : (above up_to ways : ℕ) → above < up_to →
    cond {A = ℕ} (ltb above ways) 1 0 ≡ cond (ltb up_to ways) 1 0 + one_within above up_to ways
within_is above up_to ways lt = grind (arith, nat_tests)

within_none : (above up_to ways : ℕ) → up_to ≤ above → one_within above up_to ways ≡ 0
within_none above up_to ways le = grind (arith, nat_tests)

pub copies : (ways above up_to : ℕ) (v : FullState) → up_to < length v.copied_above →
    up_to < length v.copied_up_to →
    IsCopied ways (one_within above up_to ways) v (after_copies above up_to v)
copies ways above up_to v one other = cases
    (λ b. ltb above up_to ≡ b → IsCopied ways (one_within above up_to ways) v (cond b (record v {
      copied_above = one_more_at v.copied_above above;
      copied_up_to = one_more_at v.copied_up_to up_to;
    }) v))
    (ltb above up_to)
    (λ t is.
    let lt : above < up_to = ltb-true above up_to is in
    record {
      kinds = refl;
      above_count = length-set v.copied_above above _;
      up_to_count = length-set v.copied_up_to up_to _;
      sums = omega (
        arith,
        raised_sum v.copied_above above ways (omega arith),
        raised_sum v.copied_up_to up_to ways other,
        within_is above up_to ways lt,
      );
    })
    (λ f is. record {
      kinds = refl;
      above_count = refl;
      up_to_count = refl;
      sums = omega (arith, within_none above up_to ways (ltb-false above up_to is));
    })
    refl

-- the copybacks of a list's blocks, from an index on
abbrev pub counted_from : (ℕ → ℕ) → ℕ → ℕ → List ℕ → ℕ
counted_from up_to ways index [] = 0
counted_from up_to ways index (clean ∷ cleans) =
    one_within clean (up_to index) ways + counted_from up_to ways (index + 1) cleans

-- each number of ways is within a histogram of n numbers
abbrev pub IsWithin : (ℕ → ℕ) → ℕ → ℕ → Type 0
IsWithin up_to len n = (i : ℕ) → i < len → up_to i < n

pub copies_of : (up_to : ℕ → ℕ) (ways index : ℕ) (cleans : List ℕ) (v : FullState) →
    IsWithin up_to (index + length cleans) (length v.copied_above) →
    IsWithin up_to (index + length cleans) (length v.copied_up_to) →
    IsCopied ways (counted_from up_to ways index cleans) v (after_copies_of up_to index cleans v)
unfolding after_copies_of
copies_of up_to ways index [] v one other = none_copied ways v
copies_of up_to ways index (clean ∷ cleans) v one other =
    let u : FullState = after_copies_of up_to (index + 1) cleans v in
    let more : IsCopied ways (counted_from up_to ways (index + 1) cleans) v u =
    copies_of up_to ways (index + 1) cleans v (λ i lt. one i (omega (arith, lt)))
    (λ i lt. other i (omega (arith, lt))) in
    let here : IsCopied ways (one_within clean (up_to index) ways) u
    (after_copies clean (up_to index) u) =
    copies ways clean (up_to index) u
    (omega (arith, one index (omega arith), more.above_count))
    (omega (arith, other index (omega arith), more.up_to_count)) in
    let swapped : counted_from up_to ways (index + 1) cleans + one_within clean (up_to index)
    ways ≡ one_within clean (up_to index) ways + counted_from up_to ways (index + 1) cleans =
    omega arith in
    let both = copied_both ways _ _ v u _ more here in
    record {
      kinds = both.kinds;
      above_count = both.above_count;
      up_to_count = both.up_to_count;
      sums = omega (arith, both.sums, swapped);
    }

-- the copybacks of all lists
pub copies_of_all : (up_to : ℕ → ℕ) (ways len : ℕ) (lists : List (List ℕ)) (v : FullState) →
    ((k : ℕ) → length (get_or lists k []) ≤ len) → IsWithin up_to len (length v.copied_above) →
    IsWithin up_to len (length v.copied_up_to) →
    IsCopied ways (sum_by (counted_from up_to ways 0) lists) v
    (fold (λ w cleans. after_copies_of up_to 0 cleans w) v lists)
copies_of_all up_to ways len [] v short one other = none_copied ways v
copies_of_all up_to ways len (cleans ∷ lists) v short one other =
    let u : FullState = after_copies_of up_to 0 cleans v in
    let le : length cleans ≤ len = short 0 in
    let here : IsCopied ways (counted_from up_to ways 0 cleans) v u =
    copies_of up_to ways 0 cleans v (λ i lt. one i (omega (arith, lt, le)))
    (λ i lt. other i (omega (arith, lt, le))) in
    let rest : IsCopied ways (sum_by (counted_from up_to ways 0) lists) u
    (fold (λ w cs. after_copies_of up_to 0 cs w) u lists) =
    copies_of_all up_to ways len lists u (λ k. short (suc k))
    (λ i lt. omega (arith, one i lt, here.above_count))
    (λ i lt. omega (arith, other i lt, here.up_to_count)) in
    let both = copied_both ways _ _ v u _ here rest in
    record {
      kinds = both.kinds;
      above_count = both.above_count;
      up_to_count = both.up_to_count;
      sums = omega (
        arith,
        both.sums,
        sum_by-cons (counted_from up_to ways 0) cleans lists,
      );
    }

-- the copybacks of a reference, in the caches of so many ways
abbrev pub evicted_within : ℕ → ℕ → List ℕ → List ℕ → ℕ → ℕ
evicted_within depth x blocks cleans ways =
    cond (is_in x blocks)
    (one_within (get_or cleans (index_of x blocks) 0) (index_of x blocks) ways)
    (cond (eqb (length blocks) depth) (one_within (get_or cleans (depth - 1) 0) depth ways) 0)

pub evictions : (v : FullState) (x : ℕ) (blocks cleans : List ℕ) (ways : ℕ) →
    length blocks ≤ v.plain.geometry.e → length v.copied_above ≡ v.plain.geometry.e + 1 →
    length v.copied_up_to ≡ v.plain.geometry.e + 1 →
    IsCopied ways (evicted_within v.plain.geometry.e x blocks cleans ways) v
    (after_evictions v.plain.geometry.e x blocks cleans v)
evictions v x blocks cleans ways short one other =
    let depth : ℕ = v.plain.geometry.e in
    let d : ℕ = index_of x blocks in
    cases (λ b. is_in x blocks ≡ b → IsCopied ways
    (cond b (one_within (get_or cleans d 0) d ways)
    (cond (eqb (length blocks) depth) (one_within (get_or cleans (depth - 1) 0) depth ways) 0)) v
    (cond b (after_copies (get_or cleans d 0) d v) (cond (eqb (length blocks) depth)
    (after_copies (get_or cleans (depth - 1) 0) depth v) v)))
    (is_in x blocks)
    (λ t is.
    let found : d < length blocks = ltb-true d (length blocks) (sym (list_any_is (λ y. eqb y x)
    blocks) ∙ is) in
    copies ways (get_or cleans d 0) d v (omega (arith, found, short, one))
    (omega (arith, found, short, other)))
    (λ f is. cases (λ b. IsCopied ways
    (cond b (one_within (get_or cleans (depth - 1) 0) depth ways) 0) v
    (cond b (after_copies (get_or cleans (depth - 1) 0) depth v) v))
    (eqb (length blocks) depth)
    (λ full. copies ways (get_or cleans (depth - 1) 0) depth v (omega (arith, one))
    (omega (arith, other)))
    (λ free. none_copied ways v))
    refl
