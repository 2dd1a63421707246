-- Copybacks that are counted: how many ends there are, and lists of blocks in any order.
use Rattle.std.proofs.Common.{◌≡◌, ℕ, zero, suc, ◌+◌, ◌<◌, ◌≤◌, Bool, true, false, cond, ltb}
use Rattle.std.proofs.Common.{List, [], ◌∷◌, ◌++◌, length, drop, get_or, set, sum, refl, sym, ◌∙◌}
use Rattle.std.proofs.Common.{ap}
use Rattle.std.proofs.Common.{arith, add-one, length-set}
use Rattle.std.specs.List.{sum_by}
use Rattle.std.proofs.Math.Seq.{drop-cons}
use Rattle.std.proofs.lemmas.List.Sums.{sum_by-cons}
use Rattle.profile_core.specs.profile.State.{one_more_at}
use Rattle.full_profile.specs.declared.copies.Emptying.{Emptying}
use Rattle.full_profile.specs.declared.copies.Emptying.TheVariants.{Flush, End}
use Rattle.full_profile.specs.internal.Copies.{CopiesValue, with_copy, with_copies_of}
use Rattle.full_profile.specs.internal.Copies.{with_all_copies, up_to_of}

-- one more
pub sum_more : (ns : List ℕ) (i : ℕ) → sum (one_more_at ns i) ≤ sum ns + 1
sum_more [] i = omega arith
sum_more (n ∷ ns) zero = omega (
  arith,
  sum_by-cons (λ m. m) n ns,
  sum_by-cons (λ m. m) (n + 1) ns,
)
sum_more (n ∷ ns) (suc i) = omega (
  arith,
  sum_more ns i,
  sum_by-cons (λ m. m) n ns,
  sum_by-cons (λ m. m) n (one_more_at ns i),
)

-- some copybacks more: as many ends at most
pub record IsMore (n : ℕ) (c d : CopiesValue) : Type 0 where
  pub above_long : length d.above ≡ length c.above
  pub up_to_long : length d.up_to ≡ length c.up_to
  pub above_few : sum d.above ≤ sum c.above + n
  pub up_to_few : sum d.up_to ≤ sum c.up_to + n

pub none_more : (n : ℕ) (c : CopiesValue) → IsMore n c c
none_more n c = record {
  above_long = refl;
  up_to_long = refl;
  above_few = omega arith;
  up_to_few = omega arith;
}

one_if : (b : Bool) (c d : CopiesValue) → IsMore 1 c d → IsMore 1 c (cond b d c)
one_if true c d more = more
one_if false c d more = record {
  above_long = refl;
  up_to_long = refl;
  above_few = omega arith;
  up_to_few = omega arith;
}

pub one_copy : (above up_to : ℕ) (c : CopiesValue) → IsMore 1 c (with_copy above up_to c)
one_copy above up_to c = one_if (ltb above up_to) c _ (record {
  above_long = length-set c.above above _;
  up_to_long = length-set c.up_to up_to _;
  above_few = sum_more c.above above;
  up_to_few = sum_more c.up_to up_to;
})

pub copies_more : (up_to : ℕ → ℕ) (index : ℕ) (cleans : List ℕ) (c : CopiesValue) →
    IsMore (length cleans) c (with_copies_of up_to index cleans c)
unfolding with_copies_of
copies_more up_to index [] c = none_more 0 c
copies_more up_to index (clean ∷ cleans) c =
    let rest = copies_more up_to (index + 1) cleans c in
    let one = one_copy clean (up_to index) (with_copies_of up_to (index + 1) cleans c) in
    record {
      above_long = one.above_long ∙ rest.above_long;
      up_to_long = one.up_to_long ∙ rest.up_to_long;
      above_few = omega (arith, one.above_few, rest.above_few);
      up_to_few = omega (arith, one.up_to_few, rest.up_to_few);
    }

-- the last blocks of a list, and one before them
pub none_left : (up_to : ℕ → ℕ) (index : ℕ) (c : CopiesValue) → with_copies_of up_to index [] c ≡ c
unfolding with_copies_of
none_left up_to index c = refl

pub one_before : (up_to : ℕ → ℕ) (index : ℕ) (cleans : List ℕ) (c : CopiesValue) →
    index < length cleans →
    with_copies_of up_to index (drop index cleans) c
    ≡ with_copy (get_or cleans index 0) (up_to index)
    (with_copies_of up_to (index + 1) (drop (index + 1) cleans) c)
unfolding with_copies_of
one_before up_to index cleans c lt =
    ap (λ l. with_copies_of up_to index l c) (drop-cons cleans index 0 lt)
    ∙ ap (λ j. with_copy (get_or cleans index 0) (up_to index)
    (with_copies_of up_to (index + 1) (drop j cleans) c)) (sym (add-one index))

-- and of a list that stands behind others
pub one_behind : (up_to : ℕ → ℕ) (held index : ℕ) (cleans : List ℕ) (c : CopiesValue) →
    index < length cleans →
    with_copies_of up_to (held + index) (drop index cleans) c
    ≡ with_copy (get_or cleans index 0) (up_to (held + index))
    (with_copies_of up_to (held + (index + 1)) (drop (index + 1) cleans) c)
unfolding with_copies_of
one_behind up_to held index cleans c lt =
    ap (λ l. with_copies_of up_to (held + index) l c) (drop-cons cleans index 0 lt)
    ∙ ap (λ i. with_copy (get_or cleans index 0) (up_to (held + index))
    (with_copies_of up_to i (drop (suc index) cleans) c)) (omega arith)
    ∙ ap (λ j. with_copy (get_or cleans index 0) (up_to (held + index))
    (with_copies_of up_to (held + (index + 1)) (drop j cleans) c)) (sym (add-one index))

-- a list in two parts
pub copies_append : (up_to : ℕ → ℕ) (index : ℕ) (xs ys : List ℕ) (c : CopiesValue) →
    with_copies_of up_to index (xs ++ ys) c
    ≡ with_copies_of up_to index xs (with_copies_of up_to (index + length xs) ys c)
unfolding with_copies_of
copies_append up_to index [] ys c = ap (λ i. with_copies_of up_to i ys c) (omega arith)
copies_append up_to index (x ∷ xs) ys c =
    let next : index + 1 + length xs ≡ index + length (x ∷ xs) = omega arith in
    ap (with_copy x (up_to index)) (copies_append up_to (index + 1) xs ys c
    ∙ ap (λ i. with_copies_of up_to (index + 1) xs (with_copies_of up_to i ys c)) next)

-- up to no more ways than the depth
pub up_to_within : (e : Emptying) (depth index : ℕ) → index ≤ depth → up_to_of e depth index ≤ depth
up_to_within Flush depth index le = omega arith
up_to_within End depth index le = le

-- in any order
swap_more : (ns : List ℕ) (i j : ℕ) → one_more_at (one_more_at ns i) j ≡ one_more_at
    (one_more_at ns j) i
swap_more [] i j = refl
swap_more (n ∷ ns) zero zero = refl
swap_more (n ∷ ns) zero (suc j) = refl
swap_more (n ∷ ns) (suc i) zero = refl
swap_more (n ∷ ns) (suc i) (suc j) = ap (λ l. n ∷ l) (swap_more ns i j)

swap_if : (b b' : Bool) (a u a' u' : ℕ) (c : CopiesValue) →
    let put : Bool → ℕ → ℕ → CopiesValue → CopiesValue = λ b a u c. cond b (record {
      above = one_more_at c.above a;
      up_to = one_more_at c.up_to u;
    }) c in
    put b a u (put b' a' u' c) ≡ put b' a' u' (put b a u c)
swap_if true true a u a' u' c =
    ap (λ l. record { above = l; up_to = one_more_at (one_more_at c.up_to u') u })
    (swap_more c.above a' a)
    ∙ ap (λ l. record { above = one_more_at (one_more_at c.above a) a'; up_to = l })
    (swap_more c.up_to u' u)
swap_if true false a u a' u' c = refl
swap_if false true a u a' u' c = refl
swap_if false false a u a' u' c = refl

copy_copy : (a u a' u' : ℕ) (c : CopiesValue) →
    with_copy a u (with_copy a' u' c) ≡ with_copy a' u' (with_copy a u c)
copy_copy a u a' u' c = swap_if (ltb a u) (ltb a' u') a u a' u' c

copy_copies : (up_to : ℕ → ℕ) (index : ℕ) (cleans : List ℕ) (a u : ℕ) (c : CopiesValue) →
    with_copies_of up_to index cleans (with_copy a u c)
    ≡ with_copy a u (with_copies_of up_to index cleans c)
unfolding with_copies_of
copy_copies up_to index [] a u c = refl
copy_copies up_to index (clean ∷ cleans) a u c =
    ap (with_copy clean (up_to index)) (copy_copies up_to (index + 1) cleans a u c)
    ∙ copy_copy clean (up_to index) a u (with_copies_of up_to (index + 1) cleans c)

copies_copies : (up_to : ℕ → ℕ) (i j : ℕ) (xs ys : List ℕ) (c : CopiesValue) →
    with_copies_of up_to i xs (with_copies_of up_to j ys c)
    ≡ with_copies_of up_to j ys (with_copies_of up_to i xs c)
unfolding with_copies_of
copies_copies up_to i j [] ys c = refl
copies_copies up_to i j (x ∷ xs) ys c =
    ap (with_copy x (up_to i)) (copies_copies up_to (i + 1) j xs ys c)
    ∙ sym (copy_copies up_to j ys x (up_to i) (with_copies_of up_to (i + 1) xs c))

-- one list of many is emptied before the others
pub emptied_first : (up_to : ℕ → ℕ) (lists : List (List ℕ)) (k : ℕ) (c : CopiesValue) →
    with_all_copies up_to (set lists k []) (with_copies_of up_to 0 (get_or lists k []) c)
    ≡ with_all_copies up_to lists c
unfolding with_copies_of
emptied_first up_to [] k c = refl
emptied_first up_to (l ∷ lists) zero c = refl
emptied_first up_to (l ∷ lists) (suc k) c =
    ap (with_all_copies up_to (set lists k []))
    (copies_copies up_to 0 0 l (get_or lists k []) c)
    ∙ emptied_first up_to lists k (with_copies_of up_to 0 l c)

pub none_listed : (up_to : ℕ → ℕ) (lists : List (List ℕ)) (c : CopiesValue) →
    ((k : ℕ) → get_or lists k [] ≡ []) → with_all_copies up_to lists c ≡ c
unfolding with_copies_of
none_listed up_to [] c none = refl
none_listed up_to (l ∷ lists) c none =
    ap (λ xs. with_all_copies up_to lists (with_copies_of up_to 0 xs c)) (none 0)
    ∙ none_listed up_to lists c (λ k. none (suc k))

pub all_more : (up_to : ℕ → ℕ) (lists : List (List ℕ)) (c : CopiesValue) →
    IsMore (sum_by length lists) c (with_all_copies up_to lists c)
all_more up_to [] c = none_more 0 c
all_more up_to (l ∷ lists) c =
    let one = copies_more up_to 0 l c in
    let rest = all_more up_to lists (with_copies_of up_to 0 l c) in
    let both = sum_by-cons length l lists in
    record {
      above_long = rest.above_long ∙ one.above_long;
      up_to_long = rest.up_to_long ∙ one.up_to_long;
      above_few = omega (arith, one.above_few, rest.above_few, both);
      up_to_few = omega (arith, one.up_to_few, rest.up_to_few, both);
    }
