-- Copybacks that wait to be counted: the caches of so many ways have evicted a block of a list that
-- they held dirty, since it stands at that index or behind it.
use Rattle.std.proofs.Common.{◌≡◌, ℕ, zero, suc, ◌+◌, ◌-◌, ◌<◌, ◌≤◌, ◌&&◌, Bool, true, false, not}
use Rattle.std.proofs.Common.{cond, eqb, ltb, leb, List, [], ◌∷◌, length, take, drop, get_or}
use Rattle.std.proofs.Common.{refl, sym, ◌∙◌, ap, arith, ⊎_elim}
use Rattle.std.specs.List.{remove, count_by, sum_by}
use Rattle.std.proofs.Math.ListN.{drop_of_length-le}
use Rattle.std.proofs.Math.Seq.{drop-cons}
use Rattle.std.proofs.lemmas.Bool.{ltb-true, ltb-false, eqb-true, eqb-false, cases_lt}
use Rattle.std.proofs.lemmas.Bool.Decides.{nat_tests}
use Rattle.std.proofs.lemmas.List.{take_all}
use Rattle.std.proofs.lemmas.List.Edits.{length-remove}
use Rattle.std.proofs.lemmas.List.Sums.{sum_by-cons, sum_by-remove}
use Rattle.deep_list.proofs.LiveItemLemmas.{remove-end}
use Rattle.cache_core.proofs.Lists.{cases, list_any_is}
use Rattle.profile_core.specs.profile.RecencyList.{index_of, is_in}
use Rattle.full_profile.proofs.laws.Copies.{one_within}
use Rattle.full_profile.proofs.laws.Copies.{evicted_within}

-- 1 if a block of this clean depth is dirty in the cache of so many ways
abbrev pub one_dirty : ℕ → ℕ → ℕ
one_dirty ways clean = cond (ltb clean ways) 1 0

-- how many blocks of these clean depths are
abbrev pub dirty_in : ℕ → List ℕ → ℕ
dirty_in ways cleans = count_by (λ clean. ltb clean ways) cleans

-- how many copybacks of a list wait
abbrev pub waiting : ℕ → List ℕ → ℕ
waiting ways cleans = dirty_in ways (drop ways cleans)

-- without a number at or behind an index
less_one : (f : ℕ → ℕ) (n d : ℕ) (cs : List ℕ) → n ≤ d → d < length cs →
    sum_by f (drop n (remove cs d)) + f (get_or cs d 0) ≡ sum_by f (drop n cs)
less_one f n d [] le lt = absurd (omega (arith, lt))
less_one f zero d (c ∷ cs) le lt = sum_by-remove f (c ∷ cs) d 0 lt
less_one f (suc n) zero (c ∷ cs) le lt = absurd (omega (arith, le))
less_one f (suc n) (suc d) (c ∷ cs) le lt =
    less_one f n d cs (omega (arith, le)) (omega (arith, lt))

-- without a number before an index
moved_up : (n d : ℕ) (cs : List ℕ) → d ≤ n → d < length cs → drop n (remove cs d) ≡ drop (suc n) cs
moved_up n d [] le lt = absurd (omega (arith, lt))
moved_up n zero (c ∷ cs) le lt = refl
moved_up zero (suc d) (c ∷ cs) le lt = absurd (omega (arith, le))
moved_up (suc n) (suc d) (c ∷ cs) le lt = moved_up n d cs (omega (arith, le)) (omega (arith, lt))

-- without the last one
less_last : (f : ℕ → ℕ) (n m : ℕ) (cs : List ℕ) → n ≤ m → length cs ≡ suc m →
    sum_by f (drop n (take m cs)) + f (get_or cs m 0) ≡ sum_by f (drop n cs)
less_last f n m [] le e = absurd (omega (arith, e))
less_last f zero zero (c ∷ []) le e = refl
less_last f zero zero (c ∷ (d ∷ cs)) le e = absurd (omega (arith, e))
less_last f zero (suc m) (c ∷ cs) le e =
    omega (
      arith,
      sum_by-cons f c (take m cs),
      sum_by-cons f c cs,
      less_last f zero m cs (omega arith) (omega (arith, e)),
    )
less_last f (suc n) zero (c ∷ cs) le e = absurd (omega (arith, le))
less_last f (suc n) (suc m) (c ∷ cs) le e =
    less_last f n m cs (omega (arith, le)) (omega (arith, e))

one_less : (f : ℕ → ℕ) (n : ℕ) (cs : List ℕ) → n < length cs →
    sum_by f (drop n cs) ≡ f (get_or cs n 0) + sum_by f (drop (suc n) cs)
one_less f n cs lt = ap (sum_by f) (drop-cons cs n 0 lt) ∙ sum_by-cons f _ (drop (suc n) cs)

none_left : (f : ℕ → ℕ) (n : ℕ) (cs : List ℕ) → length cs ≤ n → sum_by f (drop n cs) ≡ 0
none_left f n cs le = ap (sum_by f) (drop_of_length-le cs le)

-- a copyback of the cache of n + 1 ways at a reference to a block that is at index d of a list, or
-- not in it
abbrev pub copyback_of : ℕ → Bool → ℕ → List ℕ → ℕ
copyback_of n inside d cleans =
    cond (not (inside && ltb d (suc n)) && leb (suc n) (length cleans))
    (one_dirty (suc n) (get_or cleans n 0)) 0

found_near : (n depth d c : ℕ) (cs : List ℕ) → d < length cs → length cs ≤ depth → d ≤ n →
    one_within (get_or cs d 0) d (suc n) + waiting (suc n) (take depth (c ∷ remove cs d))
    ≡ waiting (suc n) cs + copyback_of n true d cs
found_near n depth d c cs lt short near =
    let whole : take depth (c ∷ remove cs d) ≡ c ∷ remove cs d =
    take_all depth (c ∷ remove cs d) (omega (arith, length-remove cs d lt, short)) in
    let moved : waiting (suc n) (take depth (c ∷ remove cs d)) ≡ waiting (suc n) cs =
    ap (waiting (suc n)) whole ∙ ap (dirty_in (suc n)) (moved_up n d cs near lt) in
    let none : one_within (get_or cs d 0) d (suc n) ≡ 0 = grind (arith, nat_tests) in
    let hit : copyback_of n true d cs ≡ 0 = grind (arith, nat_tests) in
    omega (arith, moved, none, hit)

found_far : (n depth d c : ℕ) (cs : List ℕ) → d < length cs → length cs ≤ depth → n < d →
    one_within (get_or cs d 0) d (suc n) + waiting (suc n) (take depth (c ∷ remove cs d))
    ≡ waiting (suc n) cs + copyback_of n true d cs
found_far n depth d c cs lt short far =
    let whole : take depth (c ∷ remove cs d) ≡ c ∷ remove cs d =
    take_all depth (c ∷ remove cs d) (omega (arith, length-remove cs d lt, short)) in
    let same : waiting (suc n) (take depth (c ∷ remove cs d)) ≡ dirty_in (suc n)
    (drop n (remove cs d)) = ap (waiting (suc n)) whole in
    let left = less_one (one_dirty (suc n)) n d cs (omega (arith, far)) lt in
    let first = one_less (one_dirty (suc n)) n cs (omega (arith, far, lt)) in
    let counted : one_within (get_or cs d 0) d (suc n) ≡ one_dirty (suc n) (get_or cs d 0) =
    grind (arith, nat_tests) in
    let missed : copyback_of n true d cs ≡ one_dirty (suc n) (get_or cs n 0) =
    grind (arith, nat_tests) in
    omega (arith, same, left, first, counted, missed)

missed_short : (n depth d c : ℕ) (cs : List ℕ) → length cs ≤ d → length cs < depth →
    0 + waiting (suc n) (take depth (c ∷ remove cs d))
    ≡ waiting (suc n) cs + copyback_of n false d cs
missed_short n depth d c cs out short =
    let whole : take depth (c ∷ remove cs d) ≡ c ∷ cs =
    ap (λ xs. take depth (c ∷ xs)) (remove-end cs d out) ∙ take_all depth (c ∷ cs)
    (omega (arith, short)) in
    let same : waiting (suc n) (take depth (c ∷ remove cs d)) ≡ dirty_in (suc n) (drop n cs) =
    ap (waiting (suc n)) whole in
    ⊎_elim
    (λ (lt : n < length cs).
    let first = one_less (one_dirty (suc n)) n cs lt in
    let missed : copyback_of n false d cs ≡ one_dirty (suc n) (get_or cs n 0) =
    grind (arith, nat_tests) in
    omega (arith, same, first, missed))
    (λ (le : length cs ≤ n).
    let none = none_left (one_dirty (suc n)) n cs le in
    let neither = none_left (one_dirty (suc n)) (suc n) cs (omega (arith, le)) in
    let free : copyback_of n false d cs ≡ 0 = grind (arith, nat_tests) in
    omega (arith, same, none, neither, free))
    (cases_lt n (length cs))

missed_full : (n m d c : ℕ) (cs : List ℕ) → length cs ≤ d → length cs ≡ suc m → n ≤ m →
    one_within (get_or cs m 0) (suc m) (suc n) + waiting (suc n) (take (suc m) (c ∷ remove cs d))
    ≡ waiting (suc n) cs + copyback_of n false d cs
missed_full n m d c cs out full le =
    let same : waiting (suc n) (take (suc m) (c ∷ remove cs d)) ≡ dirty_in (suc n)
    (drop n (take m cs)) =
    ap (λ xs. waiting (suc n) (take (suc m) (c ∷ xs))) (remove-end cs d out) in
    let left = less_last (one_dirty (suc n)) n m cs le full in
    let first = one_less (one_dirty (suc n)) n cs (omega (arith, full, le)) in
    let counted : one_within (get_or cs m 0) (suc m) (suc n) ≡ one_dirty (suc n) (get_or cs m 0) =
    grind (arith, nat_tests) in
    let missed : copyback_of n false d cs ≡ one_dirty (suc n) (get_or cs n 0) =
    grind (arith, nat_tests) in
    omega (arith, same, left, first, counted, missed)

missed_last : (n depth d c : ℕ) (cs : List ℕ) → length cs ≤ d → length cs ≡ depth → suc n ≤ depth →
    one_within (get_or cs (depth - 1) 0) depth (suc n) + waiting (suc n)
    (take depth (c ∷ remove cs d)) ≡ waiting (suc n) cs + copyback_of n false d cs
missed_last n zero d c cs out full le = absurd (omega (arith, le))
missed_last n (suc m) d c cs out full le =
    ap (λ i. one_within (get_or cs i 0) (suc m) (suc n) + waiting (suc n)
    (take (suc m) (c ∷ remove cs d))) {x = suc m - 1} {y = m} (omega arith)
    ∙ missed_full n m d c cs out full (omega (arith, le))

-- a reference counts the copybacks of its block that waited, and one more may wait
pub waiting_after : (n depth x c : ℕ) (blocks cs : List ℕ) → length cs ≡ length blocks →
    length blocks ≤ depth → suc n ≤ depth →
    evicted_within depth x blocks cs (suc n) + waiting (suc n)
    (take depth (c ∷ remove cs (index_of x blocks)))
    ≡ waiting (suc n) cs + copyback_of n (is_in x blocks) (index_of x blocks) cs
waiting_after n depth x c blocks cs alike short within =
    let d : ℕ = index_of x blocks in
    let new : List ℕ = take depth (c ∷ remove cs d) in
    let last : ℕ = one_within (get_or cs (depth - 1) 0) depth (suc n) in
    cases (λ b. is_in x blocks ≡ b →
    cond b (one_within (get_or cs d 0) d (suc n)) (cond (eqb (length blocks) depth) last 0)
    + waiting (suc n) new ≡ waiting (suc n) cs + copyback_of n b d cs)
    (is_in x blocks)
    (λ t is.
    let lt : d < length blocks = ltb-true d (length blocks) (sym (list_any_is (λ y. eqb y x) blocks)
    ∙ is) in
    ⊎_elim
    (λ (far : n < d). found_far n depth d c cs (omega (arith, lt, alike))
    (omega (arith, short, alike)) far)
    (λ (near : d ≤ n). found_near n depth d c cs (omega (arith, lt, alike))
    (omega (arith, short, alike)) near)
    (cases_lt n d))
    (λ f is.
    let out : length blocks ≤ d = ltb-false d (length blocks) (sym (list_any_is (λ y. eqb y x)
    blocks) ∙ is) in
    cases (λ b. eqb (length blocks) depth ≡ b →
    cond b last 0 + waiting (suc n) new ≡ waiting (suc n) cs + copyback_of n false d cs)
    (eqb (length blocks) depth)
    (λ t full. missed_last n depth d c cs (omega (arith, out, alike))
    (omega (arith, eqb-true _ _ full, alike)) within)
    (λ f free. missed_short n depth d c cs (omega (arith, out, alike))
    (omega (arith, short, alike, eqb-false _ _ free)))
    refl)
    refl
