-- A copyback begins at fewer ways than it ends, so up to each number of ways as many begin as end,
-- or more.
use Rattle.std.proofs.Common.{◌≡◌, ℕ, zero, suc, ◌+◌, ◌<◌, ◌≤◌, Bool, true, false, cond, ltb}
use Rattle.std.proofs.Common.{List, [], ◌∷◌, length, take, get_or, sum, refl, ◌∙◌, ap}
use Rattle.std.proofs.Common.{arith, length-set, inl, inr}
use Rattle.std.proofs.lemmas.Bool.{ltb-true, cases_lt}
use Rattle.std.proofs.lemmas.List.{length-replicate, take_all}
use Rattle.std.proofs.lemmas.List.Sums.{sum_by-cons}
use Rattle.profile_core.specs.profile.State.{one_more_at}
use Rattle.full_profile.specs.declared.copies.Emptying.{Emptying}
use Rattle.full_profile.specs.internal.Copies.{CopiesValue, with_copy, with_copies_of}
use Rattle.full_profile.specs.internal.Copies.{with_all_copies, up_to_of, no_copies}
use Rattle.full_profile.proofs.copies.Adding.{up_to_within}

take_more : (ns : List ℕ) (i ways : ℕ) → sum (take ways (one_more_at ns i)) ≤ sum (take ways ns) + 1
take_more [] i zero = omega arith
take_more [] i (suc ways) = omega arith
take_more (n ∷ ns) i zero = omega arith
take_more (n ∷ ns) zero (suc ways) = omega (
  arith,
  sum_by-cons (λ m. m) n (take ways ns),
  sum_by-cons (λ m. m) (n + 1) (take ways ns),
)
take_more (n ∷ ns) (suc i) (suc ways) = omega (
  arith,
  take_more ns i ways,
  sum_by-cons (λ m. m) n (take ways ns),
  sum_by-cons (λ m. m) n (take ways (one_more_at ns i)),
)

-- where the index is among them
take_one : (ns : List ℕ) (i ways : ℕ) → i < length ns → i < ways →
    sum (take ways (one_more_at ns i)) ≡ sum (take ways ns) + 1
take_one [] i ways lt within = absurd (omega arith)
take_one (n ∷ ns) i zero lt within = absurd (omega arith)
take_one (n ∷ ns) zero (suc ways) lt within = omega (
  arith,
  sum_by-cons (λ m. m) n (take ways ns),
  sum_by-cons (λ m. m) (n + 1) (take ways ns),
)
take_one (n ∷ ns) (suc i) (suc ways) lt within = omega (
  arith,
  take_one ns i ways (omega arith) (omega arith),
  sum_by-cons (λ m. m) n (take ways ns),
  sum_by-cons (λ m. m) n (take ways (one_more_at ns i)),
)

-- where it is not
take_same : (ns : List ℕ) (i ways : ℕ) → ways ≤ i →
    sum (take ways (one_more_at ns i)) ≡ sum (take ways ns)
take_same [] i ways le = refl
take_same (n ∷ ns) i zero le = refl
take_same (n ∷ ns) zero (suc ways) le = absurd (omega arith)
take_same (n ∷ ns) (suc i) (suc ways) le = omega (
  arith,
  take_same ns i ways (omega arith),
  sum_by-cons (λ m. m) n (take ways ns),
  sum_by-cons (λ m. m) n (take ways (one_more_at ns i)),
)

none_less : (ns : List ℕ) (i ways : ℕ) → sum (take ways ns) ≤ sum (take ways (one_more_at ns i))
none_less [] i ways = omega arith
none_less (n ∷ ns) i zero = omega arith
none_less (n ∷ ns) zero (suc ways) = omega (
  arith,
  sum_by-cons (λ m. m) n (take ways ns),
  sum_by-cons (λ m. m) (n + 1) (take ways ns),
)
none_less (n ∷ ns) (suc i) (suc ways) = omega (
  arith,
  none_less ns i ways,
  sum_by-cons (λ m. m) n (take ways ns),
  sum_by-cons (λ m. m) n (take ways (one_more_at ns i)),
)

-- the copybacks of caches of up to so many ways
pub record AreOrdered (depth : ℕ) (c : CopiesValue) : Type 0 where
  pub above_long : length c.above ≡ depth + 1
  pub up_to_long : length c.up_to ≡ depth + 1
  pub in_order : (ways : ℕ) → sum (take ways c.up_to) ≤ sum (take ways c.above)

module _ {depth : ℕ} {c : CopiesValue} (o : AreOrdered depth c) where
  -- as many end as begin, or fewer
  pub ends_few : sum c.up_to ≤ sum c.above
  ends_few = omega (
    arith,
    o.in_order (depth + 1),
    ap sum (take_all (depth + 1) c.up_to (omega (arith, o.up_to_long))),
    ap sum (take_all (depth + 1) c.above (omega (arith, o.above_long))),
  )

  one_in : (above up_to : ℕ) → up_to ≤ depth → above < up_to → AreOrdered depth (record {
    above = one_more_at c.above above;
    up_to = one_more_at c.up_to up_to;
  })
  one_in above up_to le lt = record {
    above_long = length-set c.above above _ ∙ o.above_long;
    up_to_long = length-set c.up_to up_to _ ∙ o.up_to_long;
    in_order = λ ways. elim (cases_lt above ways) [
      | inl within ↦ omega (
        arith,
        take_one c.above above ways (omega (arith, o.above_long, le, lt)) within,
        take_more c.up_to up_to ways,
        o.in_order ways,
      )
      | inr past ↦ omega (
        arith,
        take_same c.up_to up_to ways (omega (arith, past, lt)),
        none_less c.above above ways,
        o.in_order ways,
      )
    ];
  }

  ordered_if : (above up_to : ℕ) → up_to ≤ depth → (b : Bool) → ltb above up_to ≡ b →
      AreOrdered depth (cond b (record {
        above = one_more_at c.above above;
        up_to = one_more_at c.up_to up_to;
      }) c)
  ordered_if above up_to le true lt = one_in above up_to le (ltb-true above up_to lt)
  ordered_if above up_to le false ge = o

  pub copy_ordered : (above up_to : ℕ) → up_to ≤ depth → AreOrdered depth (with_copy above up_to c)
  copy_ordered above up_to le = ordered_if above up_to le (ltb above up_to) refl

pub copies_ordered : (depth : ℕ) (up_to : ℕ → ℕ) → ((i : ℕ) → i ≤ depth → up_to i ≤ depth) →
    (index : ℕ) (cleans : List ℕ) (c : CopiesValue) → index + length cleans ≤ depth + 1 →
    AreOrdered depth c → AreOrdered depth (with_copies_of up_to index cleans c)
unfolding with_copies_of
copies_ordered depth up_to within index [] c short o = o
copies_ordered depth up_to within index (clean ∷ cleans) c short o =
    copy_ordered
    (copies_ordered depth up_to within (index + 1) cleans c (omega (arith, short)) o)
    clean (up_to index) (within index (omega (arith, short)))

pub all_ordered : (depth : ℕ) (up_to : ℕ → ℕ) → ((i : ℕ) → i ≤ depth → up_to i ≤ depth) →
    (lists : List (List ℕ)) (c : CopiesValue) →
    ((k : ℕ) → length (get_or lists k []) ≤ depth) →
    AreOrdered depth c → AreOrdered depth (with_all_copies up_to lists c)
all_ordered depth up_to within [] c short o = o
all_ordered depth up_to within (l ∷ lists) c short o =
    let first : length l ≤ depth = short 0 in
    all_ordered depth up_to within lists (with_copies_of up_to 0 l c) (λ k. short (suc k))
    (copies_ordered depth up_to within 0 l c (omega (arith, first)) o)

pub emptying_ordered : (e : Emptying) (depth : ℕ) (lists : List (List ℕ)) (c : CopiesValue) →
    ((k : ℕ) → length (get_or lists k []) ≤ depth) →
    AreOrdered depth c → AreOrdered depth (with_all_copies (up_to_of e depth) lists c)
emptying_ordered e depth lists c short o =
    all_ordered depth (up_to_of e depth) (up_to_within e depth) lists c short o

pub none_ordered : (depth : ℕ) → AreOrdered depth (no_copies depth)
none_ordered depth = record {
  above_long = length-replicate (depth + 1) 0;
  up_to_long = length-replicate (depth + 1) 0;
  in_order = λ ways. omega arith;
}
