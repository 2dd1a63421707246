-- The invariant of the order of slots, where a set has another order.
use Rattle.std.proofs.Common.{◌≡◌, ℕ, zero, suc, ◌+◌, ◌*◌, ◌^◌, ◌<◌, ◌≤◌, List, [], ◌∷◌}
use Rattle.std.proofs.Common.{length, map}
use Rattle.std.proofs.Common.{set, get_or, replicate, refl, sym, ◌∙◌, ap, subst, arith, length-set}
use Rattle.std.specs.Prelude.{All}
use Rattle.std.proofs.lemmas.List.Elements.{All-set, All-get_or, All-nil, All-cons}
use Rattle.std.proofs.lemmas.List.{length-map}
use Rattle.std.proofs.Math.Nat.{mul_comm}
use Rattle.block_index.specs.SlotLists.{SlotListsValue}
use Rattle.cache_core.specs.declared.design.Repl.{Repl}
use Rattle.cache_core.specs.declared.design.Repl.TheVariants.{Lru, Fifo, Random}
use Rattle.cache_core.specs.internal.cache.SlotOrder.{IsKept, orders, order_of, in_ways}
use Rattle.cache_core.proofs.cache.indexed.WaysLaw.{counted, counts_set, count_kept, ways_counts}

-- lists, with another one
abbrev pub with_list : SlotListsValue → ℕ → List ℕ → SlotListsValue
with_list lists k xs = record lists { lists = set lists.lists k xs }

module _ (ways : ℕ) (filled : List ℕ) (lists : SlotListsValue) (k : ℕ) where
  moved_counts : (xs : List ℕ) → map (λ order. length order) lists.lists ≡ filled →
      length xs ≡ length (order_of lists.lists k) →
      map (λ order. length order) (set lists.lists k xs) ≡ filled
  moved_counts xs counts long = counts_set lists.lists k xs
      ∙ count_kept (map (λ order. length order) lists.lists) k (length xs)
      (sym (counted lists.lists (map (λ order. length order) lists.lists) k refl) ∙ sym long)
      ∙ counts

  -- as many slots of a set are filled
  pub kept_moved : (p : Repl) (xs : List ℕ) → IsKept p ways filled lists →
      length xs ≡ length (order_of lists.lists k) → IsKept p ways filled (with_list lists k xs)
  kept_moved Lru xs i long = record {
    few = i.few;
    within = i.within;
    counts = moved_counts xs i.counts long;
    nodes = i.nodes;
  }
  kept_moved Fifo xs i long = record {
    few = i.few;
    within = i.within;
    counts = moved_counts xs i.counts long;
    nodes = i.nodes;
  }
  kept_moved Random xs i long = record {
    few = i.few;
    within = i.within;
    counts = i.counts;
    nodes = i.nodes;
  }

  few_kept : (n : ℕ) → ways * length filled ≤ 2 ^ 22 → ways * length (set filled k n) ≤ 2 ^ 22
  few_kept n few = subst (λ (m : ℕ). ways * m ≤ 2 ^ 22) (sym (length-set filled k n)) few

  other_counts : (xs : List ℕ) (n : ℕ) → map (λ order. length order) lists.lists ≡ filled →
      length xs ≡ n → map (λ order. length order) (set lists.lists k xs) ≡ set filled k n
  other_counts xs n counts long = counts_set lists.lists k xs
      ∙ ap (λ m. set (map (λ order. length order) lists.lists) k m) long
      ∙ ap (λ ys. set ys k n) counts

  -- another number of slots of a set is filled
  pub kept_count : (p : Repl) (xs : List ℕ) (n : ℕ) → IsKept p ways filled lists → n ≤ ways →
      length xs ≡ n → IsKept p ways (set filled k n) (with_list lists k xs)
  kept_count Lru xs n i le long = record {
    few = few_kept n i.few;
    within = All-set (λ count. count ≤ ways) filled k n le i.within;
    counts = other_counts xs n i.counts long;
    nodes = i.nodes ∙ ap (λ m. ways * m) (sym (length-set filled k n));
  }
  kept_count Fifo xs n i le long = record {
    few = few_kept n i.few;
    within = All-set (λ count. count ≤ ways) filled k n le i.within;
    counts = other_counts xs n i.counts long;
    nodes = i.nodes ∙ ap (λ m. ways * m) (sym (length-set filled k n));
  }
  kept_count Random xs n i le long = record {
    few = few_kept n i.few;
    within = All-set (λ count. count ≤ ways) filled k n le i.within;
    counts = ways_counts ways 0 (set filled k n);
    nodes = i.nodes;
  }

  pub kept_ways : (n : ℕ) → IsKept Random ways filled lists → n ≤ ways →
      IsKept Random ways (set filled k n) lists
  kept_ways n i le = record {
    few = few_kept n i.few;
    within = All-set (λ count. count ≤ ways) filled k n le i.within;
    counts = ways_counts ways 0 (set filled k n);
    nodes = i.nodes;
  }

  -- how many slots of a set are filled
  pub kept_long : (p : Repl) → IsKept p ways filled lists →
      length (order_of (orders p ways filled lists) k) ≡ get_or filled k 0
  kept_long p i = counted (orders p ways filled lists) filled k i.counts

  pub kept_within : (p : Repl) → IsKept p ways filled lists → k < length filled →
      get_or filled k 0 ≤ ways
  kept_within p i lt = All-get_or (λ count. count ≤ ways) filled k 0 lt i.within

-- there are as many sets as counts
pub kept_sets : (p : Repl) (ways : ℕ) (filled : List ℕ) (lists : SlotListsValue) →
    IsKept p ways filled lists → length (orders p ways filled lists) ≡ length filled
kept_sets p ways filled lists i =
    sym (length-map (orders p ways filled lists) (λ order. length order)) ∙ ap length i.counts

-- at first no slot is filled
zero_counts : (n : ℕ) →
    map (λ (order : List ℕ). length order) (replicate n []) ≡ replicate n 0
zero_counts zero = refl
zero_counts (suc n) = ap (λ xs. 0 ∷ xs) (zero_counts n)

zero_within : (ways n : ℕ) → All (λ count. count ≤ ways) (replicate n 0)
zero_within ways zero = All-nil (λ count. count ≤ ways)
zero_within ways (suc n) =
    All-cons (λ count. count ≤ ways) 0 (replicate n 0) (omega arith) (zero_within ways n)

pub zero_ways : (ways start n : ℕ) → in_ways ways start (replicate n 0) ≡ replicate n []
zero_ways ways start zero = refl
zero_ways ways start (suc n) = ap (λ xs. [] ∷ xs) (zero_ways ways (start + ways) n)

length_zero : (n : ℕ) → length (replicate {A = ℕ} n 0) ≡ n
length_zero zero = refl
length_zero (suc n) = ap suc (length_zero n)

pub new_sets : (p : Repl) (ways n slots : ℕ) →
    orders p ways (replicate n 0) (record { slots = slots; lists = replicate n [] })
    ≡ replicate n []
new_sets Lru ways n slots = refl
new_sets Fifo ways n slots = refl
new_sets Random ways n slots = zero_ways ways 0 n

pub new_kept : (p : Repl) (ways n : ℕ) → ways * n ≤ 2 ^ 22 →
    IsKept p ways (replicate n 0) (record { slots = n * ways; lists = replicate n [] })
new_kept Lru ways n few = record {
  few = subst (λ (m : ℕ). ways * m ≤ 2 ^ 22) (sym (length_zero n)) few;
  within = zero_within ways n;
  counts = zero_counts n;
  nodes = mul_comm n ways ∙ ap (λ m. ways * m) (sym (length_zero n));
}
new_kept Fifo ways n few = record {
  few = subst (λ (m : ℕ). ways * m ≤ 2 ^ 22) (sym (length_zero n)) few;
  within = zero_within ways n;
  counts = zero_counts n;
  nodes = mul_comm n ways ∙ ap (λ m. ways * m) (sym (length_zero n));
}
new_kept Random ways n few = record {
  few = subst (λ (m : ℕ). ways * m ≤ 2 ^ 22) (sym (length_zero n)) few;
  within = zero_within ways n;
  counts = ways_counts ways 0 (replicate n 0);
  nodes = tt;
}

pub random_kept : (ways n : ℕ) (lists : SlotListsValue) → ways * n ≤ 2 ^ 22 →
    IsKept Random ways (replicate n 0) lists
random_kept ways n lists few = record {
  few = subst (λ (m : ℕ). ways * m ≤ 2 ^ 22) (sym (length_zero n)) few;
  within = zero_within ways n;
  counts = ways_counts ways 0 (replicate n 0);
  nodes = tt;
}
