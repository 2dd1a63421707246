-- What a list of touched sets says of the counts, kept as the counts change.
use Rattle.std.proofs.Common.{◌≡◌, ◌<◌, ◌+◌, ◌++◌, ◌||◌, false, cond, eqb, ltb, ℕ, zero, suc, List}
use Rattle.std.proofs.Common.{[], ◌∷◌, Option, Some, None, length, get_or, set, replicate, drop}
use Rattle.std.proofs.Common.{refl, sym, subst, ap, ◌∙◌, arith, ⊎_elim, length-set, add-one}
use Rattle.std.proofs.Common.{drop-cons, get_or-set_same, get_or-set_other}
use Rattle.std.specs.Prelude.{All, IfSome}
use Rattle.std.specs.List.{list_any}
use Rattle.std.proofs.lemmas.Bool.{cases_eq, ne_eqb}
use Rattle.std.proofs.lemmas.List.Elements.{All-nil, All-cons, All-tail, All-append}
use Rattle.std.proofs.lemmas.List.Folds.{list_any-append}
use Rattle.cache_core.specs.Touched.{TouchedValue, Covers, ListsFilled, after_count, with_set}
use Rattle.cache_core.proofs.Lists.{cases}

all_zero : (counts : List ℕ) → ((k : ℕ) → get_or counts k 0 ≡ 0) →
    counts ≡ replicate (length counts) 0
all_zero [] h = refl
all_zero (count ∷ counts) h = ap (λ n. n ∷ counts) (h 0) ∙
    ap (λ ns. 0 ∷ ns) (all_zero counts (λ k. h (suc k)))

-- where no set is left, no count is
pub no_count : (counts : List ℕ) → ListsFilled [] counts → counts ≡ replicate (length counts) 0
no_count counts l = all_zero counts (λ k. l.others k refl)

zero_at : (n k : ℕ) → get_or {A = ℕ} (replicate n 0) k 0 ≡ 0
zero_at zero k = refl
zero_at (suc n) zero = refl
zero_at (suc n) (suc k) = zero_at n k

-- a list of no set stands for counts that are all 0
pub covers_none : (touched : TouchedValue) (capacity n : ℕ) (counts : List ℕ) →
    touched ≡ record { capacity = capacity; sets = Some [] } →
    counts ≡ replicate n 0 → Covers touched counts
covers_none touched capacity n counts is none = rw (is, none) record {
  within =
      All-nil (λ k. k < length (replicate n 0));
  others = λ k _. zero_at n k;
}

-- a count changes, and is 0 then if its set is not listed
changed : (sets counts : List ℕ) (k n : ℕ) → k < length counts → ListsFilled sets counts →
    (list_any (λ other. eqb other k) sets ≡ false → n ≡ 0) → ListsFilled sets (set counts k n)
changed sets counts k n lt l h = record {
  within = subst (λ (m : ℕ). All (λ j. j < m) sets) (sym (length-set counts k n)) l.within;
  others = λ j unlisted.
      ⊎_elim
      (λ (e : j ≡ k). ap (λ i. get_or (set counts k n) i 0) e ∙ get_or-set_same counts k n 0 lt
      ∙ h (subst (λ (i : ℕ). list_any (λ other. eqb other i) sets ≡ false) e unlisted))
      (λ (ne : j ≡ k → ⊥). get_or-set_other counts k j n 0 ne ∙ l.others j unlisted)
      (cases_eq j k);
}

-- the first set of a list has its count set to 0
pub emptied : (k : ℕ) (sets counts : List ℕ) → ListsFilled (k ∷ sets) counts →
    ListsFilled sets (set counts k 0)
emptied k sets counts l =
    let lt : k < length counts = l.within 0 0 (omega arith) in
    record {
      within = subst (λ (m : ℕ). All (λ j. j < m) sets) (sym (length-set counts k 0))
          (All-tail (λ j. j < length counts) k sets l.within);
      others = λ j unlisted.
          ⊎_elim
          (λ (e : j ≡ k). ap (λ i. get_or (set counts k 0) i 0) e ∙ get_or-set_same counts k 0 0 lt)
          (λ (ne : j ≡ k → ⊥). get_or-set_other counts k j 0 0 ne
          ∙ l.others j (ap (λ b. b || list_any (λ other. eqb other j) sets)
          (ne_eqb k j (λ e. ne (sym e))) ∙ unlisted))
          (cases_eq j k);
    }

-- what is left of a list begins with a set that has a count
pub next_listed : (sets counts : List ℕ) (i : ℕ) → i < length sets →
    ListsFilled (drop i sets) counts →
    ListsFilled (get_or sets i 0 ∷ drop (i + 1) sets) counts
next_listed sets counts i lt l = subst (λ xs. ListsFilled xs counts) (drop-cons sets i 0 lt ∙
    ap (λ n. get_or sets i 0 ∷ drop n sets) (sym (add-one i))) l

-- a list with one set more
longer : (sets counts : List ℕ) (k : ℕ) → k < length counts → ListsFilled sets counts →
    ListsFilled (sets ++ k ∷ []) counts
longer sets counts k lt l = record {
  within = All-append (λ j. j < length counts) sets (k ∷ []) l.within
      (All-cons (λ j. j < length counts) k [] lt (All-nil (λ j. j < length counts)));
  others = λ j unlisted.
      l.others j (grind (arith, list_any-append (λ other. eqb other j) sets (k ∷ []), unlisted));
}

last_listed : (sets : List ℕ) (k n : ℕ) → list_any (λ other. eqb other k) (sets ++ k ∷ []) ≡ false →
    n ≡ 0
last_listed sets k n unlisted = grind (arith, list_any-append (λ other. eqb other k) sets (k ∷ []))

covers_joined : (capacity k n : ℕ) (listed : Option (List ℕ)) (counts : List ℕ) →
    k < length counts →
    IfSome listed (λ sets. ListsFilled sets counts) → IfSome (with_set capacity k listed)
    (λ sets. ListsFilled sets (set counts k n))
covers_joined capacity k n None counts lt l = tt
covers_joined capacity k n (Some sets) counts lt l =
    cases (λ b. IfSome (cond b (Some (sets ++ k ∷ [])) None)
    (λ xs. ListsFilled xs (set counts k n))) (ltb (length sets) capacity)
    (λ _. changed (sets ++ k ∷ []) counts k n lt (longer sets counts k lt l) (last_listed sets k n))
    (λ _. tt)

covers_kept : (k n : ℕ) (listed : Option (List ℕ)) (counts : List ℕ) → k < length counts →
    (get_or counts k 0 ≡ 0 → n ≡ 0) →
    IfSome listed (λ sets. ListsFilled sets counts) →
    IfSome listed (λ sets. ListsFilled sets (set counts k n))
covers_kept k n None counts lt h l = tt
covers_kept k n (Some sets) counts lt h l =
    changed sets counts k n lt l (λ unlisted. h (l.others k unlisted))

-- the count of a set changes
pub covers_change : (touched : TouchedValue) (counts : List ℕ) (k before after : ℕ) →
    k < length counts → before ≡ get_or counts k 0 →
    Covers touched counts → Covers (after_count k before after touched) (set counts k after)
covers_change touched counts k before after lt is l = grind (arith, covers_joined, covers_kept)
