-- Slots counted with repeats: lists with the same sums have the same slots, and what an edit of
-- lines does to sums.
use Rattle.std.proofs.Common.{◌≡◌, ℕ, ◌+◌, ◌≤◌, ◌&&◌, Bool, true, false, cond, eqb, List, [], ◌∷◌}
use Rattle.std.proofs.Common.{◌++◌, sym, ap, refl, subst, arith, map}
use Rattle.std.specs.Prelude.{sum_by, IsPermutation}
use Rattle.std.proofs.lemmas.Bool.{and_from, eq-eqb}
use Rattle.std.proofs.lemmas.List.{map-append}
use Rattle.std.proofs.lemmas.List.Sums.{sum_by-cons, sum_by-append}
use Rattle.std.proofs.lemmas.List.Sorted.{IsPermutation-refl, IsPermutation-sym, IsPermutation-cons}
use Rattle.std.proofs.lemmas.List.Sorted.{IsPermutation-trans, IsPermutation-middle}
use Rattle.cache_core.specs.declared.outcome.Slot.{Slot}
use Rattle.cache_core.specs.cache.Machine.{Line, slot_of}
use Rattle.cache_core.specs.replacement.Rules.{Place}
use Rattle.cache_core.proofs.Lists.{cases}
use Rattle.cache_core.proofs.cache.Lines.{around}

abbrev agree : Bool → Bool → Bool
agree true true = true
agree true false = false
agree false true = false
agree false false = true

agree_self : (a : Bool) → agree a a ≡ true
agree_self a = grind arith

abbrev same : Slot → Slot → Bool
same x y = eqb y.block x.block && agree y.dirty x.dirty

same_is : (x y : Slot) → same x y ≡ true → y ≡ x
same_is x y h = grind arith

same_self : (x : Slot) → same x x ≡ true
same_self x = and_from (eqb x.block x.block) (agree x.dirty x.dirty) (eq-eqb x.block x.block refl)
    (agree_self x.dirty)

-- counts the slots that are x
abbrev pub one_for : Slot → Slot → ℕ
one_for x y = cond (same x y) 1 0

pub one_self : (x : Slot) → one_for x x ≡ 1
one_self x = ap (λ b. cond b 1 0) (same_self x)

-- a slot that counts stands in the list
record Among (x : Slot) (ys : List Slot) : Type 0 where
  front : List Slot
  back : List Slot
  split : ys ≡ front ++ x ∷ back

among : (x : Slot) (ys : List Slot) → 1 ≤ sum_by (one_for x) ys → Among x ys
among x [] h = absurd (omega arith)
among x (y ∷ ys) h =
    cases (λ b. (same x y ≡ b) → (1 ≤ cond b 1 0 + sum_by (one_for x) ys) →
    Among x (y ∷ ys)) (same x y)
    (λ _ t _. record { front = []; back = ys; split = ap (λ z. z ∷ ys) (same_is x y t) })
    (λ _ t m. let r = among x ys (omega (arith, m)) in
    record { front = y ∷ r.front; back = r.back; split = ap (λ zs. y ∷ zs) r.split })
    refl (omega (arith, h, sum_by-cons (one_for x) y ys))

-- lists with the same sums have the same slots
pub by_sums : (xs ys : List Slot) → ((f : Slot → ℕ) → sum_by f xs ≡ sum_by f ys) →
    IsPermutation xs ys
by_sums [] [] h = IsPermutation-refl []
by_sums [] (y ∷ ys) h = absurd (omega (arith, h (λ z. 1), sum_by-cons (λ (z : Slot). 1) y ys))
by_sums (x ∷ xs) ys h =
    let here = among x ys (omega (
      arith,
      h (one_for x),
      sum_by-cons (one_for x) x xs,
      one_self x,
    )) in
    let rest : (f : Slot → ℕ) → sum_by f xs ≡ sum_by f (here.front ++ here.back) =
    λ f. omega (
      arith,
      h f,
      sum_by-cons f x xs,
      ap (sum_by f) here.split,
      sum_by-append f here.front (x ∷ here.back),
      sum_by-cons f x here.back,
      sum_by-append f here.front here.back,
    ) in
    subst (IsPermutation (x ∷ xs)) (sym here.split)
    (IsPermutation-trans (x ∷ xs) (x ∷ (here.front ++ here.back)) (here.front ++ x ∷ here.back)
    (IsPermutation-cons x xs (here.front ++ here.back) (by_sums xs (here.front ++ here.back) rest))
    (IsPermutation-sym (here.front ++ x ∷ here.back) (x ∷ (here.front ++ here.back))
    (IsPermutation-middle here.front x here.back)))

-- a sum over the slots of lines
abbrev pub line_sum : (Slot → ℕ) → List Line → ℕ
line_sum f ls = sum_by f (map slot_of ls)

pub sum_split : (f : Slot → ℕ) (xs : List Line) (x : Line) (ys : List Line) →
    line_sum f (xs ++ x ∷ ys) ≡ line_sum f (xs ++ ys) + f (slot_of x)
sum_split f xs x ys = grind (arith, map-append, sum_by-append, sum_by-cons)

-- the line whose slot counts
pub record LineAt (x : Slot) (ls : List Line) : Type 0 where
  pub front : List Line
  pub line : Line
  pub back : List Line
  pub split : ls ≡ front ++ line ∷ back
  pub slot : slot_of line ≡ x

pub line_for : (x : Slot) (ls : List Line) → 1 ≤ line_sum (one_for x) ls → LineAt x ls
line_for x [] h = absurd (omega arith)
line_for x (l ∷ ls) h =
    cases (λ b. (same x (slot_of l) ≡ b) → (1 ≤ cond b 1 0 + line_sum (one_for x) ls) →
    LineAt x (l ∷ ls)) (same x (slot_of l))
    (λ _ t _. record {
      front = [];
      line = l;
      back = ls;
      split = refl;
      slot =
          same_is x (slot_of l) t;
    })
    (λ _ t m. let r = line_for x ls (omega (arith, m)) in
    record {
      front = l ∷ r.front;
      line = r.line;
      back = r.back;
      split =
          ap (λ zs. l ∷ zs) r.split;
      slot = r.slot;
    })
    refl (omega (arith, h, sum_by-cons (one_for x) (slot_of l) (map slot_of ls)))

pub around_sum : (f : Slot → ℕ) (p : Place) (y : Line) (xs ys : List Line) →
    line_sum f (around p y xs ys) ≡ line_sum f (xs ++ ys) + f (slot_of y)
around_sum f p y xs ys = grind (arith, sum_by-cons, sum_split)
