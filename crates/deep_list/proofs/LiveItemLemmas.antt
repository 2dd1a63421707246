-- What the live slots have, after a change to the slots.
use Rattle.std.proofs.Common.{◌≡◌, ℕ, zero, suc, ◌+◌, ◌<◌, ◌≤◌, true, false}
use Rattle.std.proofs.Common.{eqb, List, [], ◌∷◌, ◌++◌, length, take, drop, get_or, set, sum}
use Rattle.std.proofs.Common.{refl, sym, ◌∙◌, ap, subst, arith, append-nil, eq-eqb}
use Rattle.std.specs.List.{remove}
use Rattle.std.proofs.lemmas.Bool.{ne_eqb, false≢true}
use Rattle.std.proofs.lemmas.List.{drop_all, get_or-drop}
use Rattle.std.proofs.lemmas.List.Sums.{sum_by-take-drop, sum_by_more}
use Rattle.deep_list.specs.Slots.{AreFlags, live_items}
use Rattle.deep_list.specs.Deep.{index_of_block, has_block, IsOnce}
use Rattle.deep_list.proofs.SlotLemmas.{sum-cons, flags_tail}

pub live_items-vacate : {A : Type 0} (items : List A) (live : List ℕ) (s : ℕ) →
    length items ≡ length live → AreFlags live → get_or live s 0 ≡ 1
    → live_items items (set live s 0) ≡ remove (live_items items live) (sum (take s live))
unfolding live_items
live_items-vacate [] [] s same flags at = absurd (omega (arith, at))
live_items-vacate [] (n ∷ live) s same flags at = absurd (omega (arith, same))
live_items-vacate (b ∷ items) [] s same flags at = absurd (omega (arith, same))
live_items-vacate (b ∷ items) (zero ∷ live) zero same flags at = absurd (omega (arith, at))
live_items-vacate (b ∷ items) (suc n ∷ live) zero same flags at = refl
live_items-vacate (b ∷ items) (zero ∷ live) (suc s) same flags at =
    let next : sum (take s live) ≡ sum (0 ∷ take s live) =
    omega (arith, sum-cons 0 (take s live)) in
    live_items-vacate items live s (omega (arith, same)) (flags_tail zero live flags) at ∙
    ap (remove (live_items items live)) next
live_items-vacate (b ∷ items) (suc n ∷ live) (suc s) same flags at =
    let next : suc (sum (take s live)) ≡ sum (suc n ∷ take s live) =
    omega (arith, sum-cons (suc n) (take s live), flags 0) in
    ap (λ xs. b ∷ xs) (live_items-vacate items live s (omega (arith, same))
    (flags_tail (suc n) live flags) at)
    ∙ ap (remove (b ∷ live_items items live)) next

pub live_items-fill : {A : Type 0} (items : List A) (live : List ℕ) (s : ℕ) (x : A) →
    length items ≡ length live → s < length live
    → ((k : ℕ) → k ≤ s → get_or live k 0 ≡ 0) →
    live_items (set items s x) (set live s 1) ≡ x ∷ live_items items live
unfolding live_items
live_items-fill items [] s x same lt dead = absurd (omega arith)
live_items-fill [] (n ∷ live) s x same lt dead = absurd (omega (arith, same))
live_items-fill (b ∷ items) (zero ∷ live) zero x same lt dead = refl
live_items-fill (b ∷ items) (suc n ∷ live) zero x same lt dead =
    absurd (omega (arith, dead 0 (omega arith)))
live_items-fill (b ∷ items) (zero ∷ live) (suc s) x same lt dead =
    live_items-fill items live s x (omega (arith, same)) (omega arith)
    (λ k le. dead (suc k) (omega arith))
live_items-fill (b ∷ items) (suc n ∷ live) (suc s) x same lt dead =
    absurd (omega (arith, dead 0 (omega arith)))

pub live_items-dead : {A : Type 0} (items : List A) (live : List ℕ) →
    ((k : ℕ) → get_or live k 0 ≡ 0) → live_items items live ≡ []
unfolding live_items
live_items-dead [] live dead = refl
live_items-dead (b ∷ items) [] dead = refl
live_items-dead (b ∷ items) (zero ∷ live) dead = live_items-dead items live (λ k. dead (suc k))
live_items-dead (b ∷ items) (suc n ∷ live) dead = absurd (omega (arith, dead 0))

pub length-live_items : {A : Type 0} (items : List A) (live : List ℕ) →
    length items ≡ length live → AreFlags live → length (live_items items live) ≡ sum live
unfolding live_items
length-live_items [] [] same flags = refl
length-live_items [] (n ∷ live) same flags = absurd (omega (arith, same))
length-live_items (b ∷ items) [] same flags = absurd (omega (arith, same))
length-live_items (b ∷ items) (zero ∷ live) same flags =
    omega (
      arith,
      sum-cons 0 live,
      length-live_items items live (omega (arith, same))
          (flags_tail zero live flags),
    )
length-live_items (b ∷ items) (suc n ∷ live) same flags =
    omega (
      arith,
      sum-cons (suc n) live,
      flags 0,
      length-live_items items live (omega (arith, same))
          (flags_tail (suc n) live flags),
    )

-- what a live slot has is moved to a later one
pub live_items-move : {A : Type 0} (items : List A) (live : List ℕ) (s t : ℕ) (d : A) →
    length items ≡ length live → get_or live s 0 ≡ 1 → s ≤ t → t < length live
    → ((k : ℕ) → s < k → k ≤ t → get_or live k 0 ≡ 0) →
    live_items (set items t (get_or items s d))
    (set (set live s 0) t 1) ≡ live_items items live
unfolding live_items
live_items-move items [] s t d same at le lt dead = absurd (omega arith)
live_items-move [] (n ∷ live) s t d same at le lt dead = absurd (omega (arith, same))
live_items-move (b ∷ items) (zero ∷ live) zero t d same at le lt dead = absurd (omega (arith, at))
live_items-move (b ∷ items) (suc n ∷ live) zero zero d same at le lt dead = refl
live_items-move (b ∷ items) (suc n ∷ live) zero (suc t) d same at le lt dead =
    live_items-fill items live t b (omega (arith, same)) (omega arith)
    (λ k le. dead (suc k) (omega arith) (omega arith))
live_items-move (b ∷ items) (n ∷ live) (suc s) zero d same at le lt dead = absurd (omega arith)
live_items-move (b ∷ items) (zero ∷ live) (suc s) (suc t) d same at le lt dead =
    live_items-move items live s t d (omega (arith, same)) at (omega arith) (omega arith)
    (λ k past le. dead (suc k) (omega arith) (omega arith))
live_items-move (b ∷ items) (suc n ∷ live) (suc s) (suc t) d same at le lt dead =
    ap (λ xs. b ∷ xs)
    (live_items-move items live s t d (omega (arith, same)) at (omega arith) (omega arith)
    (λ k past le. dead (suc k) (omega arith) (omega arith)))

-- what a live slot has stands among what the live slots have, behind that of those before it
pub at-live_items : {A : Type 0} (items : List A) (live : List ℕ) (s : ℕ) (d : A) →
    length items ≡ length live → AreFlags live → get_or live s 0 ≡ 1
    → get_or (live_items items live) (sum (take s live)) d ≡ get_or items s d
unfolding live_items
at-live_items [] [] s d same flags at = absurd (omega (arith, at))
at-live_items [] (n ∷ live) s d same flags at = absurd (omega (arith, same))
at-live_items (b ∷ items) [] s d same flags at = absurd (omega (arith, same))
at-live_items (b ∷ items) (zero ∷ live) zero d same flags at = absurd (omega (arith, at))
at-live_items (b ∷ items) (suc n ∷ live) zero d same flags at = refl
at-live_items (b ∷ items) (zero ∷ live) (suc s) d same flags at =
    let next : sum (0 ∷ take s live) ≡ sum (take s live) =
    omega (arith, sum-cons 0 (take s live)) in
    ap (λ i. get_or (live_items items live) i d) next
    ∙ at-live_items items live s d (omega (arith, same)) (flags_tail zero live flags) at
at-live_items (b ∷ items) (suc n ∷ live) (suc s) d same flags at =
    let next : sum (suc n ∷ take s live) ≡ suc (sum (take s live)) =
    omega (arith, sum-cons (suc n) (take s live), flags 0) in
    ap (λ i. get_or (b ∷ live_items items live) i d) next
    ∙ at-live_items items live s d (omega (arith, same)) (flags_tail (suc n) live flags) at

pub is_in-cons : (x y : ℕ) (xs : List ℕ) → has_block x xs ≡ true → has_block x (y ∷ xs) ≡ true
is_in-cons x y xs e = grind arith

pub is_in-live_items : (x : ℕ) (blocks live : List ℕ) (s : ℕ) → length blocks ≡ length live →
    get_or live s 0 ≡ 1 → get_or blocks s 0 ≡ x
    → has_block x (live_items blocks live) ≡ true
unfolding live_items
is_in-live_items x blocks [] s same at is = absurd (omega (arith, at))
is_in-live_items x [] (n ∷ live) s same at is = absurd (omega (arith, same))
is_in-live_items x (b ∷ blocks) (zero ∷ live) zero same at is = absurd (omega (arith, at))
is_in-live_items x (b ∷ blocks) (suc n ∷ live) zero same at is = let e : eqb b x ≡ true =
    eq-eqb b x is in
    grind arith
is_in-live_items x (b ∷ blocks) (zero ∷ live) (suc s) same at is =
    is_in-live_items x blocks live s (omega (arith, same)) at is
is_in-live_items x (b ∷ blocks) (suc n ∷ live) (suc s) same at is =
    is_in-cons x b (live_items blocks live)
    (is_in-live_items x blocks live s (omega (arith, same)) at is)

is_in-none : (x y : ℕ) (xs : List ℕ) → (y ≡ x → ⊥) → has_block x xs ≡ false →
    has_block x (y ∷ xs) ≡ false
is_in-none x y xs ne e = let n : eqb y x ≡ false = ne_eqb y x ne in grind arith

pub absent-live_items : (x : ℕ) (blocks live : List ℕ) → AreFlags live
    → ((s : ℕ) → s < length live → get_or live s 0 ≡ 1 → get_or blocks s 0 ≡ x → ⊥) →
    has_block x (live_items blocks live) ≡ false
unfolding live_items
absent-live_items x [] live flags none = refl
absent-live_items x (b ∷ blocks) [] flags none = refl
absent-live_items x (b ∷ blocks) (zero ∷ live) flags none =
    absent-live_items x blocks live (flags_tail zero live flags)
    (λ s lt. none (suc s) (omega arith))
absent-live_items x (b ∷ blocks) (suc n ∷ live) flags none =
    is_in-none x b (live_items blocks live) (λ e. none 0 (omega arith) (omega (arith, flags 0)) e)
    (absent-live_items x blocks live (flags_tail (suc n) live flags)
    (λ s lt. none (suc s) (omega arith)))

-- live slots of a list of different blocks
pub once-apart : (blocks live : List ℕ) (s t : ℕ) → length blocks ≡ length live →
    IsOnce (live_items blocks live) → s < t → get_or live s 0 ≡ 1 → get_or live t 0 ≡ 1
    → get_or blocks s 0 ≡ get_or blocks t 0 → ⊥
unfolding live_items
once-apart [] [] s t same once lt at_s at_t e = absurd (omega (arith, at_s))
once-apart [] (n ∷ live) s t same once lt at_s at_t e = absurd (omega (arith, same))
once-apart (b ∷ blocks) [] s t same once lt at_s at_t e = absurd (omega (arith, same))
once-apart (b ∷ blocks) (n ∷ live) s zero same once lt at_s at_t e = absurd (omega (arith, lt))
once-apart (b ∷ blocks) (zero ∷ live) zero (suc t) same once lt at_s at_t e =
    absurd (omega (arith, at_s))
once-apart (b ∷ blocks) (zero ∷ live) (suc s) (suc t) same once lt at_s at_t e =
    once-apart blocks live s t (omega (arith, same)) once (omega (arith, lt)) at_s at_t e
once-apart (b ∷ blocks) (suc n ∷ live) zero (suc t) same once lt at_s at_t e =
    false≢true (sym once.0 ∙
    is_in-live_items b blocks live t (omega (arith, same)) at_t (sym e))
once-apart (b ∷ blocks) (suc n ∷ live) (suc s) (suc t) same once lt at_s at_t e =
    once-apart blocks live s t (omega (arith, same)) once.1 (omega (arith, lt)) at_s at_t e

index-front : (x y : ℕ) (xs : List ℕ) → y ≡ x → index_of_block x (y ∷ xs) ≡ 0
index-front x y xs e = let t : eqb y x ≡ true = eq-eqb y x e in grind arith

index-behind : (x y : ℕ) (xs : List ℕ) → (y ≡ x → ⊥) →
    index_of_block x (y ∷ xs) ≡ 1 + index_of_block x xs
index-behind x y xs ne = let t : eqb y x ≡ false = ne_eqb y x ne in grind arith

-- the live slots before that of a block are as many as the blocks before it
pub index-live_items : (x : ℕ) (blocks live : List ℕ) (s : ℕ) → length blocks ≡ length live →
    AreFlags live → IsOnce (live_items blocks live)
    → get_or live s 0 ≡ 1 → get_or blocks s 0 ≡ x → index_of_block x (live_items blocks live) ≡ sum
    (take s live)
unfolding live_items
index-live_items x blocks [] s same flags once at is = absurd (omega (arith, at))
index-live_items x [] (n ∷ live) s same flags once at is = absurd (omega (arith, same))
index-live_items x (b ∷ blocks) (zero ∷ live) zero same flags once at is =
    absurd (omega (arith, at))
index-live_items x (b ∷ blocks) (suc n ∷ live) zero same flags once at is =
    index-front x b (live_items blocks live) is
index-live_items x (b ∷ blocks) (zero ∷ live) (suc s) same flags once at is =
    index-live_items x blocks live s (omega (arith, same)) (flags_tail zero live flags)
    once at is ∙
    omega (arith, sum-cons 0 (take s live))
index-live_items x (b ∷ blocks) (suc n ∷ live) (suc s) same flags once at is =
    let inside : has_block x (live_items blocks live) ≡ true =
    is_in-live_items x blocks live s (omega (arith, same)) at is in
    let P : ℕ → Type 0 = λ y. has_block y (live_items blocks live) ≡ false in
    index-behind x b (live_items blocks live) (λ e. false≢true (sym (subst P e once.0) ∙ inside))
    ∙ omega (
      arith,
      sum-cons (suc n) (take s live),
      flags 0,
      index-live_items x blocks live s (omega (arith, same)) (flags_tail (suc n) live flags)
          once.1 at is,
    )

pub sum-dead : (xs : List ℕ) → ((k : ℕ) → get_or xs k 0 ≡ 0) → sum xs ≡ 0
sum-dead [] dead = refl
sum-dead (x ∷ xs) dead = omega (arith, sum-cons x xs, dead 0, sum-dead xs (λ k. dead (suc k)))

pub sum-some : (xs : List ℕ) (s : ℕ) → s < length xs → get_or xs s 0 ≡ 1 →
    ((k : ℕ) → s < k → get_or xs k 0 ≡ 0) → sum xs ≡ sum (take s xs) + 1
sum-some xs s lt at dead =
    omega (
      arith,
      sum_by-take-drop (λ x. x) xs (s + 1),
      sum_by_more (λ x. x) xs s 0 lt,
      sum-dead (drop (s + 1) xs) (λ k. get_or-drop (s + 1) xs k 0 ∙ dead (s + 1 + k) (omega arith)),
    )

pub remove-last : {A : Type 0} (xs : List A) (i : ℕ) → suc i ≡ length xs → remove xs i ≡ take i xs
remove-last xs i e = ap (λ ys. take i xs ++ ys) (drop_all (suc i) xs (omega (arith, e))) ∙
    append-nil (take i xs)

pub remove-end : {A : Type 0} (xs : List A) (i : ℕ) → length xs ≤ i → remove xs i ≡ xs
remove-end [] zero le = refl
remove-end [] (suc i) le = refl
remove-end (x ∷ xs) zero le = absurd (omega arith)
remove-end (x ∷ xs) (suc i) le = ap (λ ys. x ∷ ys) (remove-end xs i (omega arith))

-- lists of different blocks
not_in-tail : (x y : ℕ) (xs : List ℕ) → has_block x (y ∷ xs) ≡ false → has_block x xs ≡ false
not_in-tail x y xs e = grind arith

not_in-front : (x y : ℕ) (xs ys : List ℕ) → has_block x (y ∷ xs) ≡ false → has_block x ys ≡ false →
    has_block x (y ∷ ys) ≡ false
not_in-front x y xs ys e f = grind arith

pub not_in-take : (x n : ℕ) (xs : List ℕ) → has_block x xs ≡ false → has_block x (take n xs) ≡ false
not_in-take x zero xs e = refl
not_in-take x (suc n) [] e = refl
not_in-take x (suc n) (y ∷ xs) e =
    not_in-front x y xs (take n xs) e (not_in-take x n xs (not_in-tail x y xs e))

pub not_in-remove : (x i : ℕ) (xs : List ℕ) → has_block x xs ≡ false →
    has_block x (remove xs i) ≡ false
not_in-remove x zero [] e = refl
not_in-remove x (suc i) [] e = refl
not_in-remove x zero (y ∷ xs) e = not_in-tail x y xs e
not_in-remove x (suc i) (y ∷ xs) e = not_in-front x y xs (remove xs i) e
    (not_in-remove x i xs (not_in-tail x y xs e))

pub once-take : (n : ℕ) (xs : List ℕ) → IsOnce xs → IsOnce (take n xs)
once-take zero xs once = tt
once-take (suc n) [] once = tt
once-take (suc n) (x ∷ xs) once = (not_in-take x n xs once.0, once-take n xs once.1)

pub once-remove : (i : ℕ) (xs : List ℕ) → IsOnce xs → IsOnce (remove xs i)
once-remove zero [] once = tt
once-remove (suc i) [] once = tt
once-remove zero (x ∷ xs) once = once.1
once-remove (suc i) (x ∷ xs) once = (not_in-remove x i xs once.0, once-remove i xs once.1)

is_in-tail : (x y : ℕ) (xs : List ℕ) → has_block x (y ∷ xs) ≡ false →
    index_of_block x (y ∷ xs) ≡ 1 + index_of_block x xs
is_in-tail x y xs e = grind arith

pub index-absent : (x : ℕ) (xs : List ℕ) → has_block x xs ≡ false → length xs ≤ index_of_block x xs
index-absent x [] e = omega arith
index-absent x (y ∷ xs) e = omega (
  arith,
  is_in-tail x y xs e,
  index-absent x xs (not_in-tail x y xs e),
)
