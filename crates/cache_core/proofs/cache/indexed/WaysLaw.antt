-- How many slots of each set are filled, and the slots in the order of the ways.
use Rattle.std.proofs.Common.{◌≡◌, ℕ, zero, suc, ◌+◌, ◌*◌, ◌<◌, List, [], ◌∷◌, ◌++◌}
use Rattle.std.proofs.Common.{length, map}
use Rattle.std.proofs.Common.{set, get_or, refl, sym, ◌∙◌, ap, arith, Some}
use Rattle.std.specs.Prelude.{slice_get}
use Rattle.std.specs.List.{range_with_len}
use Rattle.cache_core.specs.internal.cache.SlotOrder.{order_of, in_ways}

pub ways_at : (ways start : ℕ) (filled : List ℕ) (k : ℕ) → k < length filled →
    order_of (in_ways ways start filled) k
    ≡ range_with_len (start + k * ways) (get_or filled k 0)
ways_at ways start [] k lt = absurd (omega (arith, lt))
ways_at ways start (n ∷ filled) zero lt =
    let e : start ≡ start + 0 * ways = omega arith in
    ap (λ a. range_with_len a n) e
ways_at ways start (n ∷ filled) (suc k) lt =
    let e : start + ways + k * ways ≡ start + suc k * ways = omega arith in
    ways_at ways (start + ways) filled k (omega (arith, lt))
    ∙ ap (λ a. range_with_len a (get_or filled k 0)) e

pub ways_set : (ways start : ℕ) (filled : List ℕ) (k n : ℕ) → k < length filled →
    in_ways ways start (set filled k n)
    ≡ set (in_ways ways start filled) k (range_with_len (start + k * ways) n)
ways_set ways start [] k n lt = absurd (omega (arith, lt))
ways_set ways start (m ∷ filled) zero n lt =
    let e : start ≡ start + 0 * ways = omega arith in
    ap (λ a. range_with_len a n ∷ in_ways ways (start + ways) filled) e
ways_set ways start (m ∷ filled) (suc k) n lt =
    let e : start + ways + k * ways ≡ start + suc k * ways = omega arith in
    ap (λ xs. range_with_len start m ∷ xs)
    (ways_set ways (start + ways) filled k n (omega (arith, lt))
    ∙ ap (λ a. set (in_ways ways (start + ways) filled) k (range_with_len a n)) e)

range_length : (a n : ℕ) → length (range_with_len a n) ≡ n
range_length a zero = refl
range_length a (suc n) = ap suc (range_length (a + 1) n)

pub ways_counts : (ways start : ℕ) (filled : List ℕ) →
    map (λ order. length order) (in_ways ways start filled) ≡ filled
ways_counts ways start [] = refl
ways_counts ways start (n ∷ filled) =
    ap (λ m. m ∷ map (λ order. length order) (in_ways ways (start + ways) filled))
    (range_length start n)
    ∙ ap (λ xs. n ∷ xs) (ways_counts ways (start + ways) filled)

pub range_push : (a n : ℕ) → range_with_len a (suc n) ≡ range_with_len a n ++ (a + n) ∷ []
range_push a zero = let e : a ≡ a + 0 = omega arith in ap (λ b. b ∷ []) e
range_push a (suc n) =
    let e : a + 1 + n ≡ a + suc n = omega arith in
    ap (λ xs. a ∷ xs) (range_push (a + 1) n
    ∙ ap (λ b. range_with_len (a + 1) n ++ b ∷ []) e)

pub range_get : (a n i : ℕ) → i < n → slice_get (range_with_len a n) i ≡ Some (a + i)
range_get a zero i lt = absurd (omega (arith, lt))
range_get a (suc n) zero lt = let e : a ≡ a + 0 = omega arith in ap Some e
range_get a (suc n) (suc i) lt =
    let e : a + 1 + i ≡ a + suc i = omega arith in
    range_get (a + 1) n i (omega (arith, lt)) ∙ ap Some e

-- how many slots each set has
count_read : (sets : List (List ℕ)) (k : ℕ) →
    length (order_of sets k) ≡ get_or (map (λ order. length order) sets) k 0
count_read [] zero = refl
count_read [] (suc k) = refl
count_read (y ∷ ys) zero = refl
count_read (y ∷ ys) (suc k) = count_read ys k

pub counted : (sets : List (List ℕ)) (filled : List ℕ) (k : ℕ) →
    map (λ order. length order) sets ≡ filled → length (order_of sets k) ≡ get_or filled k 0
counted sets filled k e = count_read sets k ∙ ap (λ xs. get_or xs k 0) e

pub counts_set : (sets : List (List ℕ)) (k : ℕ) (xs : List ℕ) →
    map (λ order. length order) (set sets k xs)
    ≡ set (map (λ order. length order) sets) k (length xs)
counts_set [] zero xs = refl
counts_set [] (suc k) xs = refl
counts_set (y ∷ ys) zero xs = refl
counts_set (y ∷ ys) (suc k) xs = ap (λ zs. length y ∷ zs) (counts_set ys k xs)

pub count_kept : (xs : List ℕ) (k n : ℕ) → get_or xs k 0 ≡ n → set xs k n ≡ xs
count_kept [] k n e = refl
count_kept (x ∷ xs) zero n e = ap (λ m. m ∷ xs) (sym e)
count_kept (x ∷ xs) (suc k) n e = ap (λ ys. x ∷ ys) (count_kept xs k n e)
