-- The list of each set, its front and what its row begins with, and one of them written anew.
use Rattle.std.proofs.Common.{◌≡◌, ℕ, zero, suc, ◌+◌, ◌*◌, ◌<◌, ◌≤◌, ◌^◌, List, [], ◌∷◌}
use Rattle.std.proofs.Common.{length, take, get_or, set, sum, refl, sym, ◌∙◌, ap, subst, arith}
use Rattle.std.specs.Prelude.{replicate}
use Rattle.std.specs.List.{sum_by}
use Rattle.std.proofs.Math.Nat.{mul-le-mul_right}
use Rattle.std.proofs.lemmas.List.{length-take-le, get_or_default, get_or_read, take_more}
use Rattle.std.proofs.lemmas.List.Sums.{sum_by-cons, sum_by-le, sum_by_push, sum_by-take-le}
use Rattle.cache_core.specs.Touched.{TouchedValue}
use Rattle.profile_core.specs.internal.rows.Rows.{RowsValue, row_for}
use Rattle.profile_core.specs.internal.set_lists.Lists.{Lists, lists_in, IsListed}

pub length-lists_in : (fronts : List ℕ) (rows : List (List ℕ)) (lens : List ℕ) →
    length fronts ≡ length lens → length lens ≤ length rows →
    length (lists_in fronts rows lens) ≡ length lens
unfolding lists_in
length-lists_in [] rows lens same le = same
length-lists_in (f ∷ fronts) rows [] same le = absurd (omega arith)
length-lists_in (f ∷ fronts) [] (n ∷ lens) same le = absurd (omega arith)
length-lists_in (f ∷ fronts) (r ∷ rows) (n ∷ lens) same le =
    ap suc (length-lists_in fronts rows lens (omega arith) (omega arith))

pub lists_in-none : (m : ℕ) (fronts : List ℕ) (rows : List (List ℕ)) → length fronts ≡ m →
    m ≤ length rows → lists_in fronts rows (replicate m 0) ≡ replicate m []
unfolding lists_in
lists_in-none zero [] rows same le = refl
lists_in-none zero (f ∷ fronts) rows same le = absurd (omega arith)
lists_in-none (suc m) [] rows same le = absurd (omega arith)
lists_in-none (suc m) (f ∷ fronts) [] same le = absurd (omega arith)
lists_in-none (suc m) (f ∷ fronts) (r ∷ rows) same le =
    ap (λ ls. [] ∷ ls) (lists_in-none m fronts rows (omega arith) (omega arith))

-- the list of set k, by its index
pub list_at : (k : ℕ) (fronts : List ℕ) (rows : List (List ℕ)) (lens : List ℕ) →
    length fronts ≡ length lens → length lens ≤ length rows → k < length lens →
    get_or (lists_in fronts rows lens) k [] ≡ take (get_or lens k 0)
    (get_or fronts k 0 ∷ get_or rows k [])
unfolding lists_in
list_at k fronts rows [] same le lt = absurd (omega arith)
list_at k [] rows (n ∷ lens) same le lt = absurd (omega arith)
list_at k (f ∷ fronts) [] (n ∷ lens) same le lt = absurd (omega arith)
list_at zero (f ∷ fronts) (r ∷ rows) (n ∷ lens) same le lt = refl
list_at (suc k) (f ∷ fronts) (r ∷ rows) (n ∷ lens) same le lt =
    list_at k fronts rows lens (omega arith) (omega arith) (omega arith)

-- the list of set k written anew
pub list_set : (k f : ℕ) (r : List ℕ) (n : ℕ) (fronts : List ℕ) (rows : List (List ℕ))
    (lens : List ℕ) → length fronts ≡ length lens → length lens ≤ length rows →
    k < length lens →
    lists_in (set fronts k f) (set rows k r) (set lens k n) ≡ set (lists_in fronts rows lens) k
    (take n (f ∷ r))
unfolding lists_in
list_set k f r n fronts rows [] same le lt = absurd (omega arith)
list_set k f r n [] rows (m ∷ lens) same le lt = absurd (omega arith)
list_set k f r n (g ∷ fronts) [] (m ∷ lens) same le lt = absurd (omega arith)
list_set zero f r n (g ∷ fronts) (q ∷ rows) (m ∷ lens) same le lt = refl
list_set (suc k) f r n (g ∷ fronts) (q ∷ rows) (m ∷ lens) same le lt =
    ap (λ ls. take m (g ∷ q) ∷ ls)
    (list_set k f r n fronts rows lens (omega arith) (omega arith) (omega arith))

pub sum_short : (n : ℕ) (lens : List ℕ) → ((k : ℕ) → get_or lens k 0 ≤ n) →
    sum lens ≤ length lens * n
sum_short n lens h = sum_by-le (λ m. m) n lens (λ k d lt. subst (λ (m : ℕ). m ≤ n)
    (get_or_default lens k 0 d lt) (h k))

pub sum_next : (xs : List ℕ) (i : ℕ) → i < length xs → sum (take i xs) + get_or xs i 0 ≤ sum xs
sum_next xs i lt = omega (
  arith,
  ap sum (take_more xs i 0 lt),
  sum_by_push (λ m. m) (take i xs) (get_or xs i 0),
  sum_by-take-le (λ m. m) xs (i + 1),
)

-- as many blocks as the lengths say
pub held_in : (n : ℕ) (fronts : List ℕ) (rows : List (List ℕ)) (lens : List ℕ) →
    length fronts ≡ length lens → length lens ≤ length rows →
    ((k : ℕ) → k < length rows → length (get_or rows k []) ≡ n) →
    ((k : ℕ) → get_or lens k 0 ≤ n + 1) →
    sum_by length (lists_in fronts rows lens) ≡ sum lens
unfolding lists_in
held_in n [] rows [] same le long short = refl
held_in n [] rows (m ∷ lens) same le long short = absurd (omega arith)
held_in n (f ∷ fronts) rows [] same le long short = absurd (omega arith)
held_in n (f ∷ fronts) [] (m ∷ lens) same le long short = absurd (omega arith)
held_in n (f ∷ fronts) (r ∷ rows) (m ∷ lens) same le long short =
    let size : length (take m (f ∷ r)) ≡ m =
    length-take-le m (f ∷ r) (omega (arith, long 0 (omega arith), short 0)) in
    let rest : sum_by length (lists_in fronts rows lens) ≡ sum lens =
    held_in n fronts rows lens (omega arith) (omega arith) (λ k lt. long (suc k) (omega arith))
    (λ k. short (suc k)) in
    sum_by-cons length (take m (f ∷ r)) (lists_in fronts rows lens) ∙
    omega (arith, size, rest, sum_by-cons (λ j. j) m lens)

-- what is known of set k where its list is asked for
pub record HasList (k : ℕ) (fronts : List ℕ) (rows : RowsValue) (lens : List ℕ)
    (touched : TouchedValue) (lists : List (List ℕ)) : Type 0 where
  pub sound : IsListed fronts rows lens touched
  pub lists_are : lists_in fronts rows.rows lens ≡ lists
  pub is_set : k < length lists

pub depth_is : {n : ℕ} {lists : List (List ℕ)} {v : Lists} →
    record { depth = n; lists = lists } ≡ v → n ≡ v.depth
depth_is seen = ap (λ v. v.depth) seen

pub known : {k : ℕ} {fronts : List ℕ} {rows : RowsValue} {lens : List ℕ} {touched : TouchedValue}
    {v : Lists} → IsListed fronts rows lens touched →
    record { depth = rows.stride + 1; lists = lists_in fronts rows.rows lens } ≡ v →
    k < length v.lists → HasList k fronts rows lens touched v.lists
known sound seen is_set =
    record { sound = sound; lists_are = ap (λ v. v.lists) seen; is_set = is_set }

module _ {k : ℕ} {fronts : List ℕ} {rows : RowsValue} {lens : List ℕ} {touched : TouchedValue}
    {lists : List (List ℕ)} (r : HasList k fronts rows lens touched lists) where
  pub count : length lists ≡ length lens
  count = ap length (sym r.lists_are) ∙
      length-lists_in fronts rows.rows lens r.sound.fronts_len r.sound.rows_len

  pub within : k < length lens
  within = omega (arith, r.is_set, count)

  pub among_fronts : k < length fronts
  among_fronts = omega (arith, within, r.sound.fronts_len)

  pub among_rows : k < length rows.rows
  among_rows = omega (arith, within, r.sound.rows_len)

  pub row_long : length (row_for rows k) ≡ rows.stride
  row_long = r.sound.long k among_rows

  pub row_small : rows.stride ≤ 2 ^ 22
  row_small =
      let one : 1 ≤ length lens = omega (arith, within) in
      omega (arith, r.sound.small, mul-le-mul_right (rows.stride + 1) one)

  pub list_is : get_or lists k [] ≡ take (get_or lens k 0) (get_or fronts k 0 ∷ row_for rows k)
  list_is = ap (λ ls. get_or ls k []) (sym r.lists_are) ∙
      list_at k fronts rows.rows lens r.sound.fronts_len r.sound.rows_len within

  pub list_size : length (get_or lists k []) ≡ get_or lens k 0
  list_size = ap length list_is ∙
      length-take-le (get_or lens k 0) (get_or fronts k 0 ∷ row_for rows k)
      (omega (arith, row_long, r.sound.short k))

  -- what is read of it
  pub len_read : {len : ℕ} → len ≡ get_or lens k len → len ≡ get_or lens k 0
  len_read {len} read = get_or_read lens k len within read 0

  pub front_read : {front : ℕ} → front ≡ get_or fronts k front → front ≡ get_or fronts k 0
  front_read {front} read = get_or_read fronts k front among_fronts read 0
