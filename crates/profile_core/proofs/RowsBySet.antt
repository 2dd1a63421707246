-- A row for each of so many sets, however they are stored.
use Rattle.std.proofs.Common.{◌≡◌, ℕ, ◌<◌, inl, inr, List, [], length, get_or, set, sym, ◌∙◌, ap}
use Rattle.std.proofs.Common.{arith, length-set, get_or-set_same, get_or-set_other}
use Rattle.std.specs.Prelude.{replicate}
use Rattle.std.proofs.lemmas.Bool.{cases_eq}
use Rattle.std.proofs.lemmas.List.{ext_get_or, get_or-replicate, length-replicate}
use Rattle.std.proofs.lemmas.List.FromFn.{length-map-range_with_len, get_or-map-range_with_len}
use Rattle.profile_core.specs.internal.rows.Rows.{RowsValue, rows_by_set, row_for, with_row}

pub length-rows_by_set : (m : ℕ) (row : ℕ → List ℕ) → length (rows_by_set m row) ≡ m
unfolding rows_by_set
length-rows_by_set m row = length-map-range_with_len row 0 m

pub rows_at : (m k : ℕ) (row : ℕ → List ℕ) → k < m → get_or (rows_by_set m row) k [] ≡ row k
unfolding rows_by_set
rows_at m k row lt = get_or-map-range_with_len row 0 m k k [] lt (omega arith)

-- rows that are the same one by one
pub rows_same : (m : ℕ) (row : ℕ → List ℕ) (rows : List (List ℕ)) → length rows ≡ m →
    ((k : ℕ) → k < m → row k ≡ get_or rows k []) → rows_by_set m row ≡ rows
rows_same m row rows count each =
    let long = length-rows_by_set m row in
    ext_get_or [] (rows_by_set m row) rows (long ∙ sym count)
    (λ k lt. rows_at m k row (omega (arith, lt, long)) ∙ each k (omega (arith, lt, long)))

pub rows_blank : (m n : ℕ) (row : ℕ → List ℕ) →
    ((k : ℕ) → k < m → row k ≡ replicate n 0) → rows_by_set m row ≡ replicate m (replicate n 0)
rows_blank m n row each = rows_same m row (replicate m (replicate n 0))
    (length-replicate m (replicate n 0))
    (λ k lt. each k lt ∙ sym (get_or-replicate m k (replicate n 0) [] lt))

-- one of them written anew
pub rows_put : (m k : ℕ) (row row' : ℕ → List ℕ) (new : List ℕ) → k < m → row' k ≡ new →
    ((j : ℕ) → j < m → (j ≡ k → ⊥) → row' j ≡ row j) →
    rows_by_set m row' ≡ set (rows_by_set m row) k new
rows_put m k row row' new lt here others =
    let old = rows_by_set m row in
    rows_same m row' (set old k new) (length-set old k new ∙ length-rows_by_set m row)
    (λ j in_range. elim (cases_eq j k) [
      | inl same ↦ ap row' same ∙ here
          ∙ sym (ap (λ i. get_or (set old k new) i []) same
          ∙ get_or-set_same old k new [] (omega (arith, lt, length-rows_by_set m row)))
      | inr other ↦ others j in_range other
          ∙ sym (get_or-set_other old k j new [] other ∙ rows_at m j row in_range)
    ])

-- what is known where the row of set k is asked for
pub record HasRow (n m k : ℕ) (row : ℕ → List ℕ) (rows : RowsValue) : Type 0 where
  pub seen : record { stride = n; rows = rows_by_set m row } ≡ rows
  pub is_set : k < length rows.rows

pub known_row : {n m k : ℕ} {row : ℕ → List ℕ} {rows : RowsValue} →
    record { stride = n; rows = rows_by_set m row } ≡ rows → k < length rows.rows →
    HasRow n m k row rows
known_row seen is_set = record { seen = seen; is_set = is_set }

-- the same rows, stored in another way
pub rows_kept : {n m m' k : ℕ} {row row' : ℕ → List ℕ} {rows : RowsValue} →
    record { stride = n; rows = rows_by_set m row } ≡ rows → k < length rows.rows → m' ≡ m →
    ((j : ℕ) → row' j ≡ row j) → HasRow n m' k row' rows
rows_kept {n} {m} {m'} {k} {row} {row'} seen is_set count same = record {
  seen = ap (λ rs. record { stride = n; rows = rs }) (rows_same m' row' (rows_by_set m row)
      (length-rows_by_set m row ∙ sym count)
      (λ j lt. same j ∙ sym (rows_at m j row (omega (arith, lt, count))))) ∙ seen;
  is_set = is_set;
}

module _ {n m k : ℕ} {row : ℕ → List ℕ} {rows : RowsValue} (r : HasRow n m k row rows) where
  pub stride_is : n ≡ rows.stride
  stride_is = ap (λ v. v.stride) r.seen

  pub within : k < m
  within = omega (arith, r.is_set, ap (λ v. length v.rows) r.seen, length-rows_by_set m row)

  pub row_is : row_for rows k ≡ row k
  row_is = ap (λ v. row_for v k) (sym r.seen) ∙ rows_at m k row within

  -- the rows once that of set k is `new`
  pub row_put : (row' : ℕ → List ℕ) (new : List ℕ) → row' k ≡ new →
      ((j : ℕ) → j < m → (j ≡ k → ⊥) → row' j ≡ row j) →
      record { stride = n; rows = rows_by_set m row' } ≡ with_row rows k new
  row_put row' new here others =
      ap (λ rs. record { stride = n; rows = rs }) (rows_put m k row row' new within here others)
      ∙ ap (λ v. with_row v k new) r.seen

-- the row of set k is `new` then
pub put_is : {k : ℕ} {new : List ℕ} {after : RowsValue} (rows : RowsValue) →
    after ≡ with_row rows k new → k < length rows.rows → row_for after k ≡ new
put_is {k} {new} {after} rows put lt =
    ap (λ v. row_for v k) put ∙ get_or-set_same rows.rows k new [] lt

-- and no other changed
pub put_others : {k : ℕ} {after : RowsValue} (rows : RowsValue) (new : List ℕ) →
    after ≡ with_row rows k new → k < length rows.rows → after ≡ with_row rows k (row_for after k)
put_others {k} rows new put lt = put ∙ ap (with_row rows k) (sym (put_is rows put lt))
