-- Rows in the order of the sets: where they stand, and one of them written anew.
use Rattle.std.proofs.Common.{◌≡◌, ℕ, ◌+◌, ◌-◌, ◌*◌, ◌<◌, ◌≤◌, ◌^◌, List, length, take, drop}
use Rattle.std.proofs.Common.{get_or}
use Rattle.std.proofs.Common.{set, sym, ◌∙◌, ap, arith, length-set, Vec}
use Rattle.std.specs.Prelude.{replicate}
use Rattle.std.proofs.lemmas.List.{drop-replicate, take-replicate}
use Rattle.std.specs.Vec.{with_items}
use borrow.Rule.Slice.PartMut.{put_mid, same_len_mid}
use Rattle.profile_core.specs.internal.rows.Rows.{RowsValue, rows_by_set, row_for, with_row}
use Rattle.profile_core.specs.internal.rows.PlainRows.{plain_row, IsPlain}
use Rattle.profile_core.proofs.RowParts.{in_front, part_long, part_read, part_first, part_here}
use Rattle.profile_core.proofs.RowParts.{part_other, part_lent, part_back}
use Rattle.profile_core.proofs.RowsBySet.{HasRow, known_row, rows_blank, within, row_is}
use Rattle.profile_core.proofs.RowsBySet.{row_put}

-- rows of zeros
pub blank_rows_in : (n m : ℕ) {numbers : List ℕ} → numbers ≡ replicate (m * n) 0 →
    rows_by_set m (plain_row n numbers) ≡ replicate m (replicate n 0)
blank_rows_in n m {numbers} zeros = grind (
  arith,
  rows_blank,
  drop-replicate,
  take-replicate,
  in_front,
)

-- what is known where the row of set k is asked for
pub record HasPlain (n m k : ℕ) (numbers : List ℕ) (rows : RowsValue) : Type 0 where
  pub sound : IsPlain n m numbers
  pub row : HasRow n m k (plain_row n numbers) rows

pub known : {n m k : ℕ} {numbers : List ℕ} {rows : RowsValue} → IsPlain n m numbers →
    record { stride = n; rows = rows_by_set m (plain_row n numbers) } ≡ rows →
    k < length rows.rows →
    HasPlain n m k numbers rows
known sound seen is_set = record { sound = sound; row = known_row seen is_set }

-- the rows once that of set k is `new`
pub record IsPut (n m k : ℕ) (numbers : List ℕ) (rows : RowsValue) (new : List ℕ) : Type 0 where
  pub sound : IsPlain n m numbers
  pub seen : record { stride = n; rows = rows_by_set m (plain_row n numbers) } ≡ with_row rows k new

module _ {n m k : ℕ} {numbers : List ℕ} {rows : RowsValue} (r : HasPlain n m k numbers rows) where
  -- the row ends in the array, which is small
  pub ends : k * n + n ≤ length numbers
  ends = omega (arith, in_front k m n (within r.row), r.sound.numbers_len)

  pub numbers_small : length numbers ≤ 2 ^ 22
  numbers_small = omega (arith, r.sound.numbers_len, r.sound.small)

  -- what is read of the row
  pub entry_read : {i at x : ℕ} → i < n → at ≡ k * n + i → x ≡ get_or numbers at x →
      x ≡ get_or (row_for rows k) i 0
  entry_read {i} {at} {x} lt is read =
      part_read (k * n) n numbers ends lt is read ∙ ap (λ row. get_or row i 0) (sym (row_is r.row))

  -- the row as it is lent
  pub lent : {now : List ℕ} → now ≡ numbers →
      take (k * n + n - k * n) (drop (k * n) now) ≡ row_for rows k
  lent is = part_lent (k * n) n is ∙ sym (row_is r.row)

  -- the row written anew
  pub row_size : length (row_for rows k) ≡ n
  row_size = ap length (row_is r.row) ∙ part_long (k * n) n numbers ends

  plain_put : (new : List ℕ) → length new ≡ n → {numbers' : List ℕ} →
      numbers' ≡ put_mid (k * n) n numbers new → IsPut n m k numbers' rows new
  plain_put new long {numbers'} put =
      let written = put_mid (k * n) n numbers new in
      record {
        sound = record {
          numbers_len = ap length put ∙ same_len_mid (k * n) n numbers new
              (long ∙ sym (part_long (k * n) n numbers ends)) ∙ r.sound.numbers_len;
          small = r.sound.small;
        };
        seen =
            ap (λ es. record { stride = n; rows = rows_by_set m (plain_row n es) }) put
            ∙ row_put r.row (plain_row n written) new (part_here (k * n) n numbers ends new long)
            (λ j lt other. part_other k j n numbers new (omega (arith, ends)) long other);
      }

  -- its first number alone
  pub first_put : (x : ℕ) → 0 < n → IsPut n m k (set numbers (k * n) x) rows (set (row_for rows k)
      0 x)
  first_put x some = plain_put (set (row_for rows k) 0 x)
      (length-set (row_for rows k) 0 x ∙ row_size)
      (part_first (k * n) n numbers ends x some
      ∙ ap (λ row. put_mid (k * n) n numbers (set row 0 x)) (sym (row_is r.row)))

-- the row put back as it was lent
pub put_back : {Z : Type 0} {n m k : ℕ} (v : Vec ℕ Z) {rows : RowsValue} →
    HasPlain n m k v.items rows → {now new : List ℕ} → now ≡ v.items → length now ≡ v.len →
    length new ≡ length (take (k * n + n - k * n) (drop (k * n) now)) →
    IsPut n m k (with_items v (put_mid (k * n) (k * n + n - k * n) now new)).items rows new
put_back {Z} {n} {m} {k} v r {now} {new} is len long =
    plain_put r new (long ∙ ap length (lent r is) ∙ row_size r) (part_back v (k * n) n new is len
    long)
