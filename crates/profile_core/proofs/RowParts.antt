-- Parts of n numbers of an array, as rows are: what is read of one, and one of them written anew.
use Rattle.std.proofs.Common.{◌≡◌, ℕ, ◌+◌, ◌*◌, ◌-◌, ◌<◌, ◌≤◌, List, length, take, drop}
use Rattle.std.proofs.Common.{get_or, set, sym, ◌∙◌, ap, arith, length-drop, get_or-take}
use Rattle.std.proofs.Common.{get_or-drop, Vec}
use Rattle.std.proofs.Math.Nat.{mul-le-mul_right}
use Rattle.std.proofs.lemmas.Bool.{cases_lt}
use Rattle.std.proofs.lemmas.List.{get_or_read, take_at, drop_at, drop-take, length-take-le}
use Rattle.std.proofs.lemmas.List.{with_items_is}
use Rattle.std.proofs.lemmas.Slice.{drop-put_mid, take-put_mid_below}
use Rattle.std.specs.Vec.{with_items}
use borrow.Rule.Slice.PartMut.{put_mid, same_len_mid, set_mid_at}

-- a row that stands in front of another ends where that begins
pub in_front : (p q n : ℕ) → p < q → p * n + n ≤ q * n
in_front p q n lt =
    let next : p + 1 ≤ q = omega (arith, lt) in
    omega (arith, mul-le-mul_right n next)

-- a part of a list, as the end of what it begins
pub part_of : (b n : ℕ) (xs : List ℕ) → take n (drop b xs) ≡ drop b (take (b + n) xs)
part_of b n xs = sym (drop-take b n xs)

pub part_same : (b n : ℕ) (xs ys : List ℕ) → take (b + n) xs ≡ take (b + n) ys →
    take n (drop b xs) ≡ take n (drop b ys)
part_same b n xs ys same = grind (arith, part_of)

module _ (b n : ℕ) (xs : List ℕ) (ends : b + n ≤ length xs) where
  pub part_long : length (take n (drop b xs)) ≡ n
  part_long = length-take-le n (drop b xs) (omega (arith, length-drop b xs, ends))

  -- what is read of it
  pub part_read : {i at x : ℕ} → i < n → at ≡ b + i → x ≡ get_or xs at x →
      x ≡ get_or (take n (drop b xs)) i 0
  part_read {i} {at} {x} lt is read = grind (arith, get_or_read, get_or-take, get_or-drop)

  -- its first number written is the whole part written
  pub part_first : (x : ℕ) → 0 < n → set xs b x ≡ put_mid b n xs (set (take n (drop b xs)) 0 x)
  part_first x some = ap (λ j. set xs j x) (omega arith) ∙
      sym (set_mid_at b n 0 xs x (omega (arith, some, part_long)))

  -- the part written anew
  pub part_here : (new : List ℕ) → length new ≡ n → take n (drop b (put_mid b n xs new)) ≡ new
  part_here new long = grind (arith, drop_at, length-take-le, take_at)

  pub part_kept : (new : List ℕ) → length new ≡ n → length (put_mid b n xs new) ≡ length xs
  part_kept new long = same_len_mid b n xs new (long ∙ sym part_long)

-- the row at place p written anew, and that at another place
pub part_other : (p q n : ℕ) (xs new : List ℕ) → p * n ≤ length xs → length new ≡ n →
    (q ≡ p → ⊥) →
    take n (drop (q * n) (put_mid (p * n) n xs new)) ≡ take n (drop (q * n) xs)
part_other p q n xs new begins long other = grind (
  arith,
  cases_lt,
  part_same,
  take-put_mid_below,
  in_front,
  drop-put_mid,
)

-- a part as code lends it, and as it is put back
pub part_lent : (b n : ℕ) {xs now : List ℕ} → now ≡ xs →
    take (b + n - b) (drop b now) ≡ take n (drop b xs)
part_lent b n {xs} {now} is = grind arith

pub part_back : {Z : Type 0} (v : Vec ℕ Z) (b n : ℕ) {now : List ℕ} (new : List ℕ) → now ≡ v.items →
    length now ≡ v.len → length new ≡ length (take (b + n - b) (drop b now)) →
    (with_items v (put_mid b (b + n - b) now new)).items ≡ put_mid b n v.items new
part_back v b n {now} new is len long =
    with_items_is v (put_mid b (b + n - b) now new) (same_len_mid b (b + n - b) now new long ∙ len)
    ∙ ap (λ j. put_mid b j now new) (omega arith) ∙ ap (λ xs. put_mid b n xs new) is
