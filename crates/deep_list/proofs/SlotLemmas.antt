-- Counts of live slots: a flag that is set or cleared changes the sums of the fronts that reach
-- past it.
use Rattle.std.proofs.Common.{◌≡◌, ℕ, zero, suc, ◌+◌, ◌-◌, ◌*◌, ◌/◌, ◌<◌, ◌≤◌, ◌^◌, List, [], ◌∷◌}
use Rattle.std.proofs.Common.{length, take, drop, get_or, set, sum, sym, ◌∙◌, ap, arith}
use Rattle.std.proofs.Common.{length-set, inl, inr}
use Rattle.std.proofs.lemmas.Bool.{cases_lt}
use Rattle.std.proofs.lemmas.List.{take-set-le, take-take, drop-take, get_or-drop}
use Rattle.std.proofs.lemmas.List.Sums.{sum_by-cons, sum_by-take-le, sum_by_more, sum_by-take-drop}
use Rattle.deep_list.specs.Slots.{AreFlags, HasCounts}

pub sum-cons : (x : ℕ) (xs : List ℕ) → sum (x ∷ xs) ≡ x + sum xs
sum-cons x xs = sum_by-cons (λ x. x) x xs

pub sum_take-set_above : (m s v : ℕ) (xs : List ℕ) → m ≤ s →
    sum (take m (set xs s v)) ≡ sum (take m xs)
sum_take-set_above m s v xs le = ap sum (take-set-le m xs s v le)

pub sum_take-set : (m s v : ℕ) (xs : List ℕ) → s < m → s < length xs →
    sum (take m (set xs s v)) + get_or xs s 0 ≡ sum (take m xs) + v
sum_take-set m s v [] lt within = absurd (omega arith)
sum_take-set zero s v (x ∷ xs) lt within = absurd (omega arith)
sum_take-set (suc m) zero v (x ∷ xs) lt within =
    omega (arith, sum-cons v (take m xs), sum-cons x (take m xs))
sum_take-set (suc m) (suc s) v (x ∷ xs) lt within =
    omega (
      arith,
      sum-cons x (take m (set xs s v)),
      sum-cons x (take m xs),
      sum_take-set m s v xs (omega arith) (omega arith),
    )

pub sum_take-mono : (m n : ℕ) (xs : List ℕ) → m ≤ n → sum (take m xs) ≤ sum (take n xs)
sum_take-mono m n xs le = omega (
  arith,
  sum_by-take-le (λ x. x) (take n xs) m,
  ap sum (take-take m n xs le),
)

pub flags_tail : (x : ℕ) (xs : List ℕ) → AreFlags (x ∷ xs) → AreFlags xs
flags_tail x xs h k = h (suc k)

pub flags_set : (xs : List ℕ) (s v : ℕ) → v ≤ 1 → AreFlags xs → AreFlags (set xs s v)
flags_set [] s v le h k = h k
flags_set (x ∷ xs) zero v le h zero = le
flags_set (x ∷ xs) zero v le h (suc k) = h (suc k)
flags_set (x ∷ xs) (suc s) v le h zero = h zero
flags_set (x ∷ xs) (suc s) v le h (suc k) = flags_set xs s v le (λ j. h (suc j)) k

pub flags_sum : (xs : List ℕ) → AreFlags xs → sum xs ≤ length xs
flags_sum [] h = omega arith
flags_sum (x ∷ xs) h = omega (arith, sum-cons x xs, h 0, flags_sum xs (flags_tail x xs h))

flags_drop : (n : ℕ) (xs : List ℕ) → AreFlags xs → AreFlags (drop n xs)
flags_drop n xs h k = omega (arith, get_or-drop n xs k 0, h (n + k))

sum_take_most : (n : ℕ) (xs : List ℕ) → AreFlags xs → sum (take n xs) ≤ n
sum_take_most zero xs h = omega arith
sum_take_most (suc n) [] h = omega arith
sum_take_most (suc n) (x ∷ xs) h =
    omega (arith, sum-cons x (take n xs), h 0, sum_take_most n xs (flags_tail x xs h))

module _ {blocks live counts : List ℕ} (h : HasCounts blocks live counts) where
  pub at_chunk : (s : ℕ) → s < length live → s / 256 < length counts
  at_chunk s lt = omega (arith, h.chunks)

  -- a count and those before it
  counted : (c : ℕ) → c < length counts → sum (take (c * 256) live) + get_or counts c 0 ≡ sum
      (take ((c + 1) * 256) live)
  counted c lt =
      omega (
        arith,
        h.prefixes c (omega arith),
        h.prefixes (c + 1) (omega arith),
        sum_by_more (λ x. x) counts c 0 lt,
      )

  pub count_small : (c : ℕ) → c < length counts → get_or counts c 0 ≤ length live
  count_small c lt =
      omega (
        arith,
        counted c lt,
        sum_by-take-le (λ x. x) live ((c + 1) * 256),
        flags_sum live h.flags,
      )

  pub count_some : (s : ℕ) → s < length live → get_or live s 0 ≡ 1 → 1 ≤ get_or counts (s / 256) 0
  count_some s lt one =
      omega (
        arith,
        counted (s / 256) (at_chunk s lt),
        sum_take-mono (s + 1) ((s / 256 + 1) * 256) live (omega arith),
        sum_take-mono (s / 256 * 256) s live (omega arith),
        sum_by_more (λ x. x) live s 0 lt,
      )

  -- a front of counts and one of flags, after a change
  prefix_set : (s v n c : ℕ) → s < length live → c ≤ length counts →
      v + get_or counts (s / 256) 0 ≡ n + get_or live s 0
      → sum (take c (set counts (s / 256) n)) ≡ sum (take (c * 256) (set live s v))
  prefix_set s v n c lt le e =
      elim (cases_lt (s / 256) c) [
        | inl past ↦ omega (
          arith,
          h.prefixes c le,
          sum_take-set c (s / 256) n counts past (at_chunk s lt),
          sum_take-set (c * 256) s v live (omega arith) lt,
          e,
        )
        | inr before ↦ sum_take-set_above c (s / 256) n counts before ∙ h.prefixes c le
            ∙ sym (sum_take-set_above (c * 256) s v live (omega arith))
      ]

  pub counted_set : (blocks' : List ℕ) (s v n : ℕ) → length blocks' ≡ length blocks →
      s < length live → v ≤ 1
      → v + get_or counts (s / 256) 0 ≡ n + get_or live s 0
      → HasCounts blocks' (set live s v) (set counts (s / 256) n)
  counted_set blocks' s v n long lt flag e = record {
    same = long ∙ h.same ∙ sym (length-set live s v);
    small = omega (arith, h.small, length-set live s v);
    flags = flags_set live s v flag h.flags;
    chunks = omega (arith, h.chunks, length-set live s v, length-set counts (s / 256) n);
    prefixes = λ c le. prefix_set s v n c lt (omega (arith, le, length-set counts (s / 256) n)) e;
  }

  pub live_before : (s : ℕ) → s < length live
      → sum (take (s / 256) counts) + sum
      (take (s - s / 256 * 256) (drop (s / 256 * 256) live)) ≡ sum (take s live)
  live_before s lt =
      let start : ℕ = s / 256 * 256 in
      let whole : start + (s - start) ≡ s = omega arith in
      omega (
        arith,
        h.prefixes (s / 256) (omega (arith, at_chunk s lt)),
        sum_by-take-drop (λ x. x) (take s live) start,
        ap sum (take-take start s live (omega arith)),
        ap sum (ap (λ j. drop start (take j live)) (sym whole) ∙ drop-take start (s - start) live),
      )

  pub sum_small : (n : ℕ) → sum (take n live) < 2 ^ 32
  sum_small n = omega (arith, sum_by-take-le (λ x. x) live n, flags_sum live h.flags, h.small)

  -- the flags before a slot that share its count
  pub part_small : (s : ℕ) → sum (take (s - s / 256 * 256) (drop (s / 256 * 256) live)) < 2 ^ 8
  part_small s =
      omega (
        arith,
        sum_take_most (s - s / 256 * 256) (drop (s / 256 * 256) live)
            (flags_drop (s / 256 * 256) live h.flags),
      )
