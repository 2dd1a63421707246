-- Chains of slots: a slot in front of a chain leaves the others on theirs.
use Rattle.std.proofs.Common.{◌≡◌, ℕ, zero, suc, ◌+◌, ◌*◌, ◌/◌, ◌%◌, ◌<◌, ◌≤◌, ◌^◌, inl}
use Rattle.std.proofs.Common.{inr, List, length, get_or, set, refl, sym, ◌∙◌, ap, subst}
use Rattle.std.proofs.Common.{arith, length-set, get_or-set_same, get_or-set_other}
use Rattle.std.specs.Prelude.{replicate}
use Rattle.std.proofs.Math.Nat.{mul-lt-mul_of_pos_right}
use Rattle.std.proofs.lemmas.Bool.{cases_eq}
use Rattle.deep_list.specs.Slots.{SlotsValue}
use Rattle.block_index.specs.Chains.{chain_of_block, IsAfter, IsOnChain}
use Rattle.deep_list.specs.Chains.{ChainsValue, AreChains, AreFiledFrom, IsFiled, with_slot}

-- numbers below 2^32, times n
pub spread_small : (m n : ℕ) → 1 ≤ n → m < 2 ^ 32 → m * n / 2 ^ 32 < n
spread_small m n some lt =
    let p : m * n < 2 ^ 32 * n = mul-lt-mul_of_pos_right lt some in
    omega (arith, p)

pub chain_small : (n x : ℕ) → 1 ≤ n → chain_of_block n x < n
chain_small n x some = spread_small (x * 0x9E37_79B9_7F4A_7C15 % 2 ^ 64 / 2 ^ 32) n some
    (omega arith)

pub zeros : (n k : ℕ) → get_or {A = ℕ} (replicate n 0) k 0 ≡ 0
zeros zero k = refl
zeros (suc n) zero = refl
zeros (suc n) (suc k) = zeros n k

pub same_all : (count n k : ℕ) → k < count → get_or {A = ℕ} (replicate count n) k 0 ≡ n
same_all zero n k lt = absurd (omega arith)
same_all (suc count) n zero lt = refl
same_all (suc count) n (suc k) lt = same_all count n k (omega arith)

pub same_most : (count n k : ℕ) → get_or {A = ℕ} (replicate count n) k 0 ≤ n
same_most zero n k = omega arith
same_most (suc count) n zero = omega arith
same_most (suc count) n (suc k) = same_most count n k

-- a chain that a changed slot is not on
pub after_set : (next : List ℕ) (n top t v : ℕ) → t < top →
    ((s : ℕ) → top ≤ s → s < n → top ≤ get_or next s 0)
    → (m a s : ℕ) → top ≤ a → IsAfter next n m a s → IsAfter (set next t v) n m a s
after_set next n top t v lt from zero a s le at = at
after_set next n top t v lt from (suc m) a s le (within, at) =
    let P : ℕ → Type 0 = λ b. IsAfter (set next t v) n m b s in (
      within,
      subst P (sym (get_or-set_other next t a v 0 (omega arith))) (after_set next n top t v lt from
          m (get_or next a 0) s (from a le within) at),
    )

module _ {top n : ℕ} {v : ChainsValue} (h : AreChains top n v) where
  -- what is on a chain comes later
  after_rises : (m a s : ℕ) → top ≤ a → IsAfter v.next n m a s → a ≤ s
  after_rises zero a s le same = omega (arith, same)
  after_rises (suc m) a s le (within, at) =
      let up = h.next_from a le within in
      omega (arith, up, after_rises m (get_or v.next a 0) s (omega (arith, le, up)) at)

  pub chain_rises : (a s : ℕ) → top ≤ a → IsOnChain v.next n a s → a ≤ s
  chain_rises a s le on = after_rises on.0 a s le on.1

module _ {top n : ℕ} {v : ChainsValue} (h : AreChains top n v) (t : ℕ) (next : t + 1 ≡ top)
    (lt : t < n) where
  pub chains_more : (k : ℕ) → k < length v.heads → AreChains t n (with_slot v t k)
  chains_more k within =
      let head : ℕ = get_or v.heads k 0 in
      let head_same = get_or-set_same v.heads k t 0 within in
      let next_same = get_or-set_same v.next t head 0 (omega (arith, h.long, lt)) in
      record {
        some = omega (arith, h.some, length-set v.heads k t);
        few = omega (arith, h.few, length-set v.heads k t);
        long = length-set v.next t head ∙ h.long;
        heads_from = λ j less. elim (cases_eq j k) [
          | inl same ↦ omega (arith, ap (λ i. get_or (set v.heads k t) i 0) same, head_same)
          | inr other ↦ omega (
            arith,
            get_or-set_other v.heads k j t 0 other,
            h.heads_from j (omega (arith, less, length-set v.heads k t)),
            next,
          )
        ];
        heads_within = λ j. elim (cases_eq j k) [
          | inl same ↦ omega (arith, ap (λ i. get_or (set v.heads k t) i 0) same, head_same, lt)
          | inr other ↦ omega (arith, get_or-set_other v.heads k j t 0 other, h.heads_within j)
        ];
        next_from = λ s le less. elim (cases_eq s t) [
          | inl same ↦ omega (
            arith,
            ap (λ i. get_or (set v.next t head) i 0) same,
            next_same,
            h.heads_from k within,
            next,
            same,
          )
          | inr other ↦ omega (
            arith,
            get_or-set_other v.next t s head 0 other,
            h.next_from s (omega (arith, le, other, next)) less,
            next,
          )
        ];
        next_within = λ s. elim (cases_eq s t) [
          | inl same ↦ omega (
            arith,
            ap (λ i. get_or (set v.next t head) i 0) same,
            next_same,
            h.heads_within k,
          )
          | inr other ↦ omega (arith, get_or-set_other v.next t s head 0 other, h.next_within s)
        ];
      }

  -- the slot in front
  more_here : (x : ℕ) → IsFiled (with_slot v t (chain_of_block (length v.heads) x)) x t
  more_here x =
      let k : ℕ = chain_of_block (length v.heads) x in (
        0,
        ap (λ m. get_or (set v.heads k t) (chain_of_block m x) 0) (length-set v.heads k t)
            ∙ get_or-set_same v.heads k t 0 (chain_small (length v.heads) x h.some),
      )

  -- the slots of the same chain, and of the others
  more_other : (k y s : ℕ) → k < length v.heads → IsFiled v y s → IsFiled (with_slot v t k) y s
  more_other k y s within (m, at) =
      let head : ℕ = get_or v.heads k 0 in
      let j : ℕ = chain_of_block (length v.heads) y in
      let next' : List ℕ = set v.next t head in
      let heads' : List ℕ = set v.heads k t in
      let from : (i : ℕ) → top ≤ i → i < length v.next → top ≤ get_or v.next i 0 =
      λ i le less. omega (arith, le, h.next_from i le (omega (arith, less, h.long))) in
      let kept : IsAfter next' (length v.next) m (get_or v.heads j 0) s =
      after_set v.next (length v.next) top t head (omega arith) from m (get_or v.heads j 0) s
      (h.heads_from j (chain_small (length v.heads) y h.some)) at in
      let L : ℕ → Type 0 = λ l. IsOnChain next' l (get_or heads' (chain_of_block (length heads') y)
      0) s in
      let P : ℕ → Type 0 = λ i. IsOnChain next' (length v.next) (get_or heads' (chain_of_block i y)
      0) s in
      let Q : ℕ → Type 0 = λ a. IsOnChain next' (length v.next) a s in
      let R : ℕ → Type 0 = λ b. IsAfter next' (length v.next) m b s in
      subst L (sym (length-set v.next t head))
      (subst P (sym (length-set v.heads k t)) (elim (cases_eq j k) [
        | inl same ↦ subst Q (sym (ap (λ i. get_or heads' i 0) same ∙
            get_or-set_same v.heads k t 0 within)) (
              suc m,
              (
                omega (arith, h.long, lt),
                subst R (ap (λ i. get_or v.heads i 0) same ∙
                    sym (get_or-set_same v.next t head 0 (omega (arith, h.long, lt)))) kept,
              ),
            )
        | inr other ↦ subst Q (sym (get_or-set_other v.heads k j t 0 other)) (m, kept)
      ]))

  pub filed_more : (slots : SlotsValue) → AreFiledFrom top v slots
      → AreFiledFrom t
      (with_slot v t (chain_of_block (length v.heads) (get_or slots.blocks t 0))) slots
  filed_more slots filed s le one =
      let x : ℕ = get_or slots.blocks t 0 in
      let k : ℕ = chain_of_block (length v.heads) x in
      let P : ℕ → Type 0 = λ i. IsFiled (with_slot v t k) (get_or slots.blocks i 0) i in
      elim (cases_eq s t) [
        | inl same ↦ subst P (sym same) (more_here x)
        | inr other ↦ more_other k (get_or slots.blocks s 0) s
            (chain_small (length v.heads) x h.some) (filed s (omega (arith, le, other, next)) one)
      ]
