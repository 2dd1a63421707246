-- Histograms whose numbers count by their index: one more at an index, and the sums that a reading
-- adds up.
use Rattle.std.proofs.Common.{◌≡◌, ℕ, zero, suc, ◌+◌, ◌*◌, ◌<◌, ◌≤◌, List, [], ◌∷◌, length, drop}
use Rattle.std.proofs.Common.{get_or, set, sum, refl, sym, ◌∙◌, ap, arith, add-one}
use Rattle.std.proofs.Math.Nat.{mul-suc, add-mul, mul-le-mul_left}
use Rattle.std.proofs.Math.Seq.{drop-cons}
use Rattle.std.proofs.lemmas.List.{get_or_read}
use Rattle.std.proofs.lemmas.List.Sums.{sum_by-cons, sum_by-set, get_or-le-sum_by}
use Rattle.std.specs.Prelude.{replicate}
use Rattle.profile_core.specs.internal.profile.StackProfile.{weighed}

pub raised_fits : (ns : List ℕ) (i n : ℕ) → i < length ns → n ≡ get_or ns i n → n ≤ sum ns
raised_fits ns i n lt read = omega (
  arith,
  get_or-le-sum_by (λ m. m) ns i 0 lt,
  get_or_read ns i n lt read 0,
)

weighed_at : (w : ℕ) (ns : List ℕ) (i more : ℕ) → i < length ns →
    weighed w (set ns i (get_or ns i 0 + more)) ≡ weighed w ns + more * (w + i)
unfolding weighed
weighed_at w [] i more lt = absurd (omega arith)
weighed_at w (n ∷ ns) zero more lt = omega (arith, add-mul n more w)
weighed_at w (n ∷ ns) (suc i) more lt =
    let rest = weighed_at (w + 1) ns i more (omega arith) in
    let same : more * (w + 1 + i) ≡ more * (w + suc i) = ap (λ k. more * k) (omega arith) in
    omega (arith, rest, same)

-- so many more at an index
pub weighed-raised : (w : ℕ) (ns : List ℕ) (i n more : ℕ) → i < length ns → n ≡ get_or ns i n →
    weighed w (set ns i (n + more)) ≡ weighed w ns + more * (w + i)
weighed-raised w ns i n more lt read = ap (λ m. weighed w (set ns i (m + more)))
    (get_or_read ns i n lt read 0) ∙ weighed_at w ns i more lt

pub sum-raised : (ns : List ℕ) (i n more : ℕ) → i < length ns → n ≡ get_or ns i n →
    sum (set ns i (n + more)) ≡ sum ns + more
sum-raised ns i n more lt read = omega (
  arith,
  sum_by-set (λ m. m) ns i (n + more) 0 lt,
  get_or_read ns i n lt read 0,
)

-- what is left of a histogram from index i on
pub weighed-next : (w : ℕ) (ns : List ℕ) (i : ℕ) → i < length ns →
    weighed w (drop i ns) ≡ get_or ns i 0 * w + weighed (w + 1) (drop (i + 1) ns)
unfolding weighed
weighed-next w ns i lt = ap (weighed w) (drop-cons ns i 0 lt) ∙
    ap (λ j. get_or ns i 0 * w + weighed (w + 1) (drop j ns)) (sym (add-one i))

pub weighed-none : (w : ℕ) → weighed w [] ≡ 0
unfolding weighed
weighed-none w = refl

-- indexes that are one more
pub weighed-more : (w : ℕ) (ns : List ℕ) → weighed (w + 1) ns ≡ weighed w ns + sum ns
unfolding weighed
weighed-more w [] = refl
weighed-more w (n ∷ ns) =
    let more : n * (w + 1) ≡ n * w + n = ap (λ m. n * m) (add-one w) ∙ mul-suc n w in
    omega (arith, more, weighed-more (w + 1) ns, sum_by-cons (λ m. m) n ns)

-- the weight of a histogram whose indexes are at most e
pub weighed-at_most : (w : ℕ) (ns : List ℕ) (e : ℕ) → w + length ns ≤ e + 1 →
    weighed w ns ≤ sum ns * e
unfolding weighed
weighed-at_most w [] e le = omega arith
weighed-at_most w (n ∷ ns) e le =
    let first : n * w ≤ n * e = mul-le-mul_left n (omega (arith, le)) in
    let both : sum (n ∷ ns) * e ≡ n * e + sum ns * e =
    ap (λ m. m * e) (sum_by-cons (λ m. m) n ns) ∙ add-mul n (sum ns) e in
    omega (arith, first, both, weighed-at_most (w + 1) ns e (omega (arith, le)))

-- numbers that are all 0
pub weighed-zeros : (w n : ℕ) → weighed w (replicate n 0) ≡ 0
unfolding weighed
weighed-zeros w zero = refl
weighed-zeros w (suc n) = let rest = weighed-zeros (w + 1) n in omega (arith, rest)

pub sum-zeros : (n : ℕ) → sum (replicate n 0) ≡ 0
sum-zeros zero = refl
sum-zeros (suc n) = sum-zeros n
