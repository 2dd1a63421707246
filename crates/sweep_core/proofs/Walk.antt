-- The table is the configurations of all pairs, one pair after another.
use Rattle.std.proofs.Common.{◌≡◌, ℕ, suc, zero, ◌+◌, ◌-◌, ◌*◌, ◌/◌, ◌%◌, ◌^◌, ◌<◌, ◌≤◌, Bool, true}
use Rattle.std.proofs.Common.{false, ◌&&◌, List, [], ◌∷◌, ◌++◌, map, refl, sym, ap, ◌∙◌, arith}
use Rattle.std.proofs.Common.{Option, inl, inr, subst}
use Rattle.std.specs.Prelude.{filter, flat_map}
use Rattle.std.specs.List.{range_with_len, AllByRecursion as Each}
use Rattle.std.proofs.lemmas.Bool.{cases_lt, false_from_ne_true}
use Rattle.std.proofs.lemmas.List.Concat.{flat_map-append}
use Rattle.std.proofs.lemmas.List.Elements.{filter-append}
use Rattle.std.proofs.lemmas.List.Folds.{flat_map-map}
use Rattle.std.proofs.lemmas.Nat.{pow_pos}
use Rattle.std.proofs.Math.Pow.{pow_mono}
use Rattle.sweep_core.specs.declared.space.Config.{Config}
use Rattle.sweep_core.specs.declared.space.configs.PairRows.{PairRows}
use Rattle.sweep_core.specs.Space.{Ranges, config, is_valid}
use Rattle.cache_core.specs.Powers.{is_power}
use Rattle.sweep_core.specs.Table.{is_after, table, all_configs, numbers, powers_of_two}
use Rattle.sweep_core.specs.Work.{pair_of, has_pair}
use Rattle.sweep_core.specs.internal.Runs.{next_ways, ways_after, run_of, BeginsWith}
use Rattle.sweep_core.specs.internal.Walk.{pair_at, rows_of_pair, rows_from, HasRows}
use Rattle.sweep_core.proofs.Lists.{Each-flat_map, Each-filter, Each-weaker}
use Rattle.sweep_core.proofs.Pairs.{has_pair-is}
use Rattle.cache_core.proofs.PowersOfTwo.{is_power-pow}
use Rattle.sweep_core.proofs.Validity.{valid_of}
use Rattle.sweep_core.proofs.Ways.{after-step, after-more, pair-none}
use Rattle.sweep_core.proofs.Runs.{run-first}

-- the pairs of two lists of numbers
abbrev product : List ℕ → List ℕ → List (ℕ × ℕ)
product xs ys = flat_map (λ x. map (λ y. (x, y)) ys) xs

flat_map-product : {A : Type 0} (f : ℕ × ℕ → List A) (xs ys : List ℕ)
    → flat_map (λ x. flat_map (λ y. f (x, y)) ys) xs ≡ flat_map f (product xs ys)
flat_map-product f [] ys = refl
flat_map-product f (x ∷ xs) ys =
    ap (λ l. l ++ flat_map (λ x. flat_map (λ y. f (x, y)) ys) xs)
    (sym (flat_map-map f (λ y. (x, y)) ys))
    ∙ ap (λ l. flat_map f (map (λ y. (x, y)) ys) ++ l) (flat_map-product f xs ys) ∙
    sym (flat_map-append f (map (λ y. (x, y)) ys) (product xs ys))

filter-flat_map : {A B : Type 0} (p : B → Bool) (f : A → List B) (xs : List A) →
    filter p (flat_map f xs) ≡ flat_map (λ x. filter p (f x)) xs
filter-flat_map p f [] = refl
filter-flat_map p f (x ∷ xs) = filter-append p (f x) (flat_map f xs) ∙ ap (λ l. filter p (f x) ++ l)
    (filter-flat_map p f xs)

all-pairs : product powers_of_two powers_of_two ≡ map pair_at (range_with_len 0 441)
all-pairs = refl

table-walked : (space : Ranges) (after : Option Config) →
    table space after ≡ rows_from space after 0
unfolding table all_configs rows_from rows_of_pair
table-walked space after =
    let p : Config → Bool = λ c. is_valid space c && is_after after c in
    let ways : ℕ × ℕ → List Config = λ q. map (config q.0 q.1) (numbers space.assoc) in
    ap (filter p) (flat_map-product ways powers_of_two powers_of_two ∙
    ap (flat_map ways) all-pairs ∙ flat_map-map ways pair_at (range_with_len 0 441))
    ∙ filter-flat_map p (λ k. ways (pair_at k)) (range_with_len 0 441)

rows-end : (space : Ranges) (after : Option Config) (k : ℕ) → 441 ≤ k → rows_from space after k ≡ []
unfolding rows_from
rows-end space after k end = ap (λ n. flat_map (λ i. rows_of_pair space after (pair_at i))
    (range_with_len k n)) {x = 441 - k} {y = 0} (omega arith)

pub rows-step : (space : Ranges) (after : Option Config) (k : ℕ) → k < 441
    → rows_from space after k ≡ rows_of_pair space after (pair_at k) ++
    rows_from space after (k + 1)
unfolding rows_from
rows-step space after k less =
    ap (λ n. flat_map (λ i. rows_of_pair space after (pair_at i)) (range_with_len k n)) {x =
    441 - k} {y = suc (441 - (k + 1))} (omega arith)

-- a power up to a number is no greater than the greatest one
pub exponent-le : (i j : ℕ) {n : ℕ} → 2 ^ i ≤ n → n < 2 * 2 ^ j → i ≤ j
exponent-le i j low high =
    elim (cases_lt j i) [
      | inl less ↦ let m : 2 ^ suc j ≤ 2 ^ i = pow_mono less in
          absurd (omega arith)
      | inr more ↦ more
    ]

-- two indices of one pair are the same
same_pow : (i j : ℕ) → 2 ^ i ≡ 2 ^ j → i ≡ j
same_pow i j e =
    omega (
      arith,
      exponent-le i j {n = 2 ^ i} (omega arith) (omega (arith, pow_pos j)),
      exponent-le j i {n = 2 ^ i} (omega arith) (omega (arith, pow_pos i)),
    )

same_index : (i j : ℕ) → pair_at i ≡ pair_at j → i ≡ j
same_index i j e = let block = same_pow (i / 21) (j / 21) (ap (λ p. p.0) e) in
    let set = same_pow (i % 21) (j % 21) (ap (λ p. p.1) e) in omega arith

Each-range : (P : ℕ → Type 0) (k n : ℕ) → ((i : ℕ) → k ≤ i → P i) → Each P (range_with_len k n)
Each-range P k zero h = tt
Each-range P k (suc n) h = (h k (omega arith), Each-range P (k + 1) n (λ i le. h i (omega arith)))

of_pair : (p : ℕ × ℕ) (es : List ℕ) → Each (λ c. pair_of c ≡ p) (map (config p.0 p.1) es)
of_pair p [] = tt
of_pair p (e ∷ es) = (refl, of_pair p es)

-- no row of a later pair is of this one
pub rows-apart : (space : Ranges) (after : Option Config) (k i : ℕ) (c : Config) →
    pair_of c ≡ pair_at i → i < k
    → Each (λ d. has_pair (pair_of d) c ≡ false) (rows_from space after k)
unfolding rows_from rows_of_pair
rows-apart space after k i c is less =
    Each-flat_map _ (λ j. rows_of_pair space after (pair_at j)) (range_with_len k (441 - k))
    (Each-range _ k (441 - k) (λ j le.
    Each-filter _ (λ d. is_valid space d && is_after after d) _
    (Each-weaker (λ d. pair_of d ≡ pair_at j) _
    (λ d of. false_from_ne_true _ (λ same. absurd
    (omega (arith, less, le, same_index i j (sym is ∙ has_pair-is (pair_of d) c same ∙ of)))))
    _ (of_pair (pair_at j) (numbers space.assoc)))))

-- pairs that have none are left out
rows-skip : (space : Ranges) (after : Option Config) (k j : ℕ) →
    ((i : ℕ) → k ≤ i → i < k + j → rows_of_pair space after (pair_at i) ≡ [])
    → rows_from space after k ≡ rows_from space after (k + j)
rows-skip space after k zero none = ap (rows_from space after) (omega arith)
rows-skip space after k (suc j) none =
    elim (cases_lt k 441) [
      | inl less ↦ rows-step space after k less ∙ ap (λ l. l ++ rows_from space after (k + 1))
          (none k (omega arith) (omega arith))
          ∙ rows-skip space after (k + 1) j (λ i low high. none i (omega arith) (omega arith)) ∙
          ap (rows_from space after) (omega arith)
      | inr more ↦ rows-end space after k more ∙
          sym (rows-end space after (k + suc j) (omega arith))
    ]

-- after too many sets come more, up to those of the next block size
pub rows-beyond : (space : Ranges) (after : Option Config) (k : ℕ) → space.sets.1 < 2 ^ (k % 21)
    → rows_from space after k ≡ rows_from space after (k + (21 - k % 21))
rows-beyond space after k many =
    rows-skip space after k (21 - k % 21) (λ i low high. pair-none space after (pair_at i).0
    (pair_at i).1 (λ e valid _.
    let v = valid_of space (config (pair_at i).0 (pair_at i).1 e) valid in
    let more : 2 ^ (k % 21) ≤ 2 ^ (i % 21) = pow_mono (omega (arith, low, high)) in
    omega (arith, v.sets.1)))

-- before an index there is no pair in the ranges
pub rows-first : (space : Ranges) (after : Option Config) {first least : ℕ}
    → ((c : Config) → space.bsize.0 ≤ c.bsize → is_after after c ≡ true → least ≤ c.bsize)
    → ((k : ℕ) → least ≤ (pair_at k).0 → space.sets.0 ≤ (pair_at k).1 → first ≤ k) →
    rows_from space after first ≡ table space after
rows-first space after {first} block from =
    ap (rows_from space after) {x = first} {y = 0 + first} (omega arith)
    ∙ sym (table-walked space after ∙ rows-skip space after 0 first
    (λ i _ low. pair-none space after (pair_at i).0 (pair_at i).1 (λ e valid later.
    let c = config (pair_at i).0 (pair_at i).1 e in let v = valid_of space c valid in
    let up = from i (block c v.bsize.0 later) v.sets.0 in omega arith)))

-- nor after one
pub rows-last : (space : Ranges) (after : Option Config) (k : ℕ) {last : ℕ}
    → ((i : ℕ) → (pair_at i).0 ≤ space.bsize.1 → (pair_at i).1 ≤ space.sets.1 → i ≤ last) →
    last < k → rows_from space after k ≡ []
rows-last space after k greatest past =
    rows-skip space after k 441 (λ i later _. pair-none space after (pair_at i).0 (pair_at i).1
    (λ e valid _.
    let v = valid_of space (config (pair_at i).0 (pair_at i).1 e) valid in
    let to = greatest i v.bsize.1 v.sets.1 in omega arith))
    ∙ rows-end space after (k + 441) (omega arith)

module _ {k b s : ℕ} (less : k < 441) (block : b ≡ 2 ^ (k / 21)) (set : s ≡ 2 ^ (k % 21)) where
  pub powers : (is_power b ≡ true) × (is_power s ≡ true)
  powers = (
    ap is_power block ∙ is_power-pow (k / 21) (omega arith),
    ap is_power set ∙
        is_power-pow (k % 21) (omega arith),
  )

  is_pair : (b, s) ≡ pair_at k
  is_pair = ap (λ x. (x, s)) block ∙ ap (λ y. (2 ^ (k / 21), y)) set

  pub rows-none : (space : Ranges) (after : Option Config) → rows_of_pair space after (b, s) ≡ [] →
      rows_from space after k ≡ rows_from space after (k + 1)
  rows-none space after none =
      rows-step space after k less ∙ ap (λ l. l ++ rows_from space after (k + 1))
      (ap (rows_of_pair space after) (sym is_pair) ∙ none)

  pub rows-begin : {space : Ranges} {after : Option Config} {rows : PairRows} →
      HasRows space after (b, s) rows
      → BeginsWith space.powers (rows_from space after k) (rows.first, rows.count)
      (rows_from space after (k + 1))
  rows-begin {space} {after} {rows} has = record {
    some = has.some;
    whole = rows-step space after k less ∙ ap (λ l. l ++ rows_from space after (k + 1))
        (ap (rows_of_pair space after) (sym is_pair) ∙ has.whole);
    apart = rows-apart space after (k + 1) k rows.first (ap pair_of has.first ∙ is_pair)
        (omega arith);
  }

-- Where an iterator stands: some configurations of a pair are left, from the next one on, and then
-- those of later pairs.
pub record Stands (space : Ranges) (after : Option Config) (pair left : ℕ) (next : Config)
    (rows : List Config) : Type 0 where
  pub some : 1 ≤ left
  pub whole : rows ≡ run_of space.powers next left ++ rows_from space after pair
  pub fits : ways_after space.powers next.assoc left ≤ 2 ^ 63

module _ {space : Ranges} {after : Option Config} {pair left : ℕ} {next : Config}
    {rows : List Config} (s : Stands space after pair left next rows) where
  more : left ≡ suc (left - 1)
  more = omega (arith, s.some)

  pub step-fits : {ways : ℕ} → ways ≡ next_ways space.powers next.assoc →
      ways_after space.powers ways (left - 1) ≤ 2 ^ 63
  step-fits is =
      subst (λ (n : ℕ). n ≤ 2 ^ 63) (ap (ways_after space.powers next.assoc) more ∙
      after-step space.powers next.assoc (left - 1)
      ∙ ap (λ w. ways_after space.powers w (left - 1)) (sym is)) s.fits

  pub step-view : {ways : ℕ} → ways ≡ next_ways space.powers next.assoc
      → rows ≡ next ∷ run_of space.powers (record next { assoc = ways }) (left - 1) ++
      rows_from space after pair
  step-view is =
      s.whole ∙ ap (λ l. l ++ rows_from space after pair) (run-first space.powers next left
      (left - 1) more)
      ∙ ap (λ w. next ∷ run_of space.powers (record next { assoc = w }) (left - 1) ++
      rows_from space after pair) (sym is)

  pub powers-fit : next.assoc < 2 ^ 63
  powers-fit = below space.powers next.assoc
      (omega (
        arith,
        step-fits refl,
        after-more space.powers (next_ways space.powers next.assoc)
            (left - 1),
      ))
    where
      below : (powers : Bool) (n : ℕ) → next_ways powers n ≤ 2 ^ 63 → n < 2 ^ 63
      below true n h = omega arith
      below false n h = omega arith
