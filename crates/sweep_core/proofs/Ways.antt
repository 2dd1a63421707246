-- The associativities with which a space has configurations of a pair: those between two numbers
-- that are allowed, each the next one.
use Rattle.std.proofs.Common.{◌≡◌, ℕ, suc, zero, ◌+◌, ◌-◌, ◌*◌, ◌/◌, ◌^◌, ◌<◌, ◌≤◌, max, Bool, true}
use Rattle.std.proofs.Common.{false, not, ◌&&◌, ◌||◌, leb, refl, sym, ap, ◌∙◌, arith, Option, None}
use Rattle.std.proofs.Common.{inl, inr, [], ◌∷◌, map}
use Rattle.std.specs.Prelude.{min, filter}
use Rattle.std.specs.Int.{div_ceil, IsPowerOfTwo}
use Rattle.std.specs.List.{range_with_len}
use Rattle.std.proofs.lemmas.Bool.{cases_lt, false≢true, false_from_ne_true, and_parts, and_from}
use Rattle.std.proofs.lemmas.Bool.{cond-true, cond-false, leb-true, le-leb}
use Rattle.std.proofs.lemmas.Nat.{le-div, pow-add, pow_pos}
use Rattle.std.proofs.Math.Pow.{pow_mono}
use Rattle.std.proofs.lemmas.Grind.{div_ceil_times}
use Rattle.std.proofs.Math.Nat.{mul-le-mul, mul-le-mul_left, mul-le-mul_right, add-mul, mul_comm}
use Rattle.std.proofs.Math.Nat.{div-mul-le_self, mul_assoc}
use Rattle.sweep_core.specs.declared.space.Config.{Config}
use Rattle.sweep_core.specs.Space.{Ranges, is_in_range, is_valid, space_fault, config}
use Rattle.cache_core.specs.Powers.{is_power, log2}
use Rattle.sweep_core.specs.internal.Runs.{next_ways, ways_after, run_of}
use Rattle.sweep_core.specs.declared.space.configs.Ways.{Ways}
use Rattle.sweep_core.specs.Table.{is_after, numbers}
use Rattle.sweep_core.specs.internal.Walk.{IsAllowed, NoWays, AreWays, HasRows, rows_of_pair}
use Rattle.sweep_core.proofs.Lists.{filter-none}
use Rattle.cache_core.proofs.PowersOfTwo.{power-of, power-floor, is_power-pow, is_power-of}
use Rattle.cache_core.proofs.PowersOfTwo.{below-64, next_power-least, log2-pow}
use Rattle.sweep_core.proofs.Validity.{Within, IsLimited, space-limited, in_range-within}
use Rattle.sweep_core.proofs.Validity.{is_in_range-from, valid_of, is_valid-from, implied, implies}

-- two tests that hold where the other does
same_tests : (p q : Bool) → (p ≡ true → q ≡ true) → (q ≡ true → p ≡ true) → p ≡ q
same_tests true q h k = sym (h refl)
same_tests false true h k = k refl
same_tests false false h k = refl

-- a pair in the ranges of a space
pub record IsOfSpace (space : Ranges) (b s : ℕ) : Type 0 where
  pub limits : IsLimited space
  pub block : Within space.bsize b
  pub set : Within space.sets s
  pub block_power : is_power b ≡ true
  pub set_power : is_power s ≡ true

pub of_space : {space now : Ranges} {b s : ℕ} → space ≡ now → space_fault space ≡ None →
    is_in_range now.bsize b ≡ true → is_in_range now.sets s ≡ true
    → is_power b ≡ true → is_power s ≡ true → IsOfSpace space b s
of_space {space} {now} {b} {s} same sound block set block_power set_power = record {
  limits = space-limited space sound;
  block = in_range-within _ _ (ap (λ r. is_in_range r.bsize b) same ∙ block);
  set = in_range-within _ _ (ap (λ r. is_in_range r.sets s) same ∙ set);
  block_power = block_power;
  set_power = set_power;
}

module _ {space : Ranges} {b s : ℕ} (p : IsOfSpace space b s) where
  pub some_sets : 0 < s
  some_sets = omega (arith, p.set.0, p.limits.sets.0)

  pub pair_some : 0 < b * s
  pair_some =
      let one = mul-le-mul {n₁ = 1} {m₁ = 1} {n₂ = b} {m₂ =
      s} (omega (arith, p.block.0, p.limits.bsize.0))
      (omega (arith, p.set.0, p.limits.sets.0)) in
      omega arith

  pub pair_fits : b * s < 2 ^ 64
  pair_fits =
      let most = mul-le-mul {n₁ = b} {m₁ = s} {n₂ = 1048576} {m₂ = 1048576}
      (omega (arith, p.block.1, p.limits.bsize.1))
      (omega (arith, p.set.1, p.limits.sets.1)) in
      omega arith

  pub few_ways : space.assoc.1 ≤ 65536
  few_ways = p.limits.assoc.1

  -- the associativities that the range, the size and the limit on lines allow
  pub ways-valid : {low high m n : ℕ} (e : ℕ) → n ≡ div_ceil space.size.0 (b * s) →
      low ≡ max space.assoc.0 n
      → m ≡ min space.assoc.1 (4194304 / s) → high ≡ min m (space.size.1 / (b * s))
      → is_valid space (config b s e) ≡ (is_in_range (low, high) e &&
      (not space.powers || is_power e))
  ways-valid {low} {high} e ceil least room most = same_tests _ _ (λ h.
      let v = valid_of space (config b s e) h in
      let up : div_ceil space.size.0 (b * s) ≤ e =
      elim (cases_lt e (div_ceil space.size.0 (b * s))) [
        | inl less ↦ let m : (e + 1) * (b * s) ≤ div_ceil space.size.0 (b * s) * (b * s) =
            mul-le-mul_right (b * s) (omega arith) in
            absurd (omega (
              arith,
              v.size.0,
              div_ceil_times space.size.0 (b * s) pair_some,
              mul_comm (b * s) e,
              add-mul e 1 (b * s),
            ))
        | inr more ↦ more
      ] in
      let lines = le-div e 4194304 s some_sets (omega (arith, v.lines)) in
      let size = le-div e space.size.1 (b * s) pair_some
      (omega (arith, v.size.1, mul_comm (b * s) e)) in
      and_from _ _ (is_in_range-from (low, high) e (
        omega (arith, ceil, least, up, v.assoc.0),
        omega (arith, room, most, lines, size, v.assoc.1),
      ))
      (implies _ _ v.way_power))
      (λ h.
      let w = and_parts _ _ h in
      let i : Within (low, high) e = in_range-within _ _ w.0 in
      let up : div_ceil space.size.0 (b * s) * (b * s) ≤ e * (b * s) =
      mul-le-mul_right (b * s) (omega (arith, ceil, least, i.0)) in
      let size : e * (b * s) ≤ space.size.1 / (b * s) * (b * s) =
      mul-le-mul_right (b * s) (omega (arith, most, i.1)) in
      let lines : e * s ≤ 4194304 / s * s = mul-le-mul_right s (omega (arith, room, most, i.1)) in
      is_valid-from space (config b s e) (record {
        bsize = p.block;
        sets = p.set;
        assoc = (omega (arith, least, i.0), omega (arith, room, most, i.1));
        size = (
          omega (arith, up, div_ceil_times space.size.0 (b * s) pair_some, mul_comm (b * s) e),
          omega (arith, size, div-mul-le_self space.size.1 (b * s), mul_comm (b * s) e),
        );
        block_power = p.block_power;
        set_power = p.set_power;
        way_power = implied _ _ w.1;
        lines = omega (arith, lines, div-mul-le_self 4194304 s);
      }))

-- associativities grow
pub next-more : (powers : Bool) (n : ℕ) → 1 ≤ n → n < next_ways powers n
next-more true n h = omega arith
next-more false n h = omega arith

after-none : (powers : Bool) (n : ℕ) → ways_after powers n 0 ≡ n
after-none true n = omega arith
after-none false n = omega arith

pub after-step : (powers : Bool) (n k : ℕ) → ways_after powers n (suc k) ≡ ways_after powers
    (next_ways powers n) k
after-step true n k = let double : 2 ^ suc k ≡ 2 * 2 ^ k = omega arith in
    ap (λ p. n * p) double ∙ sym (mul_assoc n 2 (2 ^ k))
after-step false n k = omega arith

pub after-more : (powers : Bool) (n k : ℕ) → n ≤ ways_after powers n k
after-more true n k = let m : n * 1 ≤ n * 2 ^ k = mul-le-mul_left n (pow_pos k) in omega arith
after-more false n k = omega arith

-- the next power is a power
next-counts : (powers : Bool) (n : ℕ) → n < 2 ^ 62 → IsAllowed powers n →
    IsAllowed powers (next_ways powers n)
next-counts true n fits power h =
    let k = power-of n (power h) in
    let e : n * 2 ≡ 2 ^ suc k.0 = omega (arith, k.2) in
    ap is_power e ∙ is_power-pow (suc k.0) (below-64 (n * 2) (suc k.0) (omega arith) e)
next-counts false n fits power h = absurd (false≢true h)

-- none that counts lies between
gap : (powers : Bool) (n m : ℕ) → IsAllowed powers n → IsAllowed powers m → n < m →
    m < next_ways powers n → ⊥
gap true n m p q more less =
    let k = power-of n (p refl) in
    let top : m ≤ 2 ^ k.0 = power-floor m k.0 m (omega (arith, k.2)) (q refl) (omega arith) in
    omega (arith, k.2)
gap false n m p q more less = omega arith

-- from f on those that pass are n that follow one another
abbrev Follow : (ℕ → Bool) → Bool → ℕ → ℕ → Type 0
Follow q powers f zero = (e : ℕ) → f ≤ e → q e ≡ false
Follow q powers f (suc n) = (q f ≡ true) × ((e : ℕ) → f < e → e < next_ways powers f →
    q e ≡ false) × Follow q powers (next_ways powers f) n

-- those that count, from the first on up to a number
follow : (q : ℕ → Bool) (powers : Bool) (f most n : ℕ) →
    ((e : ℕ) → f ≤ e → e ≤ most → IsAllowed powers e → q e ≡ true)
    → ((e : ℕ) → q e ≡ true → (e ≤ most) × IsAllowed powers e) → 1 ≤ f → most < 2 ^ 62 →
    IsAllowed powers f
    → ((k : ℕ) → k < n → ways_after powers f k ≤ most) → most < ways_after powers f n →
    Follow q powers f n
follow q powers f most zero passes only some small counts within whole =
    λ e from. false_from_ne_true _
    (λ h. absurd (omega (arith, whole, after-none powers f, (only e h).0)))
follow q powers f most (suc n) passes only some small counts within whole =
    let low : f ≤ most = omega (arith, within 0 (omega arith), after-none powers f) in
    let more = next-more powers f some in (
      passes f (omega arith) low counts,
      λ e from less. false_from_ne_true _ (λ h. gap powers f e counts (only e h).1 from less),
      follow q powers (next_ways powers f) most n (λ e from. passes e (omega arith)) only
          (omega arith) small (next-counts powers f (omega arith) counts)
          (λ k less. omega (arith, after-step powers f k, within (suc k) (omega arith)))
          (omega (arith, whole, after-step powers f n)),
    )

-- they are what a filter keeps of the numbers from a on
pub kept-run : (p : Config → Bool) (powers : Bool) (b s len a f n : ℕ) → a ≤ f → 1 ≤ f →
    ((e : ℕ) → a ≤ e → e < f → p (config b s e) ≡ false)
    → Follow (λ e. p (config b s e)) powers f n → ((e : ℕ) → p (config b s e) ≡ true → e < a + len)
    → filter p (map (config b s) (range_with_len a len)) ≡ run_of powers (config b s f) n
kept-run p powers b s zero a f zero from some none run within = refl
kept-run p powers b s zero a f (suc n) from some none run within =
    absurd (omega (arith, within f run.0))
kept-run p powers b s (suc len) a f n from some none run within =
    elim (cases_lt a f) [
      | inl less ↦ cond-false _ _ _ (none a (omega arith) less)
          ∙ kept-run p powers b s len (a + 1) f n (omega arith) some (λ e low. none e (omega arith))
          run (λ e h. omega (arith, within e h))
      | inr here ↦ first n run {a = a} (omega arith) (λ e h. omega (arith, within e h))
          (λ k m. kept-run p powers b s len (a + 1) k m)
    ]
  where
    first : (m : ℕ) → Follow (λ e. p (config b s e)) powers f m → {a : ℕ} → a ≡ f →
        ((e : ℕ) → p (config b s e) ≡ true → e < (a + 1) + len)
        → ((k m : ℕ) → a + 1 ≤ k → 1 ≤ k →
        ((e : ℕ) → a + 1 ≤ e → e < k → p (config b s e) ≡ false) →
        Follow (λ e. p (config b s e)) powers k m
        → ((e : ℕ) → p (config b s e) ≡ true → e < (a + 1) + len)
        → filter p (map (config b s) (range_with_len (a + 1) len)) ≡ run_of powers (config b s k) m)
        → filter p (map (config b s) (range_with_len a (suc len))) ≡ run_of powers (config b s f) m
    first zero run {a} same within rest =
        cond-false _ _ _ (run a (omega arith))
        ∙ rest (a + 1) 0 (omega arith) (omega arith) (λ e low high. absurd (omega arith))
        (λ e low. run e (omega arith)) within
    first (suc m) run {a} same within rest =
        cond-true _ _ _ (ap (λ e. p (config b s e)) same ∙ run.0)
        ∙ ap (λ e. config b s e ∷ filter p (map (config b s) (range_with_len (a + 1) len))) same
        ∙ ap (λ l. config b s f ∷ l) (rest (next_ways powers f) m
        (omega (arith, next-more powers f some)) (omega (arith, next-more powers f some))
        (λ e low high. run.1 e (omega arith) high) run.2 within)

-- a pair has no row where no associativity gives one
pub pair-none : (space : Ranges) (after : Option Config) (b s : ℕ)
    → ((e : ℕ) → is_valid space (config b s e) ≡ true → is_after after (config b s e) ≡ true → ⊥) →
    rows_of_pair space after (b, s) ≡ []
unfolding rows_of_pair
pair-none space after b s none =
    filter-none (λ c. is_valid space c && is_after after c) (config b s)
    (λ e. false_from_ne_true _ (λ h. let w = and_parts _ _ h in none e w.0 w.1))
    (numbers space.assoc)

-- the rows of a pair, by the associativities that are left for it
module _ (space : Ranges) (b s : ℕ) {low high lowest : ℕ} (least : ℕ) (after : Option Config)
    (is : lowest ≡ max low least)
    (valid : (e : ℕ) → is_valid space (config b s e) ≡ (is_in_range (low, high) e &&
    (not space.powers || is_power e)))
    (later : (e : ℕ) → is_after after (config b s e) ≡ leb least e) (some : 1 ≤ low)
    (few : high < 2 ^ 17) where
  abbrev passes : Config → Bool
  passes c = is_valid space c && is_after after c

  only : (e : ℕ) → passes (config b s e) ≡ true → (lowest ≤ e) ×
      (e ≤ high) × IsAllowed space.powers e
  only e h =
      let w = and_parts _ _ h in let v = and_parts _ _ (sym (valid e) ∙ w.0) in
      let i : Within (low, high) e = in_range-within _ _ v.0 in
      (omega (arith, is, i.0, leb-true least e (sym (later e) ∙ w.1)), i.1, implied _ _ v.1)

  all : (e : ℕ) → low ≤ e → e ≤ high → IsAllowed space.powers e →
      is_valid space (config b s e) ≡ true
  all e from to counts = valid e ∙ and_from _ _ (is_in_range-from (low, high) e (from, to))
      (implies _ _ counts)

  pub rows-none : NoWays lowest high space.powers → rows_of_pair space after (b, s) ≡ []
  rows-none none = pair-none space after b s (λ e v a. let w = only e (and_from _ _ v a) in
      none e w.0 w.1 w.2)

  module _ {w : Ways} (ways : AreWays lowest high space.powers w) where
    within : w.first ≤ high
    within = omega (
      arith,
      ways.within 0 (omega (arith, ways.some)),
      after-none space.powers w.first,
    )

    last-within : (w.first ≤ w.last) × (w.last ≤ high)
    last-within = (
      omega (arith, ways.last, after-more space.powers w.first (w.count - 1)),
      omega (arith, ways.last, ways.within (w.count - 1) (omega (arith, ways.some))),
    )

    pub rows-some : HasRows space after (b, s) (record {
      first = config b s w.first;
      count =
          w.count;
      depth = w.last;
    })
    unfolding rows_of_pair
    rows-some =
        let first = all w.first (omega (arith, is, ways.from)) within ways.first in
        let range = (valid_of space (config b s w.first) first).assoc in
        record {
          deep = record {
            valid = first;
            reached = all w.last (omega (arith, is, ways.from, last-within.0)) last-within.1
                ways.deepest;
            greatest = λ e h. let v = and_parts _ _ (sym (valid e) ∙ h) in
                ways.greatest e (in_range-within (low, high) e v.0).1 (implied _ _ v.1);
          };
          some = ways.some;
          first = refl;
          fits = omega (arith, few, ways.fits);
          whole = kept-run passes space.powers b s _ space.assoc.0 w.first w.count
              (omega (arith, range.0)) (omega (arith, is, some, ways.from))
              (λ e from less. false_from_ne_true _ (λ h. let o = only e h in
              absurd (omega (arith, less, ways.least e o.0 o.2))))
              (follow (λ e. passes (config b s e)) space.powers w.first high w.count
              (λ e from to counts. and_from _ _ (all e (omega (arith, is, from, ways.from)) to
              counts) (later e
              ∙ le-leb least e (omega (arith, is, from, ways.from))))
              (λ e h. let o = only e h in (o.1, o.2)) (omega (arith, is, some, ways.from))
              (omega (arith, few)) ways.first ways.within ways.whole)
              (λ e h. let r = (valid_of space (config b s e) (and_parts _ _ h).0).assoc in
              omega (arith, r.0, r.1));
        }

-- no power of two stands between two numbers where the greatest up to the one is below the least
-- from the other on
pub ways-none : (powers : Bool) (lowest most first k : ℕ) → powers ≡ true → IsPowerOfTwo first →
    first / 2 < max 1 lowest → most < 2 * 2 ^ k → 2 ^ k < first
    → NoWays lowest most powers
ways-none powers lowest most first k is power least above apart e low high counts =
    omega (
      arith,
      next_power-least lowest first e power least low (counts is),
      power-floor most k e above (counts is) high,
    )

-- the exponents of two powers of two
pub exponents : (first last k : ℕ) (power : IsPowerOfTwo first) → last ≡ 2 ^ k →
    k < 64 → first ≤ last
    → (log2 first ≡ power.0) × (log2 last ≡ k) × (power.0 ≤ k)
exponents first last k power top small le =
    let up : power.0 ≤ k = elim (cases_lt k power.0) [
      | inl less ↦ let more : 2 ^ suc k ≤ 2 ^ power.0 = pow_mono less in
          absurd (omega (arith, power.1, pow_pos k))
      | inr more ↦ more
    ] in (
      ap log2 power.1 ∙ log2-pow power.0 (omega (arith, up, small)),
      ap log2 top ∙
          log2-pow k small,
      up,
    )

pub ways-powers : (powers : Bool) (lowest most first last count k : ℕ) → powers ≡ true →
    most < 2 ^ 17 → IsPowerOfTwo first → lowest ≤ first
    → first / 2 < max 1 lowest → last ≡ 2 ^ k → k < 64 → 2 ^ k ≤ most → most < 2 * 2 ^ k →
    first ≤ last → count ≡ log2 last - log2 first + 1
    → AreWays lowest most powers (record { first = first; last = last; count = count })
ways-powers false lowest most first last count k is few power from least top small below above le
    counted = absurd (false≢true is)
ways-powers true lowest most first last count k is few power from least top small below
    above le counted =
    let j = power.0 in
    let logs = exponents first last k power top small le in
    let after : (i : ℕ) → first * 2 ^ i ≡ 2 ^ (j + i) = λ i. ap (λ n. n * 2 ^ i) power.1 ∙
    sym (pow-add 2 j i) in
    let end : first * 2 ^ count ≡ 2 * 2 ^ k = after count ∙ ap (λ i. 2 ^ i) {x = j + count} {y =
    suc k} (omega (arith, counted, logs.0, logs.1, logs.2))
    ∙ omega arith in
    record {
      some = omega (arith, counted);
      from = from;
      first = λ _. is_power-of first power (omega arith);
      least = λ e low counts. next_power-least lowest first e power least low (counts refl);
      within = λ i less. let within : 2 ^ (j + i) ≤ 2 ^ k =
          pow_mono (omega (arith, counted, less, logs.0, logs.1, logs.2)) in omega (arith, after i);
      whole = omega (arith, end);
      last = after (count - 1) ∙ ap (λ i. 2 ^ i) {x = j + (count - 1)} {y =
          k} (omega (arith, counted, logs.0, logs.1, logs.2)) ∙ sym top;
      deepest = λ _. ap is_power top ∙ is_power-pow k small;
      greatest = λ e high counts. omega (arith, power-floor most k e above (counts refl) high);
      fits = omega (arith, end);
    }
