-- The rows of a pair, each with the next associativity.
use Rattle.std.proofs.Common.{◌≡◌, ℕ, suc, zero, ◌+◌, ◌-◌, ◌≤◌, ◌<◌, Bool, List, [], ◌∷◌, ◌++◌}
use Rattle.std.proofs.Common.{take, length, refl, sym, ap, ◌∙◌, arith, inl, inr, append-nil}
use Rattle.std.proofs.Common.{length-append}
use Rattle.std.specs.Prelude.{min}
use Rattle.std.specs.List.{AllByRecursion as Each}
use Rattle.std.proofs.lemmas.Bool.{cases_lt}
use Rattle.std.proofs.Math.Seq.{take-append-add}
use Rattle.std.proofs.lemmas.List.{take-append-le}
use Rattle.sweep_core.specs.declared.space.Config.{Config}
use Rattle.sweep_core.specs.Work.{pair_of}
use Rattle.sweep_core.specs.internal.Runs.{next_ways, run_of, BeginsWith}
use Rattle.sweep_core.proofs.Lists.{Each-take}

-- the configuration of the pair with the next associativity
abbrev pub next : Bool → Config → Config
next powers c = record c { assoc = next_ways powers c.assoc }

length-run : (powers : Bool) (c : Config) (n : ℕ) → length (run_of powers c n) ≡ n
length-run powers c zero = refl
length-run powers c (suc n) = omega (arith, length-run powers (next powers c) n)

take-run : (powers : Bool) (c : Config) (k n : ℕ) → k ≤ n →
    take k (run_of powers c n) ≡ run_of powers c k
take-run powers c zero n h = refl
take-run powers c (suc k) zero h = absurd (omega arith)
take-run powers c (suc k) (suc n) h =
    ap (λ l. c ∷ l) (take-run powers (next powers c) k n (omega arith))

-- the first k of a run and others
take-front : (powers : Bool) (c : Config) (n k : ℕ) (left : List Config)
    → take k (run_of powers c n ++ left) ≡ run_of powers c (min k n) ++ take (k - min k n) left
take-front powers c n k left =
    elim (cases_lt k n) [
      | inl less ↦
          let is : min k n ≡ k = omega arith in
          let none : k - min k n ≡ 0 = omega arith in
          take-append-le k (run_of powers c n) left (omega (arith, length-run powers c n)) ∙
          take-run powers c k n (omega arith)
          ∙ sym (append-nil (run_of powers c k)) ∙ ap (λ j. run_of powers c j ++ []) (sym is)
          ∙ ap (λ j. run_of powers c (min k n) ++ take j left) (sym none)
      | inr more ↦
          let is : min k n ≡ n = omega arith in
          let all : k ≡ length (run_of powers c n) + (k - min k n) =
          omega (arith, length-run powers c n) in
          ap (λ j. take j (run_of powers c n ++ left)) all ∙ take-append-add (run_of powers c n)
          left (k - min k n)
          ∙ ap (λ j. run_of powers c j ++ take (k - min k n) left) (sym is)
    ]

-- a run is its first configuration, and then a run from the next one
pub run-first : (powers : Bool) (c : Config) (n k : ℕ) → n ≡ suc k →
    run_of powers c n ≡ c ∷ run_of powers (next powers c) k
run-first powers c n k e = ap (run_of powers c) e

-- all are of one pair
pub run-pair : (powers : Bool) (c : Config) (n : ℕ) → Each (λ d. pair_of d ≡ pair_of c)
    (run_of powers c n)
run-pair powers c zero = tt
run-pair powers c (suc n) = (refl, run-pair powers (next powers c) n)

-- of rows that begin with a run at most so many
pub begins-some : {powers : Bool} {rows left : List Config} {run : Config × ℕ} →
    BeginsWith powers rows run left → (k : ℕ) → 1 ≤ k
    → BeginsWith powers (take k rows) (run.0, min k run.1) (take (k - min k run.1) left)
begins-some {powers = powers} {left = left} {run = run} b k some = record {
  some = omega (arith, b.some);
  whole = ap (take k) b.whole ∙ take-front powers run.0 run.1 k left;
  apart = Each-take _ (k - min k run.1) left b.apart;
}

-- those that are left are fewer
pub begins-shorter : {powers : Bool} {rows left : List Config} {run : Config × ℕ} →
    BeginsWith powers rows run left → length left < length rows
begins-shorter {powers = powers} {left = left} {run = run} b =
    omega (
      arith,
      ap length b.whole,
      length-append (run_of powers run.0 run.1) left,
      length-run powers run.0 run.1,
      b.some,
    )
