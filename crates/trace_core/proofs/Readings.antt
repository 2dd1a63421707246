-- The reading of a text by its first line.
use Rattle.std.proofs.Common.{◌≡◌, ℕ, suc, zero, ◌+◌, ◌<◌, ◌≤◌, Bool, true, false, cond, ltb, List}
use Rattle.std.proofs.Common.{[], ◌∷◌, ◌++◌, length, take, drop, get_or, None, Some, Err, refl, ap}
use Rattle.std.proofs.Common.{arith, rules, tests, length-append}
use Rattle.std.specs.List.{onto_first}
use Rattle.trace_core.specs.Lines.{is_line_feed, HoldsNoFeed, lines, line_feeds}
use Rattle.trace_core.specs.Reading.{reading_end, judgement, reading_with_line, read_lines}
use Rattle.trace_core.specs.Reading.{cut_fault, Ending, at_end, at_failure, reading_after}
use Rattle.trace_core.specs.Reading.{longest_line}
use Rattle.trace_core.specs.declared.line.Format.{Format}
use Rattle.trace_core.specs.declared.fault.TraceFault.{TraceFault}
use Rattle.trace_core.specs.declared.fault.TraceFault.TheVariants as fault

pub NoFeed-from_places : (u : List ℕ) →
    ((k : ℕ) → k < length u → is_line_feed (get_or u k 0) ≡ false) → HoldsNoFeed u
NoFeed-from_places [] h = tt
NoFeed-from_places (c ∷ cs) h =
    (h 0 (omega arith), NoFeed-from_places cs (λ k lt. h (suc k) (omega arith)))

pub lines-line : (u z : List ℕ) → HoldsNoFeed u → lines (u ++ 10 ∷ z) ≡ u ∷ lines z
lines-line [] z none = refl
lines-line (c ∷ cs) z none = rw (none.0, lines-line cs z none.1) refl

pub lines-last : (c : ℕ) (u : List ℕ) → HoldsNoFeed (c ∷ u) → lines (c ∷ u) ≡ (c ∷ u) ∷ []
lines-last c [] none = rw none.0 refl
lines-last c (d ∷ u) none = rw (none.0, lines-last d u none.1) refl

-- the first line begins with bytes that hold no LF
pub lines-front : (c : ℕ) (u z : List ℕ) → HoldsNoFeed (c ∷ u)
    → (v : List ℕ) × (more : List (List ℕ)) × (lines (c ∷ u ++ z) ≡ ((c ∷ u) ++ v) ∷ more)
lines-front c [] z none =
    elim (lines z) as (λ ls. (v : List ℕ) × (more : List (List ℕ)) ×
    (cond (is_line_feed c) ([] ∷ ls) (onto_first c ls) ≡ (c ∷ v) ∷ more))
    [ [] ↦ ([], [], rw none.0 refl) | l ∷ ls ↦ (l, ls, rw none.0 refl) ]
lines-front c (d ∷ u) z none =
    let first = lines-front d u z none.1 in
    (first.0, first.1, rw (none.0, first.2) refl)

pub lines-some : (c : ℕ) (z : List ℕ) → (v : List ℕ) × (more : List (List ℕ)) ×
    (lines (c ∷ z) ≡ v ∷ more)
lines-some c z = some_by (is_line_feed c) (lines z)
  where
    some_by : (b : Bool) (ls : List (List ℕ)) → (v : List ℕ) × (more : List (List ℕ)) ×
        (cond b ([] ∷ ls) (onto_first c ls) ≡ v ∷ more)
    some_by true ls = ([], ls, refl)
    some_by false [] = (c ∷ [], [], refl)
    some_by false (l ∷ ls) = (c ∷ l, ls, refl)

pub line_feeds-none : (u : List ℕ) → HoldsNoFeed u → line_feeds u ≡ 0
line_feeds-none [] none = refl
line_feeds-none (c ∷ cs) none = rw (none.0, line_feeds-none cs none.1) refl

pub line_feeds-line : (u z : List ℕ) → HoldsNoFeed u → line_feeds (u ++ 10 ∷ z) ≡ suc (line_feeds z)
line_feeds-line [] z none = refl
line_feeds-line (c ∷ cs) z none = rw (none.0, line_feeds-line cs z none.1) refl

module _ (f : Format) (limit : ℕ) where
  -- a whole line is judged, and then the later ones
  pub reading-line : (e : Ending) (n : ℕ) (u z : List ℕ) → HoldsNoFeed u
      → reading_after e f limit n (u ++ 10 ∷ z) ≡ reading_with_line (n + 1)
      (judgement f limit (n + 1) u) (reading_after e f limit (n + 1) z)
  reading-line at_end n u z none = rw (lines-line u z none) refl
  reading-line at_failure n u z none =
      let add : n + suc (line_feeds z) + 1 ≡ n + 1 + line_feeds z + 1 = omega arith in
      rw (lines-line u z none, line_feeds-line u z none, add) refl

  -- a text that ends within a line
  pub reading-last : (n c : ℕ) (u : List ℕ) → HoldsNoFeed (c ∷ u)
      → reading_after at_end f limit n (c ∷ u) ≡ reading_with_line (n + 1)
      (judgement f limit (n + 1) (c ∷ u)) (reading_end None)
  reading-last n c u none = rw (lines-last c u none) refl

  -- a failure within a line that is short, and within the limit if a byte of it came
  pub reading-failed : (n : ℕ) (u : List ℕ) → HoldsNoFeed u → length u ≤ longest_line →
      (0 < length u → n < limit)
      → reading_after at_failure f limit n u ≡ reading_end (Some (fault.Read (n + 1)))
  reading-failed n [] none short within = ap (λ k. reading_end (Some (fault.Read k)))
      (let e : n + 0 + 1 ≡ n + 1 = omega arith in e)
  reading-failed n (c ∷ u) none short within =
      let e : n + 0 + 1 ≡ n + 1 = omega arith in
      let in_limit : ltb limit (n + 1) ≡ false = search (rules, tests, within) in
      let in_length : ltb longest_line (length (c ∷ u)) ≡ false = search (rules, tests) in
      rw (lines-last c u none, line_feeds-none (c ∷ u) none, e, in_limit, in_length) refl

  -- a first line that is at fault, whole or cut off
  fault_first : (n k : ℕ) (v : List ℕ) (more : List (List ℕ)) (x : TraceFault) →
      judgement f limit (n + 1) v ≡ Err x
      → cut_fault limit (n + 1) (v ∷ []) ≡ x
      → read_lines f limit n (take k (v ∷ more))
      (reading_end (Some (cut_fault limit (n + k + 1) (drop k (v ∷ more))))) ≡ reading_end
      (Some x)
  fault_first n zero v more x judged cut =
      let e : n + 0 + 1 ≡ n + 1 = omega arith in
      rw (e, cut) refl
  fault_first n (suc k) v more x judged cut = rw judged refl

  reading-fault : (e : Ending) (n : ℕ) (text v : List ℕ) (more : List (List ℕ)) (x : TraceFault) →
      lines text ≡ v ∷ more
      → judgement f limit (n + 1) v ≡ Err x → cut_fault limit (n + 1) (v ∷ []) ≡ x
      → reading_after e f limit n text ≡ reading_end (Some x)
  reading-fault at_end n text v more x is judged cut = rw (is, judged) refl
  reading-fault at_failure n text v more x is judged cut =
      rw is (fault_first n (line_feeds text) v more x judged cut)

  -- a byte past the limit
  pub reading-past : (e : Ending) (n c : ℕ) (text : List ℕ) → limit ≤ n
      → reading_after e f limit n (c ∷ text) ≡ reading_end (Some (fault.TooManyLines limit))
  reading-past e n c text past =
      let first = lines-some c text in
      let over : ltb limit (n + 1) ≡ true = search (rules, tests) in
      reading-fault e n (c ∷ text) first.0 first.1 (fault.TooManyLines limit) first.2 (rw over refl)
      (rw over refl)

  -- too many bytes
  pub reading-long : (e : Ending) (n : ℕ) (u z : List ℕ) → HoldsNoFeed u → n < limit →
      longest_line < length u
      → reading_after e f limit n (u ++ z) ≡ reading_end (Some (fault.TooLong (n + 1)))
  reading-long e n [] z none within long = absurd (omega arith)
  reading-long e n (c ∷ u) z none within long =
      let first = lines-front c u z none in
      let in_limit : ltb limit (n + 1) ≡ false = search (rules, tests) in
      let over : ltb longest_line (length ((c ∷ u) ++ first.0)) ≡ true =
      search (rules, tests, length-append (c ∷ u) first.0) in
      reading-fault e n (c ∷ u ++ z) ((c ∷ u) ++ first.0) first.1 (fault.TooLong (n + 1)) first.2
      (rw (in_limit, over) refl) (rw (in_limit, over) refl)
