-- A reading by the judgements of its lines.
use Rattle.std.proofs.Common.{◌≡◌, ℕ, suc, zero, ◌+◌, Bool, true, false, cond, ltb, length, List}
use Rattle.std.proofs.Common.{[], ◌∷◌, take, drop, Option, None, Some, Result, Ok, Err, map, refl}
use Rattle.std.proofs.Common.{sym, ap, ◌∙◌, arith}
use Rattle.std.specs.Result.{IsOk, is_ok}
use Rattle.std.specs.List.{All, slice_get, filter_map, enumerate_from, prefix_len, slice_split}
use Rattle.std.specs.List.{onto_first}
use Rattle.std.proofs.lemmas.List.Elements.{All-nil, All-cons, All-head, All-tail}
use Rattle.trace_core.specs.Lines.{is_line_feed, lines, line_feeds, without_empty_last}
use Rattle.trace_core.specs.Line.{meaning}
use Rattle.trace_core.specs.Reading.{Reading, cut_reading, cut_fault, reading_end, judgement}
use Rattle.trace_core.specs.Reading.{reading_with_line, read_lines, numbered_entry, entry_in}
use Rattle.trace_core.specs.Reading.{longest_line}
use Rattle.trace_core.specs.declared.events.Entry.{Entry}
use Rattle.trace_core.specs.declared.line.Format.{Format}
use Rattle.trace_core.specs.declared.fault.TraceFault.{TraceFault}
use Rattle.trace_core.specs.declared.fault.TraceFault.TheVariants as fault
use Rattle.trace_core.proofs.Entries.{judged-ok}

-- one byte more in front of some pieces
pieces-cons : (feed : Bool) (c : ℕ) (pieces : List (List ℕ)) (x : List ℕ) (xs : List (List ℕ)) →
    pieces ≡ x ∷ xs
    → cond feed ([] ∷ without_empty_last pieces) (onto_first c (without_empty_last pieces))
    ≡ without_empty_last (cond feed ([] ∷ pieces) (onto_first c pieces))
pieces-cons true c pieces x xs is = rw is refl
pieces-cons false c pieces [] [] is = rw is refl
pieces-cons false c pieces (d ∷ x) [] is = rw is refl
pieces-cons false c pieces [] (y ∷ ys) is = rw is refl
pieces-cons false c pieces (d ∷ x) (y ∷ ys) is = rw is refl

some_pieces : (text : List ℕ) → (x : List ℕ) × (xs : List (List ℕ)) ×
    (slice_split is_line_feed text ≡ x ∷ xs)
some_pieces [] = ([], [], refl)
some_pieces (c ∷ text) = by_byte (is_line_feed c) (slice_split is_line_feed text)
  where
    by_byte : (feed : Bool) (pieces : List (List ℕ))
        → (x : List ℕ) × (xs : List (List ℕ)) ×
        (cond feed ([] ∷ pieces) (onto_first c pieces) ≡ x ∷ xs)
    by_byte true pieces = ([], pieces, refl)
    by_byte false [] = (c ∷ [], [], refl)
    by_byte false (piece ∷ pieces) = (c ∷ piece, pieces, refl)

pub lines-pieces : (text : List ℕ) → lines text ≡ without_empty_last (slice_split is_line_feed text)
lines-pieces [] = refl
lines-pieces (c ∷ text) =
    let some = some_pieces text in
    rw (lines-pieces text) (pieces-cons (is_line_feed c) c (slice_split is_line_feed text) some.0
    some.1 some.2)

abbrev Judgement : Type 0
Judgement = Result (Option Entry) TraceFault

-- the reading that some judgements give, where n lines come before and this after them
abbrev read_judged : ℕ → List Judgement → Reading → Reading
read_judged n [] last = last
read_judged n (r ∷ rs) last = reading_with_line (n + 1) r (read_judged (n + 1) rs last)

fault-some : (n : ℕ) (rs : List Judgement) (x : TraceFault) →
    (read_judged n rs (reading_end None)).fault ≡ Some x
    → (k : ℕ) × (slice_get rs k ≡ Some (Err x)) × All IsOk (take k rs)
fault-some n [] x h = absurd cc
fault-some n (Ok None ∷ rs) x h = let later = fault-some (n + 1) rs x h in
    (suc later.0, later.1, All-cons IsOk (Ok None) (take later.0 rs) refl later.2)
fault-some n (Ok (Some e) ∷ rs) x h =
    let later = fault-some (n + 1) rs x h in
    (suc later.0, later.1, All-cons IsOk (Ok (Some e)) (take later.0 rs) refl later.2)
fault-some n (Err y ∷ rs) x h = (0, cc, All-nil IsOk)

fault-none : (n : ℕ) (rs : List Judgement) → (read_judged n rs (reading_end None)).fault ≡ None →
    All IsOk rs
fault-none n [] h = All-nil IsOk
fault-none n (Ok None ∷ rs) h = All-cons IsOk (Ok None) rs refl (fault-none (n + 1) rs h)
fault-none n (Ok (Some e) ∷ rs) h = All-cons IsOk (Ok (Some e)) rs refl (fault-none (n + 1) rs h)
fault-none n (Err y ∷ rs) h = absurd cc

module _ (last : Reading) where
  some-fault : (n : ℕ) (rs : List Judgement) (x : TraceFault) (k : ℕ) →
      slice_get rs k ≡ Some (Err x) → All IsOk (take k rs)
      → (read_judged n rs last).fault ≡ Some x
  some-fault n [] x k is before = absurd cc
  some-fault n (Ok o ∷ rs) x zero is before = absurd cc
  some-fault n (Ok None ∷ rs) x (suc k) is before =
      some-fault (n + 1) rs x k is (All-tail IsOk (Ok None) (take k rs) before)
  some-fault n (Ok (Some e) ∷ rs) x (suc k) is before =
      some-fault (n + 1) rs x k is (All-tail IsOk (Ok (Some e)) (take k rs) before)
  some-fault n (Err y ∷ rs) x zero is before = cc
  some-fault n (Err y ∷ rs) x (suc k) is before = absurd (let ok : false ≡ true =
      All-head IsOk (Err y) (take k rs) before in cc)

  last-fault : (n : ℕ) (rs : List Judgement) → All IsOk rs →
      (read_judged n rs last).fault ≡ last.fault
  last-fault n [] all = refl
  last-fault n (Ok None ∷ rs) all = last-fault (n + 1) rs (All-tail IsOk (Ok None) rs all)
  last-fault n (Ok (Some e) ∷ rs) all = last-fault (n + 1) rs (All-tail IsOk (Ok (Some e)) rs all)
  last-fault n (Err y ∷ rs) all = absurd (let ok : false ≡ true = All-head IsOk (Err y) rs all in
      cc)

module _ (f : Format) (limit : ℕ) where
  abbrev pub judged : ℕ → List (List ℕ) → List Judgement
  judged n ls = map (λ x. judgement f limit x.0 x.1) (enumerate_from n ls)

  lines-judged : (n : ℕ) (ls : List (List ℕ)) (last : Reading) →
      read_lines f limit n ls last ≡ read_judged n (judged (n + 1) ls) last
  lines-judged n [] last = refl
  lines-judged n (line ∷ more) last =
      ap (reading_with_line (n + 1) (judgement f limit (n + 1) line))
      (lines-judged (n + 1) more last)

  -- the fault is the first error
  pub fault-first : (n : ℕ) (ls : List (List ℕ)) (x : TraceFault) →
      (read_lines f limit n ls (reading_end None)).fault ≡ Some x
      → (k : ℕ) × (slice_get (judged (n + 1) ls) k ≡ Some (Err x)) ×
      All IsOk (take k (judged (n + 1) ls))
  fault-first n ls x h = fault-some n (judged (n + 1) ls) x
      (ap (λ r. r.fault) (sym (lines-judged n ls (reading_end None))) ∙ h)

  pub first-fault : (n : ℕ) (ls : List (List ℕ)) (last : Reading) (x : TraceFault)
      → (k : ℕ) × (slice_get (judged (n + 1) ls) k ≡ Some (Err x)) ×
      All IsOk (take k (judged (n + 1) ls))
      → (read_lines f limit n ls last).fault ≡ Some x
  first-fault n ls last x first = ap (λ r. r.fault) (lines-judged n ls last) ∙
      some-fault last n (judged (n + 1) ls) x first.0 first.1 first.2

  -- there is none where all are right
  pub faultless-all : (n : ℕ) (ls : List (List ℕ)) →
      (read_lines f limit n ls (reading_end None)).fault ≡ None → All IsOk (judged (n + 1) ls)
  faultless-all n ls h = fault-none n (judged (n + 1) ls)
      (ap (λ r. r.fault) (sym (lines-judged n ls (reading_end None))) ∙ h)

  pub all-faultless : (n : ℕ) (ls : List (List ℕ)) (last : Reading) → All IsOk (judged (n + 1) ls) →
      (read_lines f limit n ls last).fault ≡ last.fault
  all-faultless n ls last all = ap (λ r. r.fault) (lines-judged n ls last) ∙
      last-fault last n (judged (n + 1) ls) all

  -- the judgements of the first lines
  judged-take : (n k : ℕ) (ls : List (List ℕ)) → judged n (take k ls) ≡ take k (judged n ls)
  judged-take n zero ls = refl
  judged-take n (suc k) [] = refl
  judged-take n (suc k) (line ∷ more) = ap (λ rs. judgement f limit n line ∷ rs)
      (judged-take (n + 1) k more)

  -- of the lines whose LF came, the first at fault tells the fault of a failed device
  pub cut-first : (text : List ℕ) (x : TraceFault) (k : ℕ) →
      slice_get (take (line_feeds text) (judged 1 (lines text))) k ≡ Some (Err x)
      → All IsOk (take k (take (line_feeds text) (judged 1 (lines text)))) →
      (cut_reading f limit text).fault ≡ Some x
  cut-first text x k is before =
      let same = judged-take 1 (line_feeds text) (lines text) in
      first-fault 0 (take (line_feeds text) (lines text)) _ x (k, rw same is, rw same before)

  -- and else the piece after the last LF
  pub cut-last : (text : List ℕ) → All IsOk (take (line_feeds text) (judged 1 (lines text)))
      → (cut_reading f limit text).fault ≡ Some (cut_fault limit (line_feeds text + 1)
      (drop (line_feeds text) (lines text)))
  cut-last text all =
      let same = judged-take 1 (line_feeds text) (lines text) in
      let count : 0 + line_feeds text + 1 ≡ line_feeds text + 1 = omega arith in
      all-faultless 0 (take (line_feeds text) (lines text)) _ (rw same all) ∙
      ap (λ n. Some (cut_fault limit n (drop (line_feeds text) (lines text)))) count

  -- the entries are those of the lines before the fault, however the reading ends behind the lines
  pub entries-before : (n : ℕ) (ls : List (List ℕ)) (last : Option TraceFault) →
      (read_lines f limit n ls (reading_end last)).entries
      ≡ filter_map (numbered_entry f) (take (prefix_len is_ok (judged (n + 1) ls))
      (enumerate_from (n + 1) ls))
  entries-before n [] last = refl
  entries-before n (line ∷ more) last =
      by_case (judgement f limit (n + 1) line)
      (λ o h. judged-ok (n + 1) (ltb limit (n + 1)) (ltb longest_line (length line))
      (fault.TooManyLines limit) (fault.TooLong (n + 1)) (meaning f line) o h)
      (entries-before (n + 1) more last)
    where
      before : List (ℕ × List ℕ)
      before = take (prefix_len is_ok (judged (n + 1 + 1) more)) (enumerate_from (n + 1 + 1) more)

      more_before : 1 + prefix_len is_ok (judged (n + 1 + 1) more) ≡ suc (prefix_len is_ok
          (judged (n + 1 + 1) more))
      more_before = omega arith

      by_case : (r : Judgement) → ((o : Option Entry) → r ≡ Ok o → entry_in (meaning f line) ≡ o)
          → (read_lines f limit (n + 1) more (reading_end last)).entries ≡ filter_map
          (numbered_entry f) before
          → (reading_with_line (n + 1) r (read_lines f limit (n + 1) more
          (reading_end last))).entries
          ≡ filter_map (numbered_entry f)
          (take (cond (is_ok r) (1 + prefix_len is_ok (judged (n + 1 + 1) more)) 0)
          ((n + 1, line) ∷ enumerate_from (n + 1 + 1) more))
      by_case (Ok None) means later = rw (more_before, means None refl) later
      by_case (Ok (Some entry)) means later = rw (more_before, means (Some entry) refl)
          (ap (λ es. (n + 1, entry) ∷ es) later)
      by_case (Err x) means later = refl

  -- before a cut they are those of the lines whose LF came
  pub entries-before_cut : (text : List ℕ) → (cut_reading f limit text).entries
      ≡ filter_map (numbered_entry f)
      (take (prefix_len is_ok (take (line_feeds text) (judged 1 (lines text))))
      (enumerate_from 1 (take (line_feeds text) (lines text))))
  entries-before_cut text =
      let whole = take (line_feeds text) (lines text) in
      entries-before 0 whole (Some (cut_fault limit (0 + line_feeds text + 1)
      (drop (line_feeds text) (lines text))))
      ∙ ap (λ rs. filter_map (numbered_entry f)
      (take (prefix_len is_ok rs) (enumerate_from 1 whole))) (judged-take 1 (line_feeds text)
      (lines text))
