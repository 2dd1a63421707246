-- The steps of a scan, by the answers of its calls.
use Rattle.std.proofs.Common.{◌≡◌, ℕ, ◌+◌, ◌<◌, ◌≤◌, false, ltb, List, [], ◌∷◌, ◌++◌, length, take}
use Rattle.std.proofs.Common.{drop, get_or, Option, None, Some, Result, Ok, Err, refl, sym, ap, ◌∙◌}
use Rattle.std.proofs.Common.{subst, arith, rules, tests}
use Rattle.std.specs.Io.KnownBytes.{IsAtEnd}
use Rattle.std.proofs.lemmas.Bool.{eqb-true}
use Rattle.std.proofs.lemmas.List.{drop_more, take-append-drop, get_or-take, length-take-le}
use Rattle.memchr.specs.Find.{IsFirstByte, is_byte}
use Rattle.trace_core.specs.Lines.{is_line_feed, HoldsNoFeed}
use Rattle.trace_core.specs.Line.{meaning}
use Rattle.trace_core.specs.Reading.{judgement, with_line, reading_end, reading_after, Ending}
use Rattle.trace_core.specs.Reading.{longest_line}
use Rattle.trace_core.specs.Reader.{Progress, Advances}
use Rattle.trace_core.specs.declared.events.Entry.{Entry}
use Rattle.trace_core.specs.declared.events.Entry.TheVariants as entry
use Rattle.trace_core.specs.declared.events.Item.{Item}
use Rattle.trace_core.specs.declared.line.Format.{Format}
use Rattle.trace_core.specs.declared.line.LineFault.{LineFault}
use Rattle.trace_core.specs.declared.fault.TraceFault.{TraceFault}
use Rattle.trace_core.specs.declared.fault.TraceFault.TheVariants as fault
use Rattle.trace_core.specs.declared.state.ReaderState.{ReaderState}
use Rattle.trace_core.specs.declared.state.ReaderState.TheVariants as state
use Rattle.trace_core.proofs.Searches.{fails-before, fails-all}
use Rattle.trace_core.proofs.Readings.{NoFeed-from_places, reading-past, reading-long}
use Rattle.trace_core.proofs.Advancing.{at, numbered, Advances-line, Advances-bad_line}
use Rattle.trace_core.proofs.Advancing.{Advances-fault, Advances-failed, Advances-last}
use Rattle.trace_core.proofs.Advancing.{Advances-bad_last}

with_line-err : (n : ℕ) (r : Result (Option Entry) LineFault) (x : TraceFault) →
    with_line n r ≡ Err x → (y : LineFault) × (x ≡ fault.Line n y)
with_line-err n (Ok o) x h = absurd cc
with_line-err n (Err y) x h = (y, cc)

-- a short line within the limit is judged by what it means
judge-own : (f : Format) (limit n : ℕ) (w : List ℕ) → n ≤ limit → length w ≤ longest_line →
    judgement f limit n w ≡ with_line n (meaning f w)
judge-own f limit n w within short =
    let in_limit : ltb limit n ≡ false = search (rules, tests) in
    let in_length : ltb longest_line (length w) ≡ false = search (rules, tests) in
    rw (in_limit, in_length) refl

judge-fault : (f : Format) (limit n : ℕ) (w : List ℕ) (x : TraceFault) → n ≤ limit →
    length w ≤ longest_line → judgement f limit n w ≡ Err x
    → (y : LineFault) × (x ≡ fault.Line n y)
judge-fault f limit n w x within short judged =
    with_line-err n (meaning f w) x (sym (judge-own f limit n w within short) ∙ judged)

judge-ok : (f : Format) (limit n : ℕ) (w : List ℕ) (o : Option Entry) → n ≤ limit →
    length w ≤ longest_line → meaning f w ≡ Ok o
    → judgement f limit n w ≡ Ok o
judge-ok f limit n w o within short means = judge-own f limit n w within short ∙
    ap (with_line n) means

-- the bytes before the first LF
pub line-before : (u : List ℕ) (k : ℕ) → IsFirstByte (is_byte 10) u (Some k) →
    HoldsNoFeed (take k u)
line-before u k found =
    let within : k ≤ length u = omega (arith, found.0.high) in
    NoFeed-from_places (take k u)
    (λ j lt. let below : j < k = omega (arith, length-take-le k u within) in
    ap is_line_feed (get_or-take k u j 0 below) ∙ fails-before is_line_feed u k found j below)

pub line-split : (u : List ℕ) (k : ℕ) → IsFirstByte (is_byte 10) u (Some k) → u ≡ take k u ++
    10 ∷ drop (k + 1) u
line-split u k found =
    let byte : get_or u k 0 ≡ 10 = eqb-true _ _ found.1 in
    sym (take-append-drop k u) ∙ ap (λ r. take k u ++ r) (drop_more u k 0 found.0.high ∙
    ap (λ c. c ∷ drop (k + 1) u) byte)

pub no-line : (u : List ℕ) → IsFirstByte (is_byte 10) u None → HoldsNoFeed u
no-line u none = NoFeed-from_places u (fails-all is_line_feed u none)

-- a scan with bytes left is open
pub stays-open : (s : ReaderState) (u : List ℕ) → ((s ≡ state.Open → ⊥) → u ≡ []) → 0 < length u →
    s ≡ state.Open
stays-open state.Open u stopped some = refl
stays-open state.Ended u stopped some =
    absurd (omega (arith, some, ap length (stopped (λ same. cc))))
stays-open (state.Failed x) u stopped some =
    absurd (omega (arith, some, ap length (stopped (λ same. cc))))

-- an open reader
module _ (reported : Option (List ℕ)) (p : Progress) (opened : p.state ≡ state.Open) where
  abbrev f : Format
  f = p.format

  abbrev limit : ℕ
  limit = p.limit

  -- the lines that were read
  abbrev n : ℕ
  n = p.lines

  -- the bytes that were not
  abbrev u : List ℕ
  u = p.unread

  abbrev s : ReaderState
  s = p.state

  from_open : (q : Progress) (d : List ℕ) (xs : List (ℕ × Entry)) →
      Advances reported (at f limit n u state.Open) q d xs
      → Advances reported (at f limit n u s) q d xs
  from_open q d xs = subst (λ v. Advances reported (at f limit n u v) q d xs) (sym opened)

  pub steps-line : (k : ℕ) (o : Option Entry) (q : Progress) → IsFirstByte (is_byte 10) u (Some k) →
      judgement f limit (n + 1) (take k u) ≡ Ok o
      → q.lines ≡ n + 1 → q.unread ≡ drop (k + 1) u → (q.format ≡ f) × (q.limit ≡ limit) ×
      (q.state ≡ s)
      → Advances reported (at f limit n u s) q [] (numbered (n + 1) o)
  steps-line k o q found judged line rest same =
      let passed : at f limit (n + 1) (drop (k + 1) u) state.Open ≡ q =
      λ i. record {
        format = (sym same.0) i;
        limit = (sym same.1) i;
        lines = (sym line) i;
        unread =
            (sym rest) i;
        state = (sym opened ∙ sym same.2) i;
      } in
      from_open q [] (numbered (n + 1) o)
      (subst (λ p. Advances reported (at f limit n u state.Open) p [] (numbered (n + 1) o)) passed
      (subst (λ v. Advances reported (at f limit n v state.Open)
      (at f limit (n + 1) (drop (k + 1) u) state.Open) [] (numbered (n + 1) o))
      (sym (line-split u k found)) (Advances-line reported f limit n (take k u) (drop (k + 1) u) o
      (line-before u k found) judged)))

  -- a line whose item was read apart
  pub steps-item : (unread : List ℕ) (k : ℕ) (item : Item) (q : Progress) (number : ℕ) →
      unread ≡ u → IsFirstByte (is_byte 10) unread (Some k)
      → meaning f (take k unread) ≡ Ok (Some (entry.Item item)) → k ≤ longest_line → n < limit
      → number ≡ q.lines → q.lines ≡ n + 1 → q.unread ≡ drop (k + 1) u → (q.format ≡ f) ×
      (q.limit ≡ limit) × (q.state ≡ s)
      → Advances reported (at f limit n u s) q [] ((number, entry.Item item) ∷ [])
  steps-item unread k item q number is found means short within numbered_is line rest same =
      let own : IsFirstByte (is_byte 10) u (Some k) =
      subst (λ v. IsFirstByte (is_byte 10) v (Some k)) is found in
      let meant : meaning f (take k u) ≡ Ok (Some (entry.Item item)) =
      subst (λ v. meaning f (take k v) ≡ Ok (Some (entry.Item item))) is means in
      let fits : length (take k u) ≤ longest_line =
      omega (arith, length-take-le k u (omega (arith, own.0.high))) in
      subst (λ m. Advances reported (at f limit n u s) q [] ((m, entry.Item item) ∷ []))
      (sym (numbered_is ∙ line))
      (steps-line k (Some (entry.Item item)) q own (judge-ok f limit (n + 1) (take k u) _
      (omega arith) fits meant) line rest same)

  pub steps-bad_line : (q : Progress) (k : ℕ) (x : TraceFault) →
      IsFirstByte (is_byte 10) u (Some k) → judgement f limit (n + 1) (take k u) ≡ Err x
      → q.state ≡ state.Failed x
      → Advances reported (at f limit n u s) q [] []
  steps-bad_line q k x found judged failed =
      from_open q [] []
      (subst (λ v. Advances reported (at f limit n v state.Open) q [] [])
      (sym (line-split u k found))
      (Advances-bad_line reported f limit n q (take k u) (drop (k + 1) u) x (line-before u k found)
      judged failed))

  pub steps-past : (q : Progress) → 0 < length u → limit ≤ n →
      q.state ≡ state.Failed (fault.TooManyLines limit)
      → Advances reported (at f limit n u s) q [] []
  steps-past q some past failed =
      from_open q [] [] (Advances-fault reported f limit n q u (fault.TooManyLines limit)
      (past_all u some) failed)
    where
      past_all : (v : List ℕ) → 0 < length v → (e : Ending) (later : List ℕ)
          → reading_after e f limit n (v ++ later) ≡ reading_end (Some (fault.TooManyLines limit))
      past_all [] some e later = absurd (omega arith)
      past_all (c ∷ v) some e later = reading-past f limit e n c (v ++ later) past

  pub steps-long : (q : Progress) → HoldsNoFeed u → n < limit → longest_line < length u →
      q.state ≡ state.Failed (fault.TooLong (n + 1))
      → Advances reported (at f limit n u s) q [] []
  steps-long q none within long failed =
      from_open q [] [] (Advances-fault reported f limit n q u (fault.TooLong (n + 1))
      (λ e later. reading-long f limit e n u later none within long) failed)

  pub steps-failed : (q : Progress) → HoldsNoFeed u → length u ≤ longest_line →
      (0 < length u → n < limit)
      → q.state ≡ state.Failed (fault.Read (n + 1)) → Advances reported (at f limit n u s) q [] []
  steps-failed q none short within failed =
      from_open q [] [] (Advances-failed reported f limit n q u none short within failed)

  pub steps-last : (q : Progress) (o : Option Entry) → HoldsNoFeed u → 0 < length u →
      judgement f limit (n + 1) u ≡ Ok o → q.state ≡ state.Ended
      → Advances reported (at f limit n u s) q [] (numbered (n + 1) o)
  steps-last q o none some judged ended = from_open q [] (numbered (n + 1) o)
      (last_of u none some judged)
    where
      last_of : (v : List ℕ) → HoldsNoFeed v → 0 < length v → judgement f limit (n + 1) v ≡ Ok o
          → Advances reported (at f limit n v state.Open) q [] (numbered (n + 1) o)
      last_of [] none some judged = absurd (omega arith)
      last_of (c ∷ v) none some judged = Advances-last reported f limit n q c v o none judged ended

  pub steps-bad_last : (q : Progress) (x : TraceFault) → IsAtEnd reported → HoldsNoFeed u →
      0 < length u → n < limit → length u ≤ longest_line
      → judgement f limit (n + 1) u ≡ Err x
      → q.state ≡ state.Failed x → Advances reported (at f limit n u s) q [] []
  steps-bad_last q x over none some within short judged failed =
      let own = judge-fault f limit (n + 1) u x (omega arith) short judged in
      from_open q [] [] (last_of own.0 u none some (judged ∙ ap Err own.1) (failed ∙
      ap state.Failed own.1))
    where
      last_of : (y : LineFault) (v : List ℕ) → HoldsNoFeed v → 0 < length v →
          judgement f limit (n + 1) v ≡ Err (fault.Line (n + 1) y)
          → q.state ≡ state.Failed (fault.Line (n + 1) y)
          → Advances reported (at f limit n v state.Open) q [] []
      last_of y [] none some judged failed = absurd (omega arith)
      last_of y (c ∷ v) none some judged failed = Advances-bad_last reported f limit n q c v y over
          none judged failed

  -- a line is judged as the code judged the bytes that it read
  pub judged-as : (line bytes : List ℕ) (r x : Result (Option Entry) TraceFault) → bytes ≡ line
      → ((most : ℕ) → n + 1 ≤ most → r ≡ judgement f most (n + 1) bytes) → r ≡ x → n < limit →
      judgement f limit (n + 1) line ≡ x
  judged-as line bytes r x same judged is within = ap (judgement f limit (n + 1)) (sym same) ∙
      sym (judged limit (omega arith)) ∙ is
