-- The fields of a line, read from its front: blanks are skipped, and a field goes up to where it
-- ends.
use Rattle.std.proofs.Common.{◌≡◌, ℕ, suc, ◌+◌, ◌-◌, ◌<◌, ◌≤◌, ◌⊎◌, inl, inr, Bool, true, false}
use Rattle.std.proofs.Common.{cond, ◌==◌, List, [], ◌∷◌, ◌++◌, length, take, drop, get_or, refl}
use Rattle.std.proofs.Common.{sym, ap, ◌∙◌, arith, eqb, take_all, append_assoc}
use Rattle.std.specs.Prelude.{⊤}
use Rattle.std.specs.List.{suffix_len, prefix_len, position_or_len, list_all}
use Rattle.std.proofs.lemmas.Bool.{and_parts, false≢true, eqb-true}
use Rattle.std.proofs.lemmas.List.{reverse-append, length-reverse}
use Rattle.std.proofs.lemmas.List.Folds.{prefix_len-append}
use Rattle.std.proofs.lemmas.List.Sums.{suffix_len-le-length}
use Rattle.std.proofs.Math.Seq.{take-append_seam, drop-append_seam}
use Rattle.trace_core.specs.Lines.{is_line_feed, HoldsNoFeed}
use Rattle.trace_core.specs.internal.FastLine.{BeginsLabel}
use Rattle.trace_core.specs.Fields.{is_blank, is_trailing, without_trailing, fields, is_field_end}
use Rattle.trace_core.proofs.Splits.{fields-blank, fields-first}

module _ (p : ℕ → Bool) where
  suffix_len-cons : (c : ℕ) (cs : List ℕ)
      → suffix_len p (c ∷ cs) ≡ cond (eqb (suffix_len p cs) (length cs))
      (length cs + cond (p c) 1 0) (suffix_len p cs)
  suffix_len-cons c cs =
      ap (prefix_len p) (reverse-append (c ∷ []) cs) ∙ prefix_len-append p _ (c ∷ []) ∙
      rw length-reverse refl

-- a byte in front stays, unless all bytes are dropped
pub trimmed-cons : (c : ℕ) (cs : List ℕ)
    → (without_trailing (c ∷ cs) ≡ c ∷ without_trailing cs) ⊎
    ((is_trailing c ≡ true) × (without_trailing cs ≡ []) × (without_trailing (c ∷ cs) ≡ []))
trimmed-cons c cs = by_case (eqb (suffix_len is_trailing cs) (length cs)) (is_trailing c) refl refl
  where
    by_case : (all last : Bool) → eqb (suffix_len is_trailing cs) (length cs) ≡ all →
        is_trailing c ≡ last
        → (without_trailing (c ∷ cs) ≡ c ∷ without_trailing cs) ⊎
        ((is_trailing c ≡ true) × (without_trailing cs ≡ []) × (without_trailing (c ∷ cs) ≡ []))
    by_case true true is last =
        let same : suffix_len is_trailing cs ≡ length cs = eqb-true _ _ is in
        let count : suffix_len is_trailing (c ∷ cs) ≡ length cs + 1 =
        suffix_len-cons is_trailing c cs ∙ rw (is, last) refl in
        let none : length cs - suffix_len is_trailing cs ≡ 0 = omega arith in
        let gone : length (c ∷ cs) - suffix_len is_trailing (c ∷ cs) ≡ 0 = omega arith in
        inr (last, ap (λ k. take k cs) none, ap (λ k. take k (c ∷ cs)) gone)
    by_case true false is last =
        let same : suffix_len is_trailing cs ≡ length cs = eqb-true _ _ is in
        let count : suffix_len is_trailing (c ∷ cs) ≡ length cs + 0 =
        suffix_len-cons is_trailing c cs ∙ rw (is, last) refl in
        let none : length cs - suffix_len is_trailing cs ≡ 0 = omega arith in
        let one : length (c ∷ cs) - suffix_len is_trailing (c ∷ cs) ≡ 1 = omega arith in
        inl (ap (λ k. take k (c ∷ cs)) one ∙ ap (λ xs. c ∷ xs) (sym (ap (λ k. take k cs) none)))
    by_case false last is _ =
        let count : suffix_len is_trailing (c ∷ cs) ≡ suffix_len is_trailing cs =
        suffix_len-cons is_trailing c cs ∙ rw is refl in
        let some : length (c ∷ cs) - suffix_len is_trailing
        (c ∷ cs) ≡ suc (length cs - suffix_len is_trailing cs) =
        omega (arith, suffix_len-le-length is_trailing cs) in
        inl (ap (λ k. take k (c ∷ cs)) some)

-- the fields of a line are those after a blank in front
pub fields-skip : (c : ℕ) (cs : List ℕ) → is_blank c ≡ true →
    fields (without_trailing (c ∷ cs)) ≡ fields (without_trailing cs)
fields-skip c cs blank =
    elim (trimmed-cons c cs) [
      | inl stays ↦ ap fields stays ∙ fields-blank c (without_trailing cs) blank
      | inr gone ↦ ap fields (gone.2 ∙ sym gone.1)
    ]

-- bytes of which none is dropped from a line's end
abbrev pub Plain : List ℕ → Type 0
Plain [] = ⊤
Plain (c ∷ cs) = (is_trailing c ≡ false) × Plain cs

pub trimmed-plain : (f rest : List ℕ) → Plain f → without_trailing (f ++ rest) ≡ f ++
    without_trailing rest
trimmed-plain [] rest plain = refl
trimmed-plain (c ∷ cs) rest plain =
    elim (trimmed-cons c (cs ++ rest)) [
      | inl stays ↦ stays ∙ ap (λ xs. c ∷ xs) (trimmed-plain cs rest plain.1)
      | inr gone ↦ absurd (false≢true (sym plain.0 ∙ gone.0))
    ]

-- bytes of which none passes a test are passed over
module _ (p : ℕ → Bool) where
  abbrev pub Fails : List ℕ → Type 0
  Fails [] = ⊤
  Fails (c ∷ cs) = (p c ≡ false) × Fails cs

  pub position-past : (f rest : List ℕ) → Fails f → position_or_len p rest ≡ 0 →
      position_or_len p (f ++ rest) ≡ length f
  position-past [] rest fails at = at
  position-past (c ∷ cs) rest fails at =
      rw fails.0 (omega (arith, position-past cs rest fails.1 at))

pub plain-unblank : (c : ℕ) → is_trailing c ≡ false → is_blank c ≡ false
plain-unblank c plain = by_case (is_blank c) refl plain
  where
    by_case : (b : Bool) → is_blank c ≡ b → is_trailing c ≡ false → is_blank c ≡ false
    by_case true is h = absurd (false≢true (sym h ∙ rw is refl))
    by_case false is h = is

plain-unblanked : (f : List ℕ) → Plain f → Fails is_blank f
plain-unblanked [] plain = tt
plain-unblanked (c ∷ cs) plain = (plain-unblank c plain.0, plain-unblanked cs plain.1)

fields-first_is : (f rest : List ℕ) → 0 < length f → Plain f → position_or_len is_blank rest ≡ 0 →
    fields (f ++ rest) ≡ f ∷ fields rest
fields-first_is [] rest some plain at = absurd (omega arith)
fields-first_is (c ∷ cs) rest some plain at =
    let past : position_or_len is_blank ((c ∷ cs) ++ rest) ≡ length (c ∷ cs) =
    position-past is_blank (c ∷ cs) rest (plain-unblanked (c ∷ cs) plain) at in
    let front : take (length (c ∷ cs)) ((c ∷ cs) ++ rest) ≡ c ∷ cs =
    take-append_seam (c ∷ cs) rest in
    let back : drop (length (c ∷ cs)) ((c ∷ cs) ++ rest) ≡ rest = drop-append_seam (c ∷ cs) rest in
    fields-first ((c ∷ cs) ++ rest) (omega arith) (plain-unblank c plain.0)
    ∙ ap (λ k. take k ((c ∷ cs) ++ rest) ∷ fields (drop k ((c ∷ cs) ++ rest))) past
    ∙ ap (λ xs. xs ∷ fields (drop (length (c ∷ cs)) ((c ∷ cs) ++ rest))) front
    ∙ ap (λ xs. (c ∷ cs) ∷ fields xs) back

ends-trimmed : (rest : List ℕ) → is_field_end rest ≡ true →
    position_or_len is_blank (without_trailing rest) ≡ 0
ends-trimmed [] ends = refl
ends-trimmed (c ∷ []) ends = rw ends refl
ends-trimmed (c ∷ d ∷ more) ends =
    elim (trimmed-cons c (d ∷ more)) [
      | inl stays ↦ rw (stays, ends) refl
      | inr gone ↦ rw gone.2 refl
    ]

-- the first field of a line that begins with it
pub fields-field : (f rest : List ℕ) → 0 < length f → Plain f → is_field_end rest ≡ true
    → fields (without_trailing (f ++ rest)) ≡ f ∷ fields (without_trailing rest)
fields-field f rest some plain ends =
    ap fields (trimmed-plain f rest plain) ∙ fields-first_is f (without_trailing rest) some plain
    (ends-trimmed rest ends)

ends-blank : (c : ℕ) (cs : List ℕ) → is_blank c ≡ true → is_field_end (c ∷ cs) ≡ true
ends-blank c [] blank = rw blank refl
ends-blank c (d ∷ more) blank = blank

-- the fields of a line are those after some blanks in front
fields-blanks : (bs rest : List ℕ) → list_all is_blank bs ≡ true →
    fields (without_trailing (bs ++ rest)) ≡ fields (without_trailing rest)
fields-blanks [] rest all = refl
fields-blanks (c ∷ cs) rest all =
    let both = and_parts (is_blank c) (list_all is_blank cs) all in
    fields-skip c (cs ++ rest) both.0 ∙ fields-blanks cs rest both.1

-- a label of one byte between blanks
fields-label : (bs cs rest : List ℕ) (label b : ℕ) → list_all is_blank bs ≡ true →
    list_all is_blank cs ≡ true → is_blank b ≡ true
    → is_trailing label ≡ false
    → fields (without_trailing (bs ++ label ∷ b ∷ (cs ++ rest))) ≡ (label ∷ []) ∷ fields
    (without_trailing rest)
fields-label bs cs rest label b before after blank plain =
    fields-blanks bs (label ∷ b ∷ (cs ++ rest)) before
    ∙ fields-field (label ∷ []) (b ∷ (cs ++ rest)) (omega arith) (plain, tt)
    (ends-blank b (cs ++ rest) blank)
    ∙ ap (λ more. (label ∷ []) ∷ more) (fields-skip b (cs ++ rest) blank ∙
    fields-blanks cs rest after)

-- a blank is no LF
unfed-blank : (c : ℕ) → is_blank c ≡ true → is_line_feed c ≡ false
unfed-blank c blank = by_case (c == 32) (c == 9) refl refl blank
  where
    by_case : (space tab : Bool) → (c == 32) ≡ space → (c == 9) ≡ tab → is_blank c ≡ true →
        is_line_feed c ≡ false
    by_case true tab is _ h = ap is_line_feed (eqb-true c 32 is)
    by_case false true _ is h = ap is_line_feed (eqb-true c 9 is)
    by_case false false s t h = absurd (false≢true (rw (s, t) at h))

unfed-blanks : (bs : List ℕ) → list_all is_blank bs ≡ true → HoldsNoFeed bs
unfed-blanks [] all = tt
unfed-blanks (c ∷ cs) all = let both = and_parts (is_blank c) (list_all is_blank cs) all in
    (unfed-blank c both.0, unfed-blanks cs both.1)

pub unfed-append : (xs ys : List ℕ) → HoldsNoFeed xs → HoldsNoFeed ys → HoldsNoFeed (xs ++ ys)
unfed-append [] ys front back = back
unfed-append (x ∷ xs) ys front back = (front.0, unfed-append xs ys front.1 back)

-- two bytes in front, as a slice pattern takes them
two-front : (xs : List ℕ) → 2 ≤ length xs → xs ≡ get_or xs 0 0 ∷ get_or xs 1 0 ∷ take
    (length xs - 2) (drop 2 xs)
two-front [] some = absurd (omega arith)
two-front (c ∷ []) some = absurd (omega arith)
two-front (c ∷ d ∷ cs) some = ap (λ more. c ∷ d ∷ more)
    (sym (take_all (length (c ∷ d ∷ cs) - 2) cs (omega arith)))

-- one byte in front, as a slice pattern takes it
pub one-front : (xs : List ℕ) → 1 ≤ length xs →
    xs ≡ get_or xs 0 0 ∷ take (length xs - 1) (drop 1 xs)
one-front [] some = absurd (omega arith)
one-front (c ∷ cs) some = ap (λ more. c ∷ more)
    (sym (take_all (length (c ∷ cs) - 1) cs (omega arith)))

-- one blank more
pub blanks-more : (bytes bs rest : List ℕ) → bytes ≡ bs ++ rest → list_all is_blank bs ≡ true →
    1 ≤ length rest
    → is_blank (get_or rest 0 0) ≡ true
    → (blanks : List ℕ) × (bytes ≡ blanks ++ take (length rest - 1) (drop 1 rest)) ×
    (list_all is_blank blanks ≡ true)
blanks-more bytes bs rest is all some blank = (
  bs ++ get_or rest 0 0 ∷ [],
  is ∙ ap (λ r. bs ++ r) (one-front rest some) ∙
      sym (append_assoc bs (get_or rest 0 0 ∷ []) (take (length rest - 1) (drop 1 rest))),
  all-push bs all,
)
  where
    all-push : (xs : List ℕ) → list_all is_blank xs ≡ true →
        list_all is_blank (xs ++ get_or rest 0 0 ∷ []) ≡ true
    all-push [] h = rw blank refl
    all-push (x ∷ xs) h = let both = and_parts (is_blank x) (list_all is_blank xs) h in
        rw both.0 (all-push xs both.1)

-- a label and blanks in front of a line
pub label-front : (text cut tail rest : List ℕ) → (bs : List ℕ) × (text ≡ bs ++ cut) ×
    (list_all is_blank bs ≡ true) → 2 ≤ length cut
    → is_blank (get_or cut 1 0) ≡ true
    → tail ≡ take (length cut - 2) (drop 2 cut) → (cs : List ℕ) × (tail ≡ cs ++ rest) ×
    (list_all is_blank cs ≡ true)
    → BeginsLabel text rest (get_or cut 0 0)
label-front text cut tail rest before some blank tail_is after =
    let label = get_or cut 0 0 in
    let b = get_or cut 1 0 in
    let split : (more : List ℕ) → before.0 ++ label ∷ b ∷ (after.0 ++ more) ≡ (before.0 ++
    label ∷ b ∷ after.0) ++ more =
    λ more. sym (append_assoc before.0 (label ∷ b ∷ after.0) more) in
    record {
      front = before.0 ++ label ∷ b ∷ after.0;
      splits = before.1 ∙ ap (λ r. before.0 ++ r) (two-front cut some ∙ ap (λ r. label ∷ b ∷ r)
          (sym tail_is ∙ after.1)) ∙ split rest;
      no_line_feed = λ byte.
          unfed-append before.0 (label ∷ b ∷ after.0) (unfed-blanks before.0 before.2) (
            byte,
            (unfed-blank b blank, unfed-blanks after.0 after.2),
          );
      first = λ more plain. ap (λ l. fields (without_trailing l)) (sym (split more)) ∙
          fields-label before.0 after.0 more label b before.2 after.2 blank plain;
    }

-- a label and one blank
pub single-front : (text : List ℕ) → 2 ≤ length text → is_blank (get_or text 1 0) ≡ true
    → BeginsLabel text (take (length text - 2) (drop 2 text)) (get_or text 0 0)
single-front text some blank =
    let rest = take (length text - 2) (drop 2 text) in
    label-front text text rest rest ([], refl, refl) some blank refl ([], refl, refl)

-- a blank, a label, and one blank
pub blank-front : (text : List ℕ) → 3 ≤ length text → is_blank (get_or text 0 0) ≡ true →
    is_blank (get_or text 2 0) ≡ true
    → BeginsLabel text (take (length text - 3) (drop 3 text)) (get_or text 1 0)
blank-front [] some first last = absurd (omega arith)
blank-front (b ∷ []) some first last = absurd (omega arith)
blank-front (b ∷ label ∷ []) some first last = absurd (omega arith)
blank-front (b ∷ label ∷ c ∷ cs) some first last =
    let rest = take (length (b ∷ label ∷ c ∷ cs) - 3) cs in
    label-front (b ∷ label ∷ c ∷ cs) (label ∷ c ∷ cs) rest rest (b ∷ [], refl, rw first refl)
    (omega arith) last
    (ap (λ n. take n cs) (omega arith)) ([], refl, refl)

-- a label and two blanks
pub doubled-front : (text : List ℕ) → 3 ≤ length text → is_blank (get_or text 1 0) ≡ true →
    is_blank (get_or text 2 0) ≡ true
    → BeginsLabel text (take (length text - 3) (drop 3 text)) (get_or text 0 0)
doubled-front [] some first last = absurd (omega arith)
doubled-front (label ∷ []) some first last = absurd (omega arith)
doubled-front (label ∷ b ∷ []) some first last = absurd (omega arith)
doubled-front (label ∷ b ∷ c ∷ cs) some first last =
    let text = label ∷ b ∷ c ∷ cs in
    let rest = take (length text - 3) cs in
    label-front text text (c ∷ rest) rest ([], refl, refl) (omega arith) first
    (ap (λ cs. c ∷ cs) (take_all (length text - 3) cs (omega arith)) ∙
    sym (take_all (length text - 2) (c ∷ cs) (omega arith))) (c ∷ [], refl, rw last refl)
