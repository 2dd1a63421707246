-- Lines of the usual form, and their meaning.
use Rattle.std.proofs.Common.{◌≡◌, ℕ, zero, suc, ◌<◌, ◌==◌, ◌&&◌, ◌||◌, ◌+◌, ◌-◌, ◌≤◌, Bool, true}
use Rattle.std.proofs.Common.{false, List, [], ◌∷◌, ◌++◌, length, take, drop, get_or, refl, sym, ap}
use Rattle.std.proofs.Common.{◌∙◌, arith, rules, tests, append_assoc, subst}
use Rattle.std.specs.Prelude.{None, Some, Ok, nat_lt, nat_le}
use Rattle.std.specs.List.{position_or_len, before_first, after_first, list_all}
use Rattle.std.specs.Char.{is_digit}
use Rattle.std.proofs.lemmas.Bool.{and_parts, false≢true, eqb-true}
use Rattle.trace_core.proofs.Steps.{line-split, line-before}
use Rattle.std.proofs.lemmas.List.{length-take-le, length-append, get_or_append_left, get_or-drop}
use Rattle.std.proofs.lemmas.List.{length-drop}
use Rattle.std.proofs.Math.Seq.{get_or-append_seam, take-append_seam, drop-append-add}
use Rattle.std.proofs.Math.Seq.{drop-append_seam}
use Rattle.trace_core.specs.Fields.{is_blank, is_trailing, without_trailing, fields, is_field_end}
use Rattle.trace_core.specs.Fields.{number_written, without_0x}
use Rattle.trace_core.specs.Line.{meaning, din_op, entry_of_label, lackey_op, is_comma, is_message}
use Rattle.memchr.specs.Find.{IsFirstByte, is_byte}
use Rattle.trace_core.specs.Lines.{is_line_feed, HoldsNoFeed}
use Rattle.trace_core.specs.internal.FastLine.{BeginsLine, BeginsLabel, EndsLine}
use Rattle.trace_core.specs.declared.events.Entry.TheVariants as entry
use Rattle.trace_core.specs.declared.events.Item.{Item}
use Rattle.trace_core.specs.declared.events.Op.{Op}
use Rattle.trace_core.specs.declared.line.Format.{Format}
use Rattle.trace_core.specs.declared.line.Format.TheVariants.{Din, Lackey}
use Rattle.trace_core.proofs.Splits.{fields-first}
use Rattle.trace_core.proofs.Fronts.{unfed-append, Plain, Fails, position-past, plain-unblank}
use Rattle.trace_core.proofs.Fronts.{fields-field, trimmed-plain}

-- a byte that is no digit is none of the digits
pub other-byte : (b radix : ℕ) → is_digit b radix ≡ false → (c : ℕ) → is_digit c radix ≡ true →
    (c == b) ≡ false
other-byte b radix other c digit = by_case (c == b) refl
  where
    by_case : (t : Bool) → (c == b) ≡ t → (c == b) ≡ false
    by_case true is =
        let same : c ≡ b = eqb-true c b is in
        absurd (false≢true (sym other ∙ ap (λ x. is_digit x radix) (sym same) ∙ digit))
    by_case false is = is

module _ (radix : ℕ) (small : nat_lt 36 radix ≡ false) where
  digit-plain : (c : ℕ) → is_digit c radix ≡ true → is_trailing c ≡ false
  digit-plain c digit =
      rw (
        other-byte 32 radix small c digit,
        other-byte 9 radix small c digit,
        other-byte 13 radix small c digit,
      ) refl

  digits-plain : (ds : List ℕ) → list_all (λ c. is_digit c radix) ds ≡ true → Plain ds
  digits-plain [] all = tt
  digits-plain (c ∷ cs) all =
      let both = and_parts (is_digit c radix) (list_all (λ d. is_digit d radix) cs) all in
      (digit-plain c both.0, digits-plain cs both.1)

  digits-comma : (ds : List ℕ) → list_all (λ c. is_digit c radix) ds ≡ true → Fails is_comma ds
  digits-comma [] all = tt
  digits-comma (c ∷ cs) all =
      let both = and_parts (is_digit c radix) (list_all (λ d. is_digit d radix) cs) all in
      (other-byte 44 radix small c both.0, digits-comma cs both.1)

  digits-unfed : (ds : List ℕ) → list_all (λ c. is_digit c radix) ds ≡ true → HoldsNoFeed ds
  digits-unfed [] all = tt
  digits-unfed (c ∷ cs) all =
      let both = and_parts (is_digit c radix) (list_all (λ d. is_digit d radix) cs) all in
      (other-byte 10 radix small c both.0, digits-unfed cs both.1)

-- what writes a number is one or more digits
pub number-digits : (radix most : ℕ) (ds : List ℕ) (n : ℕ) → number_written radix most ds ≡ Some n
    → (1 ≤ length ds) × (list_all (λ c. is_digit c radix) ds ≡ true)
number-digits radix most ds n is = by_case (nat_le 1 (length ds)) (nat_le (length ds) most)
    (list_all (λ c. is_digit c radix) ds) refl refl refl is
  where
    by_case : (low high all : Bool) → nat_le 1 (length ds) ≡ low → nat_le (length ds) most ≡ high →
        list_all (λ c. is_digit c radix) ds ≡ all
        → number_written radix most ds ≡ Some n → (1 ≤ length ds) ×
        (list_all (λ c. is_digit c radix) ds ≡ true)
    by_case true true true low high all is = (search (rules, tests), all)
    by_case true true false low high all is = let absent : None ≡ Some n =
        (rw (low, high, all) at is) in absurd (cc)
    by_case true false all low high _ is = let absent : None ≡ Some n =
        (rw (low, high) at is) in absurd (cc)
    by_case false high all low _ _ is = let absent : None ≡ Some n = (rw low at is) in absurd (cc)

plain-append : (xs ys : List ℕ) → Plain xs → Plain ys → Plain (xs ++ ys)
plain-append [] ys front back = back
plain-append (x ∷ xs) ys front back = (front.0, plain-append xs ys front.1 back)

prefix-bytes : (p : ℕ → Bool) (a b : ℕ) → p 48 ≡ false → p 120 ≡ false → p 88 ≡ false →
    (a == 48 && (b == 120 || b == 88)) ≡ true
    → (p a ≡ false) × (p b ≡ false)
prefix-bytes p a b zero_is small_is large_is is =
    by_case (a == 48) (b == 120) (b == 88) refl refl refl is
  where
    by_case : (zero small large : Bool) → (a == 48) ≡ zero → (b == 120) ≡ small →
        (b == 88) ≡ large → (a == 48 && (b == 120 || b == 88)) ≡ true
        → (p a ≡ false) × (p b ≡ false)
    by_case true true large za xb _ is =
        (ap p (eqb-true a 48 za) ∙ zero_is, ap p (eqb-true b 120 xb) ∙ small_is)
    by_case true false true za _ xb is =
        (ap p (eqb-true a 48 za) ∙ zero_is, ap p (eqb-true b 88 xb) ∙ large_is)
    by_case true false false za xb yb is = absurd (false≢true (rw (za, xb, yb) at is))
    by_case false small large za _ _ is = absurd (false≢true (rw za at is))

-- The field in which digits stand, perhaps after `0x`, and what follows it in a text.
record FieldOf (rest digits end : List ℕ) : Type 0 where
  field : List ℕ
  splits : rest ≡ field ++ end
  bare : without_0x field ≡ digits
  some : 1 ≤ length field
  plain : Plain field
  unfed : HoldsNoFeed field

field-of : (rest digits end : List ℕ) → without_0x rest ≡ digits ++ end → 1 ≤ length digits →
    Plain digits → HoldsNoFeed digits
    → FieldOf rest digits end
field-of rest [] end is some plain unfed = absurd (omega arith)
field-of [] (d ∷ ds) end is some plain unfed = absurd (cc)
field-of (a ∷ []) (d ∷ []) end is some plain unfed = record {
  field = d ∷ [];
  splits = is;
  bare =
      refl;
  some = some;
  plain = plain;
  unfed = unfed;
}
field-of (a ∷ []) (d ∷ e ∷ ds) end is some plain unfed = absurd (cc)
field-of (a ∷ b ∷ more) (d ∷ ds) end is some plain unfed =
    by_case (a == 48 && (b == 120 || b == 88)) refl is
  where
    bare_of : (ds : List ℕ) → (a == 48 && (b == 120 || b == 88)) ≡ false →
        a ∷ b ∷ more ≡ d ∷ (ds ++ end) → without_0x (d ∷ ds) ≡ d ∷ ds
    bare_of [] other same = refl
    bare_of (e ∷ es) other same =
        let first : a ≡ d = cc in
        let second : b ≡ e = cc in
        let now : (d == 48 && (e == 120 || e == 88)) ≡ false = rw (← first, ← second) other in
        rw now refl

    by_case : (t : Bool) → (a == 48 && (b == 120 || b == 88)) ≡ t →
        without_0x (a ∷ b ∷ more) ≡ (d ∷ ds) ++ end
        → FieldOf (a ∷ b ∷ more) (d ∷ ds) end
    by_case true test is =
        let same : more ≡ (d ∷ ds) ++ end = (rw test at is) in
        let kept = prefix-bytes is_trailing a b refl refl refl test in
        let fed = prefix-bytes is_line_feed a b refl refl refl test in
        record {
          field = a ∷ b ∷ d ∷ ds;
          splits = ap (λ m. a ∷ b ∷ m) same;
          bare = rw test refl;
          some = omega arith;
          plain = (kept.0, (kept.1, plain));
          unfed = (fed.0, (fed.1, unfed));
        }
    by_case false test is =
        let same : a ∷ b ∷ more ≡ d ∷ (ds ++ end) = (rw test at is) in
        record {
          field = d ∷ ds;
          splits = same;
          bare = bare_of ds test same;
          some =
              omega arith;
          plain = plain;
          unfed = unfed;
        }

-- a line that begins with a label, and then a field
begins-field : (text rest end field : List ℕ) (label : ℕ) → (begun : BeginsLabel text rest label) →
    is_trailing label ≡ false
    → rest ≡ field ++ end
    → 1 ≤ length field → Plain field → (text ≡ (begun.front ++ field) ++ end)
    × ((more : List ℕ) → is_field_end more ≡ true →
    fields (without_trailing ((begun.front ++ field) ++ more)) ≡ (label ∷ []) ∷ field ∷ fields
    (without_trailing more))
begins-field text rest end field label begun plain_label splits some plain = (
  begun.splits ∙ ap (λ r. begun.front ++ r) splits ∙ sym (append_assoc begun.front field end),
  λ more ends. ap (λ l. fields (without_trailing l)) (append_assoc begun.front field more) ∙
      begun.first (field ++ more) plain_label
      ∙ ap (λ fs. (label ∷ []) ∷ fs) (fields-field field more some plain ends),
)

-- the labels of items
din-labels : (label : ℕ) (op : Op) → din_op label ≡ Some op → (48 ≤ label) × (label ≤ 50)
din-labels label op is = by_case (label == 48) (label == 49) (label == 50) refl refl refl is
  where
    by_case : (load store fetch : Bool) → (label == 48) ≡ load → (label == 49) ≡ store →
        (label == 50) ≡ fetch → din_op label ≡ Some op
        → (48 ≤ label) × (label ≤ 50)
    by_case true store fetch at _ _ is =
        (omega (arith, eqb-true label 48 at), omega (arith, eqb-true label 48 at))
    by_case false true fetch _ at _ is =
        (omega (arith, eqb-true label 49 at), omega (arith, eqb-true label 49 at))
    by_case false false true _ _ at is =
        (omega (arith, eqb-true label 50 at), omega (arith, eqb-true label 50 at))
    by_case false false false l s f is = absurd (let none : None ≡ Some op = rw (l, s, f) at is in
        cc)

pub din-front : (text rest digits end : List ℕ) (label addr : ℕ) (op : Op) → din_op label ≡ Some op
    → BeginsLabel text rest label → without_0x rest ≡ digits ++ end →
    number_written 16 16 digits ≡ Some addr
    → BeginsLine Din text end (record { op = op; addr = addr; size = 0 })
din-front text rest digits end label addr op means begun is number =
    let low : 48 ≤ label = (din-labels label op means).0 in
    let high : label ≤ 50 = (din-labels label op means).1 in
    let written = number-digits 16 16 digits addr number in
    let of = field-of rest digits end is written.0 (digits-plain 16 refl digits written.1)
    (digits-unfed 16 refl digits written.1) in
    let low_test : nat_lt label 48 ≡ false = search (rules, tests) in
    let high_test : nat_lt 52 label ≡ false = search (rules, tests) in
    let plain : is_trailing label ≡ false = search (rules, tests) in
    let byte : is_line_feed label ≡ false = search (rules, tests) in
    let begins = begins-field text rest end of.field label begun plain of.splits of.some of.plain in
    record {
      front = begun.front ++ of.field;
      splits = begins.0;
      no_line_feed = unfed-append begun.front of.field (begun.no_line_feed byte) of.unfed;
      means = λ more ends. rw (begins.1 more ends, low_test, high_test, of.bare, number)
          (ap (λ o. Ok (entry_of_label label addr o)) means);
    }

-- no operation is written by the first byte of a message
message-byte : (c : ℕ) (cs : List ℕ) → is_message (c ∷ cs) ≡ true → (lackey_op c ≡ None) ×
    (is_trailing c ≡ false)
message-byte c cs is = by_case (c == 61) (c == 45) (c == 42) refl refl refl is
  where
    by_case : (equals minus star : Bool) → (c == 61) ≡ equals → (c == 45) ≡ minus →
        (c == 42) ≡ star → is_message (c ∷ cs) ≡ true
        → (lackey_op c ≡ None) × (is_trailing c ≡ false)
    by_case true minus star at _ _ is = let same = eqb-true c 61 at in
        (ap lackey_op same, ap is_trailing same)
    by_case false true star _ at _ is = let same = eqb-true c 45 at in
        (ap lackey_op same, ap is_trailing same)
    by_case false false true _ _ at is = let same = eqb-true c 42 at in
        (ap lackey_op same, ap is_trailing same)
    by_case false false false e m s is = absurd (false≢true (rw (e, m, s) at is))

-- a line begins with its first byte, where that isn't dropped
begins-with : (c : ℕ) (cs : List ℕ) → is_trailing c ≡ false
    → (bytes : List ℕ) × (later : List (List ℕ)) ×
    (fields (without_trailing (c ∷ cs)) ≡ (c ∷ bytes) ∷ later)
begins-with c cs plain =
    let stays : without_trailing (c ∷ cs) ≡ c ∷ without_trailing cs =
    trimmed-plain (c ∷ []) cs (plain, tt) in
    let field-byte : is_blank c ≡ false = plain-unblank c plain in
    let len = position_or_len is_blank (without_trailing cs) in
    let at : position_or_len is_blank (c ∷ without_trailing cs) ≡ suc len =
    rw field-byte (omega arith) in (
      take len (without_trailing cs),
      fields (drop len (without_trailing cs)),
      ap fields stays ∙ fields-first (c ∷ without_trailing cs) (omega arith) field-byte
          ∙ ap (λ k. take k (c ∷ without_trailing cs) ∷ fields (drop k (c ∷ without_trailing cs)))
          at,
    )

no-message : (line : List ℕ) (label : ℕ) (op : Op) (more : List (List ℕ)) →
    fields (without_trailing line) ≡ (label ∷ []) ∷ more
    → lackey_op label ≡ Some op → is_message line ≡ false
no-message [] label op more first is = refl
no-message (c ∷ cs) label op more first is = by_case (is_message (c ∷ cs)) refl
  where
    by_case : (t : Bool) → is_message (c ∷ cs) ≡ t → is_message (c ∷ cs) ≡ false
    by_case false test = test
    by_case true test =
        let byte = message-byte c cs test in
        let begins : (bytes : List ℕ) × (later : List (List ℕ)) ×
        (fields (without_trailing (c ∷ cs)) ≡ (c ∷ bytes) ∷ later) = begins-with c cs byte.1 in
        let both : (label ∷ []) ∷ more ≡ (c ∷ begins.0) ∷ begins.1 = sym first ∙ begins.2 in
        let same : label ≡ c = cc in
        let conflict : Some op ≡ None = sym is ∙ ap lackey_op same ∙ byte.0 in
        absurd (cc)

-- an operation's label is neither a blank nor a CR nor an LF
op-byte : (label : ℕ) (op : Op) → lackey_op label ≡ Some op → (b : ℕ) → lackey_op b ≡ None →
    (label == b) ≡ false
op-byte label op is b none = by_case (label == b) refl
  where
    by_case : (t : Bool) → (label == b) ≡ t → (label == b) ≡ false
    by_case true same = let conflict : Some op ≡ None =
        sym is ∙ ap lackey_op (eqb-true label b same) ∙ none in absurd (cc)
    by_case false other = other

op-plain : (label : ℕ) (op : Op) → lackey_op label ≡ Some op → is_trailing label ≡ false
op-plain label op is = rw (
  op-byte label op is 32 refl,
  op-byte label op is 9 refl,
  op-byte label op is 13 refl,
) refl

pub lackey-front : (text rest more digits decimals end : List ℕ) (label addr size : ℕ) (op : Op)
    → BeginsLabel text rest label → lackey_op label ≡ Some op
    → rest ≡ digits ++ (44 ∷ more) → number_written 16 16 digits ≡ Some addr
    → more ≡ decimals ++ end → number_written 10 9 decimals ≡ Some size
    → BeginsLine Lackey text end (record { op = op; addr = addr; size = size })
lackey-front text rest more digits decimals end label addr size op begun is comma number
    back number-2 =
    let written = number-digits 16 16 digits addr number in
    let written-2 = number-digits 10 9 decimals size number-2 in
    let f = digits ++ (44 ∷ decimals) in
    let plain : Plain f = plain-append digits (44 ∷ decimals)
    (digits-plain 16 refl digits written.1) (refl, digits-plain 10 refl decimals written-2.1) in
    let unfed : HoldsNoFeed f =
    unfed-append digits (44 ∷ decimals) (digits-unfed 16 refl digits written.1)
    (refl, digits-unfed 10 refl decimals written-2.1) in
    let some : 1 ≤ length f = simp length-append (omega arith) in
    let field : rest ≡ f ++ end = comma ∙ ap (λ m. digits ++ (44 ∷ m)) back ∙
    sym (append_assoc digits (44 ∷ decimals) end) in
    let at : position_or_len is_comma f ≡ length digits =
    position-past is_comma digits (44 ∷ decimals)
    (digits-comma 16 refl digits written.1) refl in
    let before : before_first is_comma f ≡ digits = ap (λ k. take k f) at ∙ take-append_seam digits
    (44 ∷ decimals) in
    let after : after_first is_comma f ≡ decimals = ap (λ k. drop (k + 1) f) at ∙
    drop-append-add digits (44 ∷ decimals) 1 in
    let begins = begins-field text rest end f label begun (op-plain label op is) field some plain in
    record {
      front = begun.front ++ f;
      splits = begins.0;
      no_line_feed = unfed-append begun.front f (begun.no_line_feed (op-byte label op is 10 refl))
          unfed;
      means = λ later ends.
          let line-fields = begins.1 later ends in
          let plain_line : is_message ((begun.front ++ f) ++ later) ≡ false =
          no-message ((begun.front ++ f) ++ later) label op (f ∷ fields (without_trailing later))
          line-fields is in
          rw (plain_line, line-fields, is, before, number, after, number-2) refl;
    }

-- the index of an LF after bytes that hold none
feed-index : (u z : List ℕ) → HoldsNoFeed u → IsFirstByte (is_byte 10) (u ++ 10 ∷ z)
    (Some (length u))
feed-index u z unfed = (
  record {
    low = omega arith;
    high = omega (arith, length-append u (10 ∷ z));
    before = λ j _ lt is. false≢true (sym (unfed-before j lt) ∙ is);
  },
  ap (λ c. c == 10) (get_or-append_seam u 10 z 0),
)
  where
    unfed-at : (v : List ℕ) (j : ℕ) → HoldsNoFeed v → j < length v → (get_or v j 0 == 10) ≡ false
    unfed-at [] j none lt = absurd (omega arith)
    unfed-at (c ∷ cs) zero none lt = none.0
    unfed-at (c ∷ cs) (suc j) none lt = unfed-at cs j none.1 (omega arith)

    unfed-before : (j : ℕ) → j < length u → (get_or (u ++ 10 ∷ z) j 0 == 10) ≡ false
    unfed-before j lt = ap (λ c. c == 10) (get_or_append_left u (10 ∷ z) 0 j lt) ∙
        unfed-at u j unfed lt

-- the line of a text, whose front ends in a field
pub line-end : (f : Format) (text rest : List ℕ) (item : Item) (at : ℕ) →
    BeginsLine f text rest item → EndsLine text rest at
    → IsFirstByte (is_byte 10) text (Some at) ×
    (meaning f (take at text) ≡ Ok (Some (entry.Item item)))
line-end f text rest item at begun end =
    let k = end.after in
    let line = begun.front ++ take k rest in
    let after = drop (k + 1) rest in
    let split : text ≡ line ++ 10 ∷ after =
    begun.splits ∙ ap (λ r. begun.front ++ r) (line-split rest k end.line_feed) ∙
    sym (append_assoc begun.front (take k rest) (10 ∷ after)) in
    let long : length (take k rest) ≡ k =
    length-take-le k rest (omega (arith, end.line_feed.0.high)) in
    let is : at ≡ length line =
    omega (
      arith,
      end.place,
      long,
      ap length begun.splits,
      length-append begun.front rest,
      length-append begun.front (take k rest),
    ) in (
      rw (is, split) (feed-index line after
          (unfed-append begun.front (take k rest) begun.no_line_feed
          (line-before rest k end.line_feed))),
      ap (λ t. meaning f (take at t)) split ∙ ap (λ n. meaning f (take n (line ++ 10 ∷ after))) is
          ∙ ap (meaning f) (take-append_seam line (10 ∷ after)) ∙
          begun.means (take k rest) end.ends,
    )

-- a line that ends where its last field does
pub ends-here : (text : List ℕ) (at : ℕ) → at < length text → get_or text at 0 ≡ 10 →
    EndsLine text (drop at text) at
ends-here text at within byte =
    let long : length (drop at text) ≡ length text - at = length-drop at text in
    let zero : at + 0 ≡ at = omega arith in
    let front : get_or (drop at text) 0 0 ≡ 10 = get_or-drop at text 0 0 ∙
    ap (λ k. get_or text k 0) zero ∙ byte in
    record {
      after = 0;
      line_feed = search (rules, tests);
      ends = refl;
      place = omega (arith, long);
    }

-- the rest of a text stands in it from where it begins
pub begins-at : (f : Format) (text rest : List ℕ) (item : Item) (at : ℕ) →
    BeginsLine f text rest item → at ≡ length text - length rest →
    BeginsLine f text (drop at text) item
begins-at f text rest item at begun place =
    let long : at ≡ length begun.front =
    omega (arith, place, ap length begun.splits, length-append begun.front rest) in
    let same : drop at text ≡ rest =
    ap (λ k. drop k text) long ∙ ap (drop (length begun.front)) begun.splits ∙
    drop-append_seam begun.front rest in
    subst (λ r. BeginsLine f text r item) (sym same) begun
