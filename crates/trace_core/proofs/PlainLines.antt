-- Lines of the plain form, and their meaning.
use Rattle.std.proofs.Common.{◌≡◌, ℕ, ◌<◌, ◌==◌, ◌+◌, ◌-◌, ◌%◌, ◌≤◌, Bool, true, false, List}
use Rattle.std.proofs.Common.{[], ◌∷◌, ◌++◌, length, take, drop, get_or, refl, sym, ap, ◌∙◌, arith}
use Rattle.std.proofs.Common.{subst, take_all, append_assoc, ◌*◌, ◌^◌}
use Rattle.std.specs.Prelude.{Option, None, Some, IfSome}
use Rattle.std.specs.List.{list_all}
use Rattle.std.specs.Char.{is_digit}
use Rattle.std.proofs.lemmas.Bool.{and_parts}
use Rattle.std.proofs.lemmas.List.{length-drop, drop_more, drop-drop, get_or-drop, take-append-drop}
use Rattle.std.proofs.lemmas.List.{length-append, length-take, get_or-take, take-take}
use Rattle.std.proofs.Math.Seq.{drop-append_seam}
use Rattle.trace_core.specs.Fields.{is_blank, number_written, without_0x, WritesNumber}
use Rattle.trace_core.specs.Line.{meaning, lackey_op}
use Rattle.trace_core.specs.internal.FastLine.{BeginsLabel, EndsLine, HoldsLine}
use Rattle.trace_core.specs.internal.FastLine.{HoldsAddress, HoldsSize}
use Rattle.trace_core.specs.declared.events.Item.{Item}
use Rattle.trace_core.specs.declared.events.Op.{Op}
use Rattle.trace_core.specs.declared.line.Format.{Format}
use Rattle.trace_core.specs.declared.line.Format.TheVariants.{Din, Lackey}
use Rattle.trace_core.proofs.Fronts.{single-front, blank-front, doubled-front}
use Rattle.trace_core.proofs.Numbers.{number-front, one_digit}
use Rattle.trace_core.proofs.FastLines.{other-byte, number-digits, din-front, lackey-front}
use Rattle.trace_core.proofs.FastLines.{begins-at, ends-here, line-end}

-- what a slice pattern takes behind some bytes is the rest
behind : (text : List ℕ) (n : ℕ) → take (length text - n) (drop n text) ≡ drop n text
behind text n = take_all (length text - n) (drop n text) (omega (arith, length-drop n text))

-- a label and a space
pub single-begun : (text : List ℕ) → 2 ≤ length text → get_or text 1 0 ≡ 32 →
    BeginsLabel text (drop 2 text) (get_or text 0 0)
single-begun text some space = subst (λ r. BeginsLabel text r (get_or text 0 0)) (behind text 2)
    (single-front text some (ap is_blank space))

-- a label between spaces
pub blank-begun : (text : List ℕ) → 3 ≤ length text → get_or text 0 0 ≡ 32 → get_or text 2 0 ≡ 32
    → BeginsLabel text (drop 3 text) (get_or text 1 0)
blank-begun text some first last = subst (λ r. BeginsLabel text r (get_or text 1 0)) (behind text 3)
    (blank-front text some (ap is_blank first) (ap is_blank last))

-- a label and two spaces
pub doubled-begun : (text : List ℕ) → 3 ≤ length text → get_or text 1 0 ≡ 32 → get_or text 2 0 ≡ 32
    → BeginsLabel text (drop 3 text) (get_or text 0 0)
doubled-begun text some first last = subst (λ r. BeginsLabel text r (get_or text 0 0))
    (behind text 3) (doubled-front text some (ap is_blank first) (ap is_blank last))

-- two bytes that are compared at once
pub two-bytes : (first second a b : ℕ) → a < 2 ^ 8 → b < 2 ^ 8 → first < 256 →
    a + b * 256 ≡ first + second * 256 → (a ≡ first) × (b ≡ second)
two-bytes first second a b fits fits-2 small is =
    (omega (arith, fits, fits-2, small, is), omega (arith, fits, fits-2, small, is))

-- a digit and an LF that are compared at once
pub digit-and-feed : (w a b : ℕ) → a < 2 ^ 8 → b < 2 ^ 8 → w ≡ a + b * 256 →
    (w + 62928) % 65536 < 10
    → (48 ≤ a) × (a ≤ 57) × (b ≡ 10) × (a - 48 ≡ (w + 62928) % 65536)
digit-and-feed w a b fits fits-2 is small = (
  omega (arith, fits, fits-2, is, small),
  omega (arith, fits, fits-2, is, small),
  omega (arith, fits, fits-2, is, small),
  omega (arith, fits, fits-2, is, small),
)

-- the operation of a label that a text begins with, if it has one
pub some-op : (text rest : List ℕ) (result : Option Op) (label : ℕ) → result ≡ lackey_op label →
    BeginsLabel text rest label
    → IfSome result (λ op. (x : ℕ) × BeginsLabel text rest x × (lackey_op x ≡ Some op))
some-op text rest None label is begun = tt
some-op text rest (Some op) label is begun = (label, begun, sym is)

unprefixed : (a b : ℕ) (more : List ℕ) → (b == 120) ≡ false → (b == 88) ≡ false →
    without_0x (a ∷ b ∷ more) ≡ a ∷ b ∷ more
unprefixed a b more small large = by_case (a == 48) refl
  where
    by_case : (t : Bool) → (a == 48) ≡ t → without_0x (a ∷ b ∷ more) ≡ a ∷ b ∷ more
    by_case true is = rw (is, small, large) refl
    by_case false is = rw is refl

-- digits that an LF follows don't begin with 0x
no-prefix : (ds end : List ℕ) (n : ℕ) → number_written 16 16 ds ≡ Some n → get_or end 0 0 ≡ 10
    → without_0x (ds ++ end) ≡ ds ++ end
no-prefix [] end n number byte = absurd (omega (arith, (number-digits 16 16 [] n number).0))
no-prefix (d ∷ []) [] n number byte = refl
no-prefix (d ∷ []) (e ∷ es) n number byte =
    unprefixed d e es (ap (λ c. c == 120) byte) (ap (λ c. c == 88) byte)
no-prefix (d ∷ e ∷ ds) end n number byte =
    let all = (number-digits 16 16 (d ∷ e ∷ ds) n number).1 in
    let rest = (and_parts (is_digit d 16) (list_all (λ c. is_digit c 16) (e ∷ ds)) all).1 in
    let second = (and_parts (is_digit e 16) (list_all (λ c. is_digit c 16) ds) rest).0 in
    unprefixed d e (ds ++ end) (other-byte 120 16 refl e second) (other-byte 88 16 refl e second)

-- a line that ends where its last field does, by its length
ends-at : (text : List ℕ) (at len : ℕ) → at < length text → get_or text at 0 ≡ 10 → len ≡ at + 1
    → EndsLine text (drop at text) (len - 1)
ends-at text at len within byte is =
    let same : at ≡ len - 1 = omega (arith, is) in
    subst (λ k. EndsLine text (drop at text) k) same (ends-here text at within byte)

pub din-address : (text ds end : List ℕ) (addr at len : ℕ) → without_0x (drop 2 text) ≡ ds ++ end
    → number_written 16 16 ds ≡ Some addr → at ≡ length text - length end → 1 ≤ len
    → EndsLine text (drop at text) (len - 1) → HoldsAddress text addr len
din-address text ds end addr at len is number place some ends op label begun means =
    let item : Item = record { op = op; addr = addr; size = 0 } in
    let begins = begins-at Din text end item at
    (din-front text (drop 2 text) ds end label addr op means begun is number) place in
    let found = line-end Din text (drop at text) item (len - 1) begins ends in
    record { some = some; line_feed = found.0; means = found.1 }

-- the digits of an address, and what follows them
address : (text : List ℕ) (n addr len : ℕ) → WritesNumber 16 (drop n text) (addr, len) → 1 ≤ len →
    len ≤ 16 → (ds : List ℕ) × (drop n text ≡ ds ++ drop (len + n) text) ×
    (number_written 16 16 ds ≡ Some addr)
address text n addr len written some most =
    let place : n + len ≡ len + n = omega arith in
    let same : drop (len + n) text ≡ drop len (drop n text) =
    sym (drop-drop len n text ∙ ap (λ k. drop k text) place) in
    number-front 16 16 (omega arith) (drop n text) len addr (drop (len + n) text) written some most
    same

-- an address without 0x
pub bare-address : (text : List ℕ) (addr len total : ℕ) → WritesNumber 16 (drop 2 text) (addr, len)
    → 1 ≤ len → len ≤ 16 → 64 ≤ length text → without_0x (drop 2 text) ≡ drop 2 text → 1 ≤ total
    → EndsLine text (drop (len + 2) text) (total - 1) → HoldsAddress text addr total
bare-address text addr len total written some most room bare some-2 ends =
    let front = address text 2 addr len written some most in
    din-address text front.0 (drop (len + 2) text) addr (len + 2) total (bare ∙ front.1) front.2
    (omega (arith, length-drop (len + 2) text, most, room)) some-2 ends

-- an address and an LF
pub short-address : (text : List ℕ) (addr len : ℕ) → WritesNumber 16 (drop 2 text) (addr, len) →
    1 ≤ len → len ≤ 16 → 64 ≤ length text → get_or text (len + 2) 0 ≡ 10
    → HoldsAddress text addr (len + 3)
short-address text addr len written some most room byte =
    let front = address text 2 addr len written some most in
    let at : len + 2 + 0 ≡ len + 2 = omega arith in
    let first : get_or (drop (len + 2) text) 0 0 ≡ 10 = get_or-drop (len + 2) text 0 0 ∙
    ap (λ k. get_or text k 0) at ∙ byte in
    let bare = ap without_0x front.1 ∙ no-prefix front.0 (drop (len + 2) text) addr front.2 first ∙
    sym front.1 in
    bare-address text addr len (len + 3) written some most room bare (omega arith)
    (ends-at text (len + 2) (len + 3) (omega (arith, most, room)) byte (omega arith))

pub lackey-line : (text : List ℕ) (op : Op) (addr len size total : ℕ) → (label : ℕ) × BeginsLabel
    text (drop 3 text) label × (lackey_op label ≡ Some op) → WritesNumber 16 (drop 3 text)
    (addr, len) → 1 ≤ len → len ≤ 16 → 64 ≤ length text → get_or text (len + 3) 0 ≡ 44
    → HoldsSize text (len + 4) size total
    → HoldsLine Lackey text (record { op = op; addr = addr; size = size }) total
lackey-line text op addr len size total begun written some most room comma held =
    let rest = drop 3 text in
    let item : Item = record { op = op; addr = addr; size = size } in
    let front = address text 3 addr len written some most in
    let next : len + 3 + 1 ≡ len + 4 = omega arith in
    let after : drop (len + 3) text ≡ 44 ∷ drop (len + 4) text =
    drop_more text (len + 3) 0 (omega (arith, most, room)) ∙
    (λ i. comma i ∷ drop (next i) text) in
    let begins = lackey-front text rest (drop (len + 4) text) front.0 held.digits held.end begun.0
    addr size op begun.1 begun.2 (front.1 ∙ ap (λ r. front.0 ++ r) after) front.2 held.splits
    held.writes in
    let found = line-end Lackey text held.end item (total - 1) begins held.ends in
    record { some = held.some; line_feed = found.0; means = found.1 }

-- a size of one digit and an LF
pub short-size : (text : List ℕ) (at : ℕ) → at + 1 < length text → 48 ≤ get_or text at 0 →
    get_or text at 0 ≤ 57 → get_or text (at + 1) 0 ≡ 10
    → HoldsSize text at (get_or text at 0 - 48) (at + 2)
short-size text at room low high byte = record {
  digits = get_or text at 0 ∷ [];
  end = drop (at + 1) text;
  splits = drop_more text at 0 (omega (arith, room));
  writes = one_digit (get_or text at 0) low high;
  some = omega arith;
  ends = ends-at text (at + 1) (at + 2) room byte (omega arith);
}

-- a size of any digits
pub late-size : (text : List ℕ) (at size total : ℕ) (ds end : List ℕ) → at ≤ length text →
    drop at text ≡ ds ++ end → number_written 10 9 ds ≡ Some size → 1 ≤ total
    → EndsLine text (drop (length text - length end) text) (total - 1)
    → HoldsSize text at size total
late-size text at size total ds end within splits writes some ends =
    let whole : text ≡ (take at text ++ ds) ++ end =
    sym (take-append-drop at text) ∙ ap (λ r. take at text ++ r) splits ∙
    sym (append_assoc (take at text) ds end) in
    let place : length text - length end ≡ length (take at text ++ ds) =
    omega (arith, ap length whole, length-append (take at text ++ ds) end) in
    let same : drop (length text - length end) text ≡ end =
    ap (λ k. drop k text) place ∙ ap (drop (length (take at text ++ ds))) whole ∙
    drop-append_seam (take at text ++ ds) end in
    record {
      digits = ds;
      end = end;
      splits = splits;
      writes = writes;
      some = some;
      ends = subst (λ r. EndsLine text r (total - 1)) same ends;
    }

-- what stands in the front of a text stands in it
pub holds-in-front : (f : Format) (text : List ℕ) (n : ℕ) (item : Item) (len : ℕ) →
    HoldsLine f (take n text) item len → HoldsLine f text item len
holds-in-front f text n item len held =
    let k = len - 1 in
    let found = held.line_feed.0 in
    let short : k < n = omega (arith, found.high, length-take n text) in
    let all : k < length text = omega (arith, found.high, length-take n text) in
    record {
      some = held.some;
      line_feed = (
        record {
          low = found.low;
          high = all;
          before = λ j low lt is. found.before j low lt
              (ap (λ c. c == 10) (get_or-take n text j 0 (omega (arith, lt, short))) ∙ is);
        },
        ap (λ c. c == 10) (sym (get_or-take n text k 0 short)) ∙ held.line_feed.1,
      );
      means = ap (meaning f) (sym (take-take k n text (omega (arith, short)))) ∙ held.means;
    }
