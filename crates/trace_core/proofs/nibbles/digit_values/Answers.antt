use Rattle.std.proofs.Common.{◌≡◌, ◌∙◌, ap, map, length, get_or, subst, sym}
use Rattle.std.specs.Int.Digits.{AllBelowBase}
use Rattle.std.proofs.lemmas.List.{length-map}
use Rattle.trace_core.proofs.SixteenBytes.{nibbles_are, nibbles_small, nibble_value, nibble}
use Rattle.trace_core.proofs.SixteenBytes.{letter, letters_of_capped}
use Rattle.trace_core.proofs.nibbles.digit_values.Goals as goal

letters : (c : goal.After-letters) → c.letters.result ≡ map letter c.args.bytes
letters c = c.letters.ensures ∙ letters_of_capped c.args.bytes c.ascii_lanes.result
    c.ascii_lanes.ensures.values c.fits-bytes.1

pub returns-clause-lanes : goal.returns-clause-lanes
returns-clause-lanes c = rw (letters c) (ap length (nibbles_are c.args.bytes c.fits-bytes.0) ∙
    length-map c.args.bytes nibble ∙ c.fits-bytes.0)

pub returns-clause-below : goal.returns-clause-below
returns-clause-below c = rw (letters c)
    (subst (AllBelowBase 16) (sym (nibbles_are c.args.bytes c.fits-bytes.0))
    (nibbles_small c.args.bytes c.fits-bytes.1))

pub returns-clause-values : goal.returns-clause-values
returns-clause-values c k is =
    rw (letters c) (ap (λ l. get_or l k 0) (nibbles_are c.args.bytes c.fits-bytes.0) ∙
    nibble_value c.args.bytes k c.fits-bytes.1 is)
