-- The digits stand in front of sixteen, and are moved there.
use Rattle.std.proofs.Common.{◌++◌, ap, ◌∙◌, take, refl}
use Rattle.trace_core.proofs.HexadecimalDigits.{front_digits}
use Rattle.trace_core.proofs.text.Text.push_hexadecimal.Goals as goal

pub returns-clause-value : goal.returns-clause-value
returns-clause-value g c =
    let count = c.hexadecimal_len-count in
    let moved = front_digits c.args.number count.result _ count.ensures.most count.ensures.fits refl
    in
    c.push_front.ensures.value ∙
    ap (λ ds. c.args.self.now ++ ds) (ap (take count.result) c.sixteen_digits-digits.ensures ∙
    moved ∙ count.ensures.value)
