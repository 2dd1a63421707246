-- A number has at most twenty digits, and for these there is room in front.
use Rattle.std.proofs.Common.{◌≡◌, ℕ, ◌-◌, ◌<◌, ◌≤◌, ◌^◌, ◌∙◌, List, ap, sym, length, drop, arith}
use Rattle.std.proofs.Common.{decimal, length-drop}
use Rattle.std.proofs.Math.ListN.{length-set}
use Rattle.std.proofs.lemmas.Fmt.{length-decimal-le}
use Rattle.sweep_core.proofs.row_text.RowText.put_in_front.Goals as goal

-- how many digits a number has
digits : (n : ℕ) → n < 2 ^ 64 → length (decimal n) ≤ 20
digits n fits = length-decimal-le 20 n (omega arith) (omega arith) fits

-- how many bytes a text has that begins at `start`
held : (bytes text : List ℕ) (start : ℕ) → drop start bytes ≡ text →
    length text ≡ length bytes - start
held bytes text start is = ap length (sym is) ∙ length-drop start bytes

pub write_digits-self-inside-requires : goal.write_digits-self-inside-requires
write_digits-self-inside-requires c =
    let number = digits c.args.number c.ranges.number.fits in
    let length = held c.self.inside.bytes c.args.self.now c.self.inside.start c.self.view_is in
    (omega (arith, number, length), omega (arith, length-set {A = ℕ}))

pub returns-clause-short : goal.returns-clause-short
returns-clause-short c =
    let number = digits c.args.number c.ranges.number.fits in
    let length = held c.self.inside.bytes c.args.self.now c.self.inside.start c.self.view_is in
    omega (arith, number, length, length-drop {A = ℕ})
