-- The first such byte behind an index.
use Rattle.std.proofs.Common.{arith, ◌∙◌, ◌≤◌, ap, length, take, get_or, w64, sym}
use Rattle.std.proofs.Common.{length-take-le}
use Rattle.std.proofs.lemmas.List.{get_or-drop, get_or-take, length-drop}
use Rattle.std.specs.Int.{trailing_zeros}
use Rattle.trace_core.proofs.SixteenBytes.{byte_at}
use Rattle.trace_core.proofs.plain_line.first_from.Goals as goal

pub returns-clause-byte : goal.returns-clause-byte
returns-clause-byte c below =
    let text = c.args.text.now in
    let rest = c.split_at.result.1.now in
    let n = trailing_zeros w64 c.byte_mask.result in
    let room : 16 ≤ length rest =
    omega (arith, ap length c.split_at.ensures.back, length-drop c.args.at text, c.requires.room) in
    sym (get_or-drop c.args.at text n 0) ∙ ap (λ r. get_or r n 0) (sym c.split_at.ensures.back) ∙
    sym (get_or-take 16 rest n 0 below)
    ∙ byte_at c.args.byte (take 16 rest) n (length-take-le 16 rest room)
    (ap (trailing_zeros w64) c.byte_mask.ensures) below
