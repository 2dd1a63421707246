-- A text that goes on for ever gives its bytes in turn.
use Rattle.std.proofs.Common.{◌≡◌, ◌+◌, ◌-◌, ◌≤◌, ◌++◌, length, take, drop, sym, ap, ◌∙◌, arith}
use Rattle.std.proofs.Math.Seq.{take-length, drop-length}
use Rattle.std.proofs.lemmas.List.{append-nil, length-drop, length-take}
use Rattle.trace_core.proofs.Buffers.{turned}
use Rattle.trace_core.proofs.devices.LoopSourceSource.read.Goals as goal
use Rattle.trace_core.proofs.devices.LoopSourceSource.read.Goals.{then-self, else-self}

pub returns-clause-turned : goal.returns-clause-turned
returns-clause-turned c =
    let text = c.if-self.self-inside.text.now in
    let at = c.if-self.self-inside.at in
    let n = c.min-count.result in
    let before = c.self.inside.text.now in
    let round : drop at text ++ take at text ≡ c.args.self.now =
    elim c.if-self.branch [
      | then-self w ↦
          let whole : length before ≡ c.self.inside.at =
          omega (arith, w.if-self.true, c.self.invariant.0) in
          rw w.self-inside-is (append-nil before ∙
          sym (ap (λ d. d ++ take (length before) before) (drop-length before) ∙
          take-length before)
          ∙ ap (λ k. drop k before ++ take k before) whole ∙ c.self.view_is)
      | else-self w ↦ rw w.self-inside-is c.self.view_is
    ] in
    let from : at ≤ length text =
    elim c.if-self.branch [
      | then-self w ↦ rw w.self-inside-is (omega arith)
      | else-self w ↦ rw w.self-inside-is (omega (arith, w.if-self.false))
    ] in
    let inside : at + n ≤ length text =
    omega (
      arith,
      from,
      c.min-count.ensures,
      length-take (length text - at) (drop at text),
      length-drop at text,
    ) in
    turned text at n inside ∙ ap (λ xs. drop n xs ++ take n xs) round
