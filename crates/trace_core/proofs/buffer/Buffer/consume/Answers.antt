-- Fewer bytes wait, from a later index on.
use Rattle.std.proofs.Common.{arith, ◌≤◌, ◌+◌, ◌-◌, drop, ap, ◌∙◌, length}
use Rattle.std.proofs.lemmas.List.{length-take}
use Rattle.trace_core.proofs.Buffers.{consumed}
use Rattle.trace_core.proofs.buffer.Buffer.consume.Goals as goal

pub returns : goal.returns
returns c =
    let b = c.self.inside in
    let inside : b.start + c.args.count ≤ b.end =
    omega (
      arith,
      length-take (b.end - b.start) (drop b.start b.bytes.items),
      ap length c.self.view_is,
    ) in
    consumed b.bytes.items b.start b.end c.args.count inside ∙ ap (drop c.args.count) c.self.view_is
