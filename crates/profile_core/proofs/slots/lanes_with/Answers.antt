use Rattle.std.proofs.Common.{arith, eqb, w8}
use Rattle.std.proofs.lemmas.Simd.{bitmask_splat}
use Rattle.profile_core.proofs.slots.lanes_with.Goals as goal

pub returns : goal.returns
returns c = bitmask_splat w8 eqb c.args.marks.now 16 c.args.mark c.requires (omega arith)
