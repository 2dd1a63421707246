use Rattle.std.proofs.Common.{arith, eqb, w8}
use Rattle.std.proofs.lemmas.Simd.{bitmask_splat}
use Rattle.trace_core.proofs.nibbles.byte_mask.Goals as goal

pub returns : goal.returns
returns c = bitmask_splat w8 eqb c.args.bytes 16 c.args.byte c.fits-bytes.0 (omega arith)
