-- No block is larger than 2^20 bytes.
use Rattle.std.proofs.Common.{arith}
use Rattle.std.proofs.Math.Nat.{pow-le-pow_right}
use Rattle.std.proofs.lemmas.Nat.{pow_pos}
use Rattle.cache_core.proofs.geometry.Geometry.block_of.Goals as goal

pub returns-clause-past_first : goal.returns-clause-past_first
returns-clause-past_first c = grind (arith, pow-le-pow_right, pow_pos)
