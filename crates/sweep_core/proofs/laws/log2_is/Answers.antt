-- The logarithm of a power of two.
use Rattle.cache_core.proofs.PowersOfTwo.{log2-is}
use Rattle.sweep_core.proofs.laws.log2_is.Goals as goal

pub returns : goal.returns
returns c = log2-is
