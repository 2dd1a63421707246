-- The test of the standard library is that of the definition.
use Rattle.std.proofs.Common.{◌∙◌}
use Rattle.cache_core.proofs.PowersOfTwo.{is_power-is}
use Rattle.cache_core.proofs.powers.is_power.Goals as goal

pub returns : goal.returns
returns c = c.is_power_of_two.ensures ∙ is_power-is c.args.n c.ranges.n.fits
