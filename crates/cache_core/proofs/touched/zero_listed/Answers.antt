-- Where no set is left, no count is.
use Rattle.std.proofs.Common.{arith}
use Rattle.std.proofs.lemmas.List.{drop_all}
use Rattle.cache_core.proofs.TouchedSets.{no_count}
use Rattle.cache_core.proofs.touched.zero_listed.Goals as goal

pub returns : goal.returns
returns c = grind (arith, drop_all, no_count)
