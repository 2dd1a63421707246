-- The bypassed references are those that no first-level cache takes.
use Rattle.cache_laws.proofs.MemoryLaw.{bypassed_law}
use Rattle.cache_laws.proofs.bypassed_are_the_untaken.Goals as goal

pub returns : goal.returns
returns c = bypassed_law
