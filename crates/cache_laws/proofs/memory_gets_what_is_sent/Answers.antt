-- What arrives at memory is what the last level sends.
use Rattle.cache_laws.proofs.MemoryLaw.{memory_law}
use Rattle.cache_laws.proofs.memory_gets_what_is_sent.Goals as goal

pub returns : goal.returns
returns c = memory_law
