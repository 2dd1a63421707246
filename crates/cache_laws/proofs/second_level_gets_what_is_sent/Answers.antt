-- What arrives at the second level is what the first level sends down.
use Rattle.cache_laws.proofs.TakenLaw.{second_level_law}
use Rattle.cache_laws.proofs.second_level_gets_what_is_sent.Goals as goal

pub returns : goal.returns
returns c = second_level_law
