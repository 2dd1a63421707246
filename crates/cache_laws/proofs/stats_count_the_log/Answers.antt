-- The statistics of a system are the counts of its log.
use Rattle.cache_laws.proofs.LogLaw.{log_law}
use Rattle.cache_laws.proofs.stats_count_the_log.Goals as goal

pub returns : goal.returns
returns c = log_law
