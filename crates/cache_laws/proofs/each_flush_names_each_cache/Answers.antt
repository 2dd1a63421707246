-- The lines of the flushes name each cache, and show how many dirty blocks it finds.
use Rattle.cache_laws.proofs.FlushLines.{flush_names_law, flush_counts_law}
use Rattle.cache_laws.proofs.each_flush_names_each_cache.Goals as goal

pub returns-clause-names : goal.returns-clause-names
returns-clause-names c = flush_names_law

pub returns-clause-counts : goal.returns-clause-counts
returns-clause-counts c = flush_counts_law
