-- The occurrences in a list with one event more.
use Rattle.cache_core.proofs.Occurrences.{occurrences-reference, occurrences-flush}
use Rattle.cache_laws.proofs.occurrences_grow.Goals as goal

pub returns-clause-reference : goal.returns-clause-reference
returns-clause-reference c = occurrences-reference

pub returns-clause-flush : goal.returns-clause-flush
returns-clause-flush c = occurrences-flush
