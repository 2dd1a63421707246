-- What arrives at a first-level cache is what it takes.
use Rattle.cache_laws.proofs.TakenLaw.{fetch_cache_law, data_cache_law, unified_cache_law}
use Rattle.cache_laws.proofs.first_level_gets_what_it_takes.Goals as goal

pub returns-clause-fetches : goal.returns-clause-fetches
returns-clause-fetches c = fetch_cache_law

pub returns-clause-data : goal.returns-clause-data
returns-clause-data c = data_cache_law

pub returns-clause-unified : goal.returns-clause-unified
returns-clause-unified c = unified_cache_law
