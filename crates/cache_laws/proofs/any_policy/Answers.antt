-- The three laws of any policy.
use Rattle.cache_laws.proofs.AnyLaw.{any_start, any_access, any_flush}
use Rattle.cache_laws.proofs.any_policy.Goals as goal

pub returns-clause-start : goal.returns-clause-start
returns-clause-start c = any_start

pub returns-clause-access : goal.returns-clause-access
returns-clause-access c = any_access

pub returns-clause-flush : goal.returns-clause-flush
returns-clause-flush c = any_flush
