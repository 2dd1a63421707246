use Rattle.profile_core.proofs.profile.Later.{batch_with_fronts, references_of}
use Rattle.profile_core.proofs.laws.batch_with_its_fronts_is_all.Goals as goal

pub returns-clause-addresses : goal.returns-clause-addresses
returns-clause-addresses c = batch_with_fronts

pub returns-clause-events : goal.returns-clause-events
returns-clause-events c = references_of
