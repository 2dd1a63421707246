use Rattle.profile_core.proofs.profile.Later.{lacks_new, lacks_reference, lacks_batch, lacks_flush}
use Rattle.profile_core.proofs.profile.Later.{caught_up}
use Rattle.profile_core.proofs.laws.fronts_can_be_counted_later.Goals as goal

pub returns-clause-new : goal.returns-clause-new
returns-clause-new c = lacks_new

pub returns-clause-reference : goal.returns-clause-reference
returns-clause-reference c = lacks_reference

pub returns-clause-batch : goal.returns-clause-batch
returns-clause-batch c = lacks_batch

pub returns-clause-flush : goal.returns-clause-flush
returns-clause-flush c = lacks_flush

pub returns-clause-caught : goal.returns-clause-caught
returns-clause-caught c = caught_up
