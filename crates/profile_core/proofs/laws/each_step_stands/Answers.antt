use Rattle.profile_core.proofs.profile.Stands.{new_stands, reference_stands, flush_stands}
use Rattle.profile_core.proofs.laws.each_step_stands.Goals as goal

pub returns-clause-new : goal.returns-clause-new
returns-clause-new c = new_stands

pub returns-clause-reference : goal.returns-clause-reference
returns-clause-reference c = reference_stands

pub returns-clause-flush : goal.returns-clause-flush
returns-clause-flush c = flush_stands
